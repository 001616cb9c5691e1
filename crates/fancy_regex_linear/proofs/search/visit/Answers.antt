use Rattle.std.proofs.Common.{false, rules, arith}
use Rattle.std.proofs.lemmas.List.{get_or_default}
use Rattle.fancy_regex_states.specs.declared.state.State.TheVariants.{Match, Read}
use Rattle.fancy_regex_states.specs.declared.atom.Leaf.TheVariants.{Any}
use Rattle.fancy_regex_linear.proofs.DfsLemmas.{Dfs-seen}
use Rattle.fancy_regex_linear.proofs.search.visit.Goals as goal

pub returns-then-not-branch-clause-visit : goal.returns-then-not-branch-clause-visit
returns-then-not-branch-clause-visit c = record {
  tracking = λ view go explains aim best bottom d.
      let was = rw c.if-not-branch.true at c.in_ok-insert_pair.ensures.counted in
      Dfs-seen view.longest d was.0 c.insert_pair.ensures.adds;
  next = tt;
  within = c.requires.place.within;
  progress = let was = rw c.if-not-branch.true at c.in_ok-insert_pair.ensures.counted in (omega (arith, was.1), omega (arith, was.1));
}

pub returns-clause-visit : goal.returns-clause-visit
returns-clause-visit c =
    let pair = c.requires.place.pair in
    record {
      tracking = λ view go explains aim best bottom d.
          let here = get_or_default c.args.context.now.states.now c.args.id (Read (Any false false) 0) Match pair.state in
          c.in_ok-next.ensures.tracking view go c.args.id explains.longest
          (explains.shows c.args.at pair.boundary)
          (rw here (explains.agree c.args.id pair.state).asks)
          (rw here ((explains.agree c.args.id pair.state).does c.args.at pair.high))
          aim best bottom c.args.visited.now c.insert_pair.new.self c.insert_pair.ensures.adds d;
      next = c.in_ok-next.ensures.next c.args.visited.now.base pair.low;
      within = c.in_ok-next.ensures.within c.args.visited.now.base pair.low c.requires.place.within;
      progress = search rules;
    }

pub step-requires-clause-names : goal.step-requires-clause-names
step-requires-clause-names c =
    let here = get_or_default c.args.context.now.states.now c.args.id (Read (Any false false) 0) Match c.requires.place.pair.state in
    rw here (c.requires.context.closed c.args.id c.requires.place.pair.state)
