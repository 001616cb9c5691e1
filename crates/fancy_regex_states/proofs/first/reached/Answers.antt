use Rattle.std.proofs.Common.{◌≡◌, ◌<◌, ℕ, false, arith, get_or, length, subst, sym}
use Rattle.std.proofs.lemmas.List.{get_or_default, get_or_read}
use Rattle.fancy_regex_states.specs.First.{state_at, Leads}
use Rattle.fancy_regex_states.specs.declared.atom.Leaf.TheVariants.{Any}
use Rattle.fancy_regex_states.specs.declared.state.State.TheVariants.{Read, Match}
use Rattle.fancy_regex_states.proofs.FirstLemmas.{contains_more, into_more}
use Rattle.fancy_regex_states.proofs.first.reached.Goals as goal

pub loop-next-preserved : goal.loop-next-preserved
loop-next-preserved c =
    let states = c.args.states.now in
    let old = c.loop-next.found.items in
    let inv = c.loop-next.invariant in
    let more = c.in_ok-add_successors.ensures.extends in
    let within : c.loop-next.next < length old = omega (arith, c.len.ensures, c.if-next-len.false) in
    let number : c.index-number.result.now ≡ get_or old c.loop-next.next 0 = get_or_read old c.loop-next.next _ within c.index-number.ensures 0 in
    let here = get_or_default states c.index-number.result.now (Read (Any false false) 0) Match (omega (arith, c.if-number-states.false)) in
    let successors = rw here at c.in_ok-add_successors.ensures.successors in
    record {
      entry = contains_more old c.add_successors.new.found.items c.args.entry more inv.entry;
      inside = omega (arith, more.0, within);
      into = into_more states old c.add_successors.new.found.items c.loop-next.next more within inv.into
          (λ p leads. successors p (subst (λ (m : ℕ). Leads (state_at states m) p) (sym number) leads));
    }
