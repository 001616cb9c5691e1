use Rattle.std.proofs.Common.{◌≡◌, ◌<◌, ℕ, false, arith, get_or, length, subst, sym}
use Rattle.std.proofs.lemmas.List.{get_or_default, get_or_read}
use Rattle.fancy_regex_states.specs.First.{state_at}
use Rattle.fancy_regex_states.specs.Before.{OnlyLeadsOn, LeadsAfter}
use Rattle.fancy_regex_states.specs.declared.atom.Leaf.TheVariants.{Any}
use Rattle.fancy_regex_states.specs.declared.state.State.TheVariants.{Read, Match}
use Rattle.fancy_regex_states.proofs.FirstLemmas.{contains_more}
use Rattle.fancy_regex_states.proofs.BeforeLemmas.{after_more, none_after}
use Rattle.fancy_regex_states.proofs.before.refuses.Goals as goal

pub loop-next-preserved : goal.loop-next-preserved
loop-next-preserved c =
    let states = c.args.states.now in
    let unicode = c.args.before.unicode in
    let matchers = c.args.before.matchers.now in
    let old = c.loop-next.found.items in
    let inv = c.loop-next.invariant in
    let more = c.in_ok-only_leads_on.ensures.extends in
    let within : c.loop-next.next < length old = omega (arith, c.len.ensures, c.if-next-len.false) in
    let number : c.index-number.result.now ≡ get_or old c.loop-next.next 0 = get_or_read old c.loop-next.next _ within c.index-number.ensures 0 in
    let here = get_or_default states c.index-number.result.now (Read (Any false false) 0) Match (omega (arith, c.if-number-states.false)) in
    let leads_on = rw here at c.in_ok-only_leads_on.ensures.leads_on c.if-not-only_leads_on.false in
    let successors = rw here at c.in_ok-only_leads_on.ensures.successors c.if-not-only_leads_on.false in
    record {
      entry = contains_more old c.add_successors.new.found.items c.args.entry more inv.entry;
      inside = omega (arith, more.0, within);
      have = after_more unicode matchers states c.args.entry c.args.before.character old c.add_successors.new.found.items c.loop-next.next more within inv.have
          (subst (λ (m : ℕ). OnlyLeadsOn (state_at states m)) number leads_on)
          (λ k p meant leads. successors k p meant (subst (λ (m : ℕ). LeadsAfter unicode matchers k (state_at states m) p) (sym number) leads));
    }

pub returns-then-next-len : goal.returns-then-next-len
returns-then-next-len c = λ is k meant.
    none_after c.args.before.unicode c.args.before.matchers.now c.args.states.now c.args.entry c.args.before.character c.loop-next.found.items c.loop-next.next k
    (omega (arith, c.len.ensures, c.if-next-len.true)) meant c.loop-next.invariant.entry c.loop-next.invariant.have
