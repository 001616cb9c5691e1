use Rattle.std.proofs.Common.{◌≡◌, ◌+◌, ◌<◌, ◌≤◌, ℕ, false, length, subst, arith}
use Rattle.std.proofs.lemmas.Bool.{ltb-true}
use Rattle.std.proofs.lemmas.List.{get_or_read}
use Rattle.fancy_regex_states.specs.Attempts.{NamesBelow}
use Rattle.fancy_regex_states.specs.First.{state_at}
use Rattle.fancy_regex_parts.specs.Tables.{cost_of, reach_of, needed_reach_of, owed, may_write, leads_to_write}
use Rattle.fancy_regex_states.specs.declared.state.State.TheVariants.{Match}
use Rattle.fancy_regex_parts.proofs.table.PartTable.is_right_at.Goals as goal

pub returns : goal.returns
returns c holds =
    let table = c.args.self.now in
    let state : c.index-state.result.now ≡ state_at table.states.items c.args.q = get_or_read table.states.items c.args.q _ c.requires c.index-state.ensures Match in
    let count : c.len.result ≡ length table.states.items = omega (arith, c.len.ensures, table.states.ok.0) in
    let less : c.owed.result < c.cost-cost.result = ltb-true _ _ holds in
    let paid : owed table c.index-state.result.now + 1 ≤ cost_of table c.args.q = omega (arith, less, c.owed.ensures, c.cost-cost.ensures) in
    record {
      closed = subst (NamesBelow (length table.states.items)) state (subst (λ (n : ℕ). NamesBelow n c.index-state.result.now) count (c.names_below.ensures.names c.if-not-names_below.false));
      marked = c.has_mark.ensures c.if-not-has_mark.false;
      cheap = omega (arith, c.cost-cost.ensures, c.if-cost-len.false, c.len-2.ensures, table.states.ok.0);
      paid = subst (λ s. owed table s + 1 ≤ cost_of table c.args.q) state paid;
      reaches = subst (λ s. needed_reach_of table s ≤ reach_of table c.args.q) state
          (omega (arith, c.if-reach-needed_reach.false, c.reach.ensures, c.needed_reach.ensures));
      no_write = subst (λ s. may_write table.writes.items c.args.q ≡ false → leads_to_write table.writes.items s ≡ false) state
          (c.is_right_of_writes.ensures c.if-not-is_right_of_writes.false);
    }
