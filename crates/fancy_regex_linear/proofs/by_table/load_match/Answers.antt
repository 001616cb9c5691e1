use Rattle.std.proofs.Common.{◌∙◌, refl, sym, true≢false}
use Rattle.fancy_regex_linear.proofs.SettleLemmas.{trace_of_end, spot_at}
use Rattle.fancy_regex_linear.proofs.by_table.load_match.Goals as goal

pub returns-then-span_only-clause-loaded : goal.returns-then-span_only-clause-loaded
returns-then-span_only-clause-loaded c = record {
  says = λ view go explains failed end is.
      let a = (go c.args.context.now.entry c.args.start).answer in
      let at_end = trace_of_end c.args.memory.now.backtrack.slots.items a end is in
      (at_end.0, at_end.1, λ no. absurd (true≢false (sym c.if-span_only.true ∙ no)));
}

pub returns-clause-loaded : goal.returns-clause-loaded
returns-clause-loaded c = record {
  says = λ view go explains failed end is.
      let a = (go c.args.context.now.entry c.args.start).answer in
      let slots = c.attempt_start.new.memory.backtrack.slots.items in
      let at_end = trace_of_end c.args.memory.now.backtrack.slots.items a end is in
      let value = c.in_ok-attempt_start.ensures.end.value view go explains failed in
      (slots, spot_at c.in_ok-attempt_start.field-0 slots at_end.0 end (value ∙ sym at_end.1) ∙ at_end.1, λ no. refl);
}
