use Rattle.std.proofs.Common.{◌∙◌, ap, arith}
use Rattle.std.proofs.lemmas.List.{nil_from_length, set_past}
use Rattle.fancy_regex_linear.specs.Search.{top_first, resume_result}
use Rattle.fancy_regex_linear.proofs.StackLemmas.{top_pushed}
use Rattle.fancy_regex_linear.proofs.backtrack.BacktrackState.pop_explore.Goals as goal

pub returns-in-Explore-clause-popped : goal.returns-in-Explore-clause-popped
unfolding resume_result
returns-in-Explore-clause-popped c =
    let frame = c.in-Some.frame in
    c.loop-frame.invariant.same
    ∙ ap (λ fs. resume_result (top_first fs) c.loop-frame.self.slots.items) c.in-Some.ensures.items
    ∙ ap (λ fs. resume_result fs c.loop-frame.self.slots.items) (top_pushed c.pop.new.self.items frame)
    ∙ (rw c.in-Explore.is)

pub loop-frame-preserved-then-slot-len : goal.loop-frame-preserved-then-slot-len
unfolding resume_result
loop-frame-preserved-then-slot-len c = record {
  same =
      let frame = c.in-Some.frame in
      c.loop-frame.invariant.same
      ∙ ap (λ fs. resume_result (top_first fs) c.loop-frame.self.slots.items) c.in-Some.ensures.items
      ∙ ap (λ fs. resume_result fs c.loop-frame.self.slots.items) (top_pushed c.pop.new.self.items frame)
      ∙ (rw c.in-Restore.is);
  shorter = omega (arith, c.in-Some.ensures.len, c.loop-frame.invariant.shorter);
  slots = c.loop-frame.invariant.slots;
}

pub loop-frame-preserved : goal.loop-frame-preserved
unfolding resume_result
loop-frame-preserved c = record {
  same =
      let frame = c.in-Some.frame in
      c.loop-frame.invariant.same
      ∙ ap (λ fs. resume_result (top_first fs) c.loop-frame.self.slots.items) c.in-Some.ensures.items
      ∙ ap (λ fs. resume_result fs c.loop-frame.self.slots.items) (top_pushed c.pop.new.self.items frame)
      ∙ (rw c.in-Restore.is (ap (resume_result (top_first c.pop.new.self.items)) (set_past c.loop-frame.self.slots.items c.in-Restore.slot c.in-Restore.old (omega (arith, c.len.ensures, c.if-slot-len.false, c.loop-frame.self.slots.ok.0)))));
  shorter = omega (arith, c.in-Some.ensures.len, c.loop-frame.invariant.shorter);
  slots = c.loop-frame.invariant.slots;
}

pub returns-clause-popped : goal.returns-clause-popped
unfolding resume_result top_first
returns-clause-popped c =
    c.loop-frame.invariant.same
    ∙ ap (λ fs. resume_result (top_first fs) c.loop-frame.self.slots.items) (nil_from_length c.loop-frame.self.stack.items (omega (arith, c.in_default.ensures.cases.0, c.loop-frame.self.stack.ok.0)))
