use Rattle.std.proofs.Common.{◌≡◌, ◌∙◌, ◌+◌, ◌<◌, ◌≤◌, ℕ, List, Option, None, inl, inr, sym, ap, subst, arith, IsCharBoundary}
use Rattle.std.proofs.lemmas.Bool.{cases_lt}
use Rattle.fancy_regex_class.specs.Looks.{looked_text}
use Rattle.fancy_regex_states.specs.Attempts.{View, Continuation}
use Rattle.fancy_regex_linear.specs.Attempt.{trace_end}
use Rattle.fancy_regex_linear.specs.Visited.{Has}
use Rattle.fancy_regex_linear.specs.Search.{AllFail, Explains, end_spot}
use Rattle.fancy_regex_linear.specs.Settled.{FailBetween, IsBoundaryAfter}
use Rattle.fancy_regex_linear.specs.declared.search.SearchContext.{SearchContext}
use Rattle.fancy_regex_linear.proofs.SettleLemmas.{none_is_not, none_of_trace, attempt_then, fail_more}
use Rattle.fancy_regex_linear.proofs.by_table.first_tried.Goals as goal
use Rattle.fancy_regex_linear.proofs.by_table.first_tried.Goals.{In_ok-end}

-- the next boundary is not past a later one
not_past : (text : List ℕ) (at next last : ℕ) → IsBoundaryAfter text at next → at < last → IsCharBoundary text last → next ≤ last
not_past text at next last after low boundary =
    elim (cases_lt last next) [
      | inl past ↦ absurd (after.alone last low past boundary)
      | inr le ↦ le
    ]

-- between a start and the next boundary there is none
fail_to : (context : SearchContext) (text : List ℕ) (go : ℕ → Continuation) (from at next : ℕ) → IsBoundaryAfter text at next
    → FailBetween context text go from (at + 1) → FailBetween context text go from next
fail_to context text go from at next after before p low high boundary =
    elim (cases_lt at p) [
      | inl over ↦ absurd (after.alone p over high boundary)
      | inr le ↦ before p low (omega (arith, le)) boundary
    ]

-- what is known of the attempt
record Attempted (c : In_ok-end) (view : View) (go : ℕ → Continuation) : Type 0 where
  pub before : FailBetween c.args.context.now (looked_text c.args.text.now) go c.args.from c.starts.start
  pub value : end_spot c.in_ok-end.field-0 c.attempt_start.new.memory.backtrack.slots.items ≡ trace_end c.args.memory.now.backtrack.slots.items (go c.args.context.now.entry c.starts.start).answer
  pub failed : c.in_ok-end.field-0 ≡ None → AllFail view.longest go (Has c.attempt_start.new.memory.visited)
      × (c.attempt_start.new.memory.backtrack.slots.items ≡ c.args.memory.now.backtrack.slots.items)
      × FailBetween c.args.context.now (looked_text c.args.text.now) go c.args.from (c.starts.start + 1)

attempted_here : (c : In_ok-end) (view : View) (go : ℕ → Continuation) → Explains c.args.context.now (looked_text c.args.text.now) view go
    → AllFail view.longest go (Has c.args.memory.now.visited) → Attempted c view go
attempted_here c view go explains failed =
    let inv = c.starts.invariant.found view go explains failed in
    let here : Explains c.args.context.now (looked_text c.starts.text) view go = rw c.starts.invariant.attempt.looks.text explains in
    let a = (go c.args.context.now.entry c.starts.start).answer in
    let value = c.in_ok-end.ensures.end.value view go here inv.0 ∙ ap (λ s. trace_end s a) inv.1 in
    record {
      before = inv.2;
      value = value;
      failed = λ none.
          let both = c.in_ok-end.ensures.end.failed none view go here inv.0 in
          let no_way = none_of_trace c.args.memory.now.backtrack.slots.items a
          (ap (λ (o : Option ℕ). end_spot o c.attempt_start.new.memory.backtrack.slots.items) (sym none) ∙ value) in
          (both.0, both.1 ∙ inv.1, fail_more c.args.context.now (looked_text c.args.text.now) go c.args.from c.starts.start inv.2 no_way);
    }

pub returns-in-Some-clause-tried : goal.returns-in-Some-clause-tried
returns-in-Some-clause-tried c = record {
  range = (c.starts.invariant.range.0, c.starts.invariant.range.1, c.starts.invariant.boundary);
  says = λ view go explains failed.
      let it = attempted_here (goal.at.returns-in-Some-clause-tried c).In_ok-end view go explains failed in
      (it.before, rw c.in-Some.is at it.value);
  empty = λ e. absurd (none_is_not (sym e));
}

pub returns-then-start-last-clause-tried : goal.returns-then-start-last-clause-tried
returns-then-start-last-clause-tried c =
    let last : c.starts.start ≡ c.args.last = omega (arith, c.if-start-last.true, c.starts.invariant.range.1) in
    record {
      range = tt;
      says = λ view go explains failed.
          let it = attempted_here (goal.at.returns-then-start-last-clause-tried c).In_ok-end view go explains failed in
          let all = it.failed c.in_default.is in
          (rw last at all.2, all.0, all.1);
      empty = λ e. c.in_ok-end.ensures.end.empty c.in_default.is;
    }

pub starts-preserved : goal.starts-preserved
starts-preserved c =
    let old = c.starts.invariant in
    let attempt = c.attempt_start.ensures.attempt in
    let text = looked_text c.args.text.now in
    let after : IsBoundaryAfter text c.starts.start c.boundary_after-start.result = rw c.requires.shown at c.boundary_after-start.ensures in
    let low = after.low in
    let in_time = not_past text c.starts.start c.boundary_after-start.result c.args.last after (omega (arith, c.if-start-last.false))
    (subst (λ (t : List ℕ). IsCharBoundary t c.args.last) c.requires.shown c.requires.boundaries.1) in
    record {
      range = (omega (arith, old.range.0, low), in_time);
      boundary = after.boundary;
      found = λ view go explains failed.
          let all = (attempted_here (goal.at.starts-preserved c).In_ok-end view go explains failed).failed c.in_default.is in
          (all.0, all.1, fail_to c.args.context.now text go c.args.from c.starts.start c.boundary_after-start.result after all.2);
      attempt = attempt_then c.args.context.now c.args.text.now c.starts.text c.attempt_start.new.text c.args.memory.now c.starts.memory c.attempt_start.new.memory
          c.args.last c.starts.start c.args.last old.attempt attempt old.range.1;
      base = omega (arith, attempt.base.1, low);
      between = record {
        count = attempt.count ∙ old.between.count;
        rows = attempt.rows;
        empty = c.in_ok-end.ensures.end.empty c.in_default.is;
        farthest = attempt.farthest ∙ old.between.farthest ∙ sym attempt.slots;
      };
    }
