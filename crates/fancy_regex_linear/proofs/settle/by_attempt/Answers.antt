use Rattle.std.proofs.Common.{◌∙◌, ℕ, Option, refl, sym, arith}
use Rattle.fancy_regex_class.specs.Looks.{looked_text}
use Rattle.fancy_regex_states.specs.Attempts.{Continuation}
use Rattle.fancy_regex_linear.specs.Meaning.{Spot}
use Rattle.fancy_regex_linear.specs.Find.{places_from}
use Rattle.fancy_regex_linear.specs.Starts.{spot_from}
use Rattle.fancy_regex_linear.proofs.StartLemmas.{earliest_next, earliest_here, tried_next, tried_here, above_base, next_after}
use Rattle.fancy_regex_linear.proofs.settle.by_attempt.Goals as goal
use Rattle.fancy_regex_linear.proofs.settle.by_attempt.Goals.{After-attempt_start}

-- what an attempt at a place gives
abbrev spot : (c : After-attempt_start) → (ℕ → Continuation) → ℕ → Option Spot
spot c go = spot_from go c.args.context.now.entry c.args.memory.now.backtrack.slots.items

pub returns-in-Some-clause-settled : goal.returns-in-Some-clause-settled
returns-in-Some-clause-settled c span_only =
    let d = (goal.at.returns-in-Some-clause-settled c).After-attempt_start in
    let place = c.args.place in
    let slots = c.attempt_start.new.memory.backtrack.slots.items in
    let rest = places_from (looked_text c.args.text.now) c.args.anchored place.next c.args.context.now.stop in
    record {
      says = λ view go explains failed.
          let value = rw c.in-Some.is at (c.in_ok-end.ensures.end.value view go explains failed) in
          let one = tried_here (spot d go) place.at rest _ (sym value) in (
            record { found_slots = slots; is = sym (earliest_here (spot d go) place.at rest _ (sym value)); same_slots = λ _. refl },
            omega (arith, one, c.attempt_start.ensures.attempt.looks.more),
          );
      on = tt;
    }

pub returns-clause-settled : goal.returns-clause-settled
returns-clause-settled c span_only =
    let d = (goal.at.returns-clause-settled c).After-attempt_start in
    let place = c.args.place in
    let text = looked_text c.args.text.now in
    let stop : ℕ = c.args.context.now.stop in
    let rest = places_from text c.args.anchored place.next stop in
    let is = c.requires.start.start.1 in
    let attempt = c.attempt_start.ensures.attempt in
    let after = next_after text stop place.at place.next is.high is.next in
    record {
      says = λ view go explains failed.
          let value = rw c.in_default.is at (c.in_ok-end.ensures.end.value view go explains failed) in
          let both = c.in_ok-end.ensures.end.failed c.in_default.is view go explains failed in
          let next = earliest_next (spot d go) place.at rest (sym value) in
          let more = tried_next (spot d go) place.at rest (sym value) in
          (both.0, both.1, next, omega (arith, more, attempt.looks.more));
      on = record {
        after = is.next;
        base = above_base text stop c.attempt_start.new.memory.visited.base place.at place.next attempt.base.1 is.next;
        between = record {
          count = attempt.count ∙ c.requires.start.between.count;
          rows = attempt.rows;
          empty = c.in_ok-end.ensures.end.empty c.in_default.is;
          farthest = attempt.farthest ∙ c.requires.start.between.farthest ∙ sym attempt.slots;
        };
        counted = omega (arith, attempt.counted, after);
      };
    }
