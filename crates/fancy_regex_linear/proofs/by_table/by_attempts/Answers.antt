use Rattle.std.proofs.Common.{◌≡◌, ◌∙◌, ◌+◌, ◌-◌, ◌^◌, ◌≤◌, ◌∷◌, ℕ, List, false, min, IfSome, IsCharBoundary, refl, sym, subst, arith}
use Rattle.fancy_regex_class.specs.Looks.{looked_text, look_count}
use Rattle.fancy_regex_linear.specs.Find.{places, places_from}
use Rattle.fancy_regex_linear.specs.Starts.{IsAfter}
use Rattle.fancy_regex_linear.proofs.StartLemmas.{failed_next, above_base, next_after}
use Rattle.fancy_regex_linear.proofs.SettleLemmas.{on_says, found_says, no_spot, after_earlier, fail_on}
use Rattle.fancy_regex_linear.proofs.by_table.by_attempts.Goals as goal
use Rattle.fancy_regex_linear.proofs.by_table.by_attempts.Goals.{After-first_tried}

-- the text that the attempts look at
text_is : (c : After-first_tried) → looked_text c.end_pass-after.new.text ≡ looked_text c.args.text.now
text_is c = c.end_pass-after.ensures.text

-- the looks of the table and at the last character
looks : (c : After-first_tried) → (look_count c.end_pass-after.new.text ≤ look_count c.args.text.now + (c.args.read - c.args.place.at))
    × (min (look_count c.args.text.now + (c.args.read - c.args.place.at)) (2 ^ 64 - 1) ≤ look_count c.end_pass-after.new.text)
looks c = (omega (arith, c.end_pass-after.ensures.looks), omega (arith, c.end_pass-after.ensures.looks))

pub returns-in-Some-clause-settled : goal.returns-in-Some-clause-settled
returns-in-Some-clause-settled c span_only =
    let d = (goal.at.returns-in-Some-clause-settled c).After-first_tried in
    let context = c.args.context.now in
    let text = looked_text c.args.text.now in
    let place = c.args.place in
    let memory = c.args.memory.now in
    let new = c.first_tried.new.memory in
    let tried = rw (text_is d, c.in-Some.is) at c.in_ok-start.ensures.tried in
    record {
      says = λ view go explains failed early.
          let found = tried.says view go explains failed in
          let start : ℕ = c.in-Some.start in
          let slots = new.backtrack.slots.items in
          let says = found_says context text place memory c.requires.start go start (record { at = c.in-Some.end; slots = slots }) (omega (arith, tried.range.0, c.requires.range.0)) (omega (arith, tried.range.1, c.requires.range))
          tried.range.2
          (fail_on context text go place.at c.args.from start early found.0) (sym found.1) in
          let counts = looks d in (
            record { found_slots = slots; is = sym says.0; same_slots = λ _. refl },
            omega (arith, says.1, counts.1, tried.range.1, c.first_tried.ensures.attempt.looks.more),
          );
      on = tt;
    }

pub returns-in-None-clause-settled : goal.returns-in-None-clause-settled
returns-in-None-clause-settled c span_only =
    let d = (goal.at.returns-in-None-clause-settled c).After-first_tried in
    let context = c.args.context.now in
    let text = looked_text c.args.text.now in
    let place = c.args.place in
    let memory = c.args.memory.now in
    let new = c.first_tried.new.memory in
    let read : ℕ = c.args.read in
    let stop : ℕ = context.stop in
    let next = c.start_after-next.result in
    let high : read ≤ stop = c.requires.range.3 in
    let low : place.at ≤ read = omega (arith, c.requires.range.2) in
    let boundary = subst (λ (t : List ℕ). IsCharBoundary t read) c.requires.shown c.requires.boundaries.1 in
    let attempt = c.first_tried.ensures.attempt in
    let tried = rw (text_is d, c.in-None.is) at c.in_ok-start.ensures.tried in
    let counts = looks d in
    let after : IfSome next (IsAfter text stop read) = c.start_after-next.ensures.next text c.end_pass-after.ensures.next in
    let split : places text false read stop ≡ read ∷ places_from text false next stop =
    c.start_after-next.ensures.left text c.requires.start.utf8 boundary c.requires.start.inside
    (sym c.end_pass-after.ensures.after) in
    record {
      says = λ view go explains failed early.
          let found = tried.says view go explains failed in
          let on = on_says context text place memory c.requires.start go read low high
          (fail_on context text go place.at c.args.from read early (λ p a b bound. found.0 p a (omega (arith, b)) bound)) in
          let last = failed_next _ read (places text false read stop) (places_from text false next stop) split
          (no_spot context text place memory c.requires.start go read (found.0 read c.requires.range.1 (omega arith) boundary)) in
          (found.1, found.2, on.0 ∙ last.0, omega (arith, on.1, last.1, counts.1, attempt.looks.more));
      on = record {
        after = after_earlier text stop place.at read next low after;
        base = above_base text stop new.visited.base read next attempt.base.1 after;
        between = record {
          count = attempt.count ∙ c.requires.start.between.count;
          rows = attempt.rows;
          empty = tried.empty refl;
          farthest = attempt.farthest ∙ c.requires.start.between.farthest ∙ sym attempt.slots;
        };
        counted = let later = next_after text stop read next high after in omega (arith, attempt.counted, counts.0, later, c.requires.range.2);
      };
    }
