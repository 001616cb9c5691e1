use Rattle.std.proofs.Common.{◌≡◌, ℕ, ◌+◌, ◌-◌, ◌∙◌, List, [], ◌∷◌, Option, length, refl, sym, ap, subst, arith}
use Rattle.fancy_regex_class.specs.Looks.{looked_text}
use Rattle.fancy_regex_meaning.specs.Positions.{boundaries}
use Rattle.fancy_regex_meaning.proofs.NextBoundaryLemmas.{from_here}
use Rattle.fancy_regex_parts.specs.Ways.{Ways}
use Rattle.fancy_regex_parts.specs.Tables.{due}
use Rattle.fancy_regex_parts.specs.Find.{attempted, IsNext, IsAfter}
use Rattle.fancy_regex_parts.specs.Layers.{ForTrueWays}
use Rattle.fancy_regex_parts.proofs.FindLemmas.{found_here, failed_next, failed_last, one_more, one_start, place_more}
use Rattle.fancy_regex_parts.proofs.AskLemmas.{asks_on, leaves_none, leaves_looked, leaves_on, leaves_cap, true_before}
use Rattle.fancy_regex_parts.proofs.starts.find.Goals as goal
use Rattle.fancy_regex_parts.proofs.starts.find.Goals.{In_ok-end, In-None}

pub starts-init : goal.starts-init
starts-init c = record {
  place = record { state = c.requires.entry; boundary = c.requires.starts.boundary; low = c.requires.starts.low };
  range = c.requires.starts.order;
  left = λ view ways has true_of. refl;
  counted = λ view ways has true_of. omega arith;
  later = omega arith;
  looked = omega arith;
  least = omega arith;
  leaves = leaves_none c.requires.ready;
}

pub ask-requires-clause-ready : goal.ask-requires-clause-ready
ask-requires-clause-ready c = asks_on c.requires.ready c.starts.invariant.leaves

pub ask-requires-clause-place : goal.ask-requires-clause-place
ask-requires-clause-place c = rw (c.starts.invariant.leaves.looks.text, c.starts.invariant.leaves.base) c.starts.invariant.place

pub returns-in_err-end-clause-leaves : goal.returns-in_err-end-clause-leaves
returns-in_err-end-clause-leaves c = leaves_on c.starts.invariant.leaves c.ask.ensures.leaves

pub returns-in-Some-clause-leaves : goal.returns-in-Some-clause-leaves
returns-in-Some-clause-leaves c = leaves_on c.starts.invariant.leaves c.ask.ensures.leaves

pub returns-in-None-clause-leaves : goal.returns-in-None-clause-leaves
returns-in-None-clause-leaves c = leaves_looked (leaves_on c.starts.invariant.leaves c.ask.ensures.leaves) c.place_after.ensures.looked.looks

-- what was answered at this start
answer_is : (c : In_ok-end) → ForTrueWays c.args.context.now c.args.text.now c.args.memory.now
    (λ ways. c.in_ok-end.field-0 ≡ ways.end c.args.context.now.entry c.starts.at)
answer_is c = true_before (λ (ways : Ways). c.in_ok-end.field-0 ≡ ways.end c.args.context.now.entry c.starts.at) c.starts.invariant.leaves c.in_ok-end.ensures.answer

-- no start comes after this one
last_is : (c : In-None) → boundaries (looked_text c.args.text.now) c.starts.at c.args.last ≡ c.starts.at ∷ []
last_is c =
    let text = c.ask.ensures.leaves.looks.text ∙ c.starts.invariant.leaves.looks.text in
    subst (λ (t : List ℕ). boundaries t c.starts.at c.args.last ≡ c.starts.at ∷ []) text
    (subst (λ (o : Option ℕ). IsAfter (looked_text c.ask.new.text) c.args.last c.starts.at o) c.in-None.is c.place_after.ensures.after)

pub returns-in-Some-clause-found : goal.returns-in-Some-clause-found
returns-in-Some-clause-found c view ways has true_of =
    let invariant = c.starts.invariant in
    let answer = answer_is (goal.at.returns-in-Some-clause-found c).In_ok-end view ways has true_of in
    sym (invariant.left view ways has true_of
    ∙ (found_here (ways.end c.args.context.now.entry) c.starts.at (looked_text c.args.text.now) c.args.last c.in-Some.end invariant.place.boundary invariant.range
    (sym answer ∙ c.in-Some.is)).0)

pub returns-in-Some-clause-place : goal.returns-in-Some-clause-place
returns-in-Some-clause-place c = c.starts.invariant.place

pub returns-in-None-clause-found : goal.returns-in-None-clause-found
returns-in-None-clause-found c view ways has true_of =
    let answer = answer_is (goal.at.returns-in-None-clause-found c).In_ok-end view ways has true_of in
    let last = last_is (goal.at.returns-in-None-clause-found c).In-None in
    sym (c.starts.invariant.left view ways has true_of
    ∙ (failed_last (ways.end c.args.context.now.entry) c.starts.at _ last (sym answer ∙ c.in_default.is)).0)

pub returns-in-Some-clause-at_most : goal.returns-in-Some-clause-at_most
returns-in-Some-clause-at_most c view ways has true_of =
    let invariant = c.starts.invariant in
    let entry : ℕ = c.args.context.now.entry in
    let answer = answer_is (goal.at.returns-in-Some-clause-at_most c).In_ok-end view ways has true_of in
    let tried = (found_here (ways.end entry) c.starts.at (looked_text c.args.text.now) c.args.last c.in-Some.end invariant.place.boundary invariant.range
    (sym answer ∙ c.in-Some.is)).1 in
    let one = one_start (attempted (ways.end entry) (boundaries (looked_text c.args.text.now) c.starts.at c.args.last)) (due c.args.context.now.table.now entry + 1) tried in
    let cap = leaves_cap (leaves_on invariant.leaves c.ask.ensures.leaves) in
    omega (arith, invariant.counted view ways has true_of, c.in_ok-end.ensures.counted, one, cap)

pub returns-in-None-clause-at_most : goal.returns-in-None-clause-at_most
returns-in-None-clause-at_most c view ways has true_of =
    let invariant = c.starts.invariant in
    let entry : ℕ = c.args.context.now.entry in
    let answer = answer_is (goal.at.returns-in-None-clause-at_most c).In_ok-end view ways has true_of in
    let last = last_is (goal.at.returns-in-None-clause-at_most c).In-None in
    let tried = (failed_last (ways.end entry) c.starts.at _ last (sym answer ∙ c.in_default.is)).1 in
    let one = one_start (attempted (ways.end entry) (boundaries (looked_text c.args.text.now) c.starts.at c.args.last)) (due c.args.context.now.table.now entry + 1) tried in
    let cap = leaves_cap (leaves_on invariant.leaves c.ask.ensures.leaves) in
    omega (arith, invariant.counted view ways has true_of, c.in_ok-end.ensures.counted, c.place_after.ensures.looked.at_most, one, cap)

pub returns-in_err-end-clause-bound : goal.returns-in_err-end-clause-bound
returns-in_err-end-clause-bound c =
    let invariant = c.starts.invariant in
    let here = rw (invariant.leaves.looks.text, invariant.leaves.base) at c.ask.ensures.at_most in
    let more = place_more (c.starts.at - c.args.from) (c.args.last - c.args.from + 1) (due c.args.context.now.table.now c.args.context.now.entry + 1) (omega (arith, invariant.range)) in
    omega (arith, invariant.looked, here, more)

pub returns-in-Some-clause-bound : goal.returns-in-Some-clause-bound
returns-in-Some-clause-bound c =
    let invariant = c.starts.invariant in
    let here = rw (invariant.leaves.looks.text, invariant.leaves.base) at c.ask.ensures.at_most in
    let more = place_more (c.starts.at - c.args.from) (c.args.last - c.args.from + 1) (due c.args.context.now.table.now c.args.context.now.entry + 1) (omega (arith, invariant.range)) in
    omega (arith, invariant.looked, here, more)

pub returns-in-None-clause-bound : goal.returns-in-None-clause-bound
returns-in-None-clause-bound c =
    let invariant = c.starts.invariant in
    let here = rw (invariant.leaves.looks.text, invariant.leaves.base) at c.ask.ensures.at_most in
    let more = place_more (c.starts.at - c.args.from) (c.args.last - c.args.from + 1) (due c.args.context.now.table.now c.args.context.now.entry + 1) (omega (arith, invariant.range)) in
    omega (arith, invariant.looked, here, c.place_after.ensures.looked.at_most, more)

pub returns-in-Some-clause-counted : goal.returns-in-Some-clause-counted
returns-in-Some-clause-counted c =
    let invariant = c.starts.invariant in
    let more = place_more (c.starts.at - c.args.from) (c.starts.at - c.args.from + 1) (due c.args.context.now.table.now c.args.context.now.entry + 1) (omega arith) in
    omega (arith, invariant.looked, c.in_ok-end.ensures.counted, more)

pub returns-in-None-clause-counted : goal.returns-in-None-clause-counted
returns-in-None-clause-counted c =
    let invariant = c.starts.invariant in
    let more = place_more (c.starts.at - c.args.from) (c.args.last - c.args.from + 1) (due c.args.context.now.table.now c.args.context.now.entry + 1) (omega (arith, invariant.range)) in
    omega (arith, invariant.looked, c.in_ok-end.ensures.counted, c.place_after.ensures.looked.at_most, more)

pub returns-in-Some-clause-at_least : goal.returns-in-Some-clause-at_least
returns-in-Some-clause-at_least c =
    let text : List ℕ = looked_text c.args.text.now in
    let invariant = c.starts.invariant in
    let split = ap (λ (xs : List ℕ). length xs) (from_here text c.starts.at c.args.last invariant.place.boundary invariant.range) in
    omega (arith, invariant.least, invariant.leaves.looks.more, c.ask.ensures.leaves.looks.more, split)

pub returns-in-None-clause-at_least : goal.returns-in-None-clause-at_least
returns-in-None-clause-at_least c =
    let last = last_is (goal.at.returns-in-None-clause-at_least c).In-None in
    let one : length (boundaries (looked_text c.args.text.now) c.starts.at c.args.last) ≡ 1 = ap (λ (xs : List ℕ). length xs) last in
    omega (arith, c.starts.invariant.least, c.ask.ensures.leaves.looks.more, c.place_after.ensures.looked.at_least, one)

pub starts-preserved : goal.starts-preserved
starts-preserved c =
    let invariant = c.starts.invariant in
    let entry : ℕ = c.args.context.now.entry in
    let answer = answer_is (goal.at.starts-preserved c).In_ok-end in
    let leaves = leaves_on invariant.leaves c.ask.ensures.leaves in
    let next : IsNext (looked_text c.args.text.now) c.args.last c.starts.at c.in-Some-place_after.next =
    subst (λ (t : List ℕ). IsNext t c.args.last c.starts.at c.in-Some-place_after.next) leaves.looks.text
    (subst (λ (o : Option ℕ). IsAfter (looked_text c.ask.new.text) c.args.last c.starts.at o) c.in-Some-place_after.is c.place_after.ensures.after) in
    record {
      place = record { state = invariant.place.state; boundary = next.boundary; low = omega (arith, invariant.place.low, next.later) };
      range = next.early;
      left = λ view ways has true_of.
          invariant.left view ways has true_of
          ∙ (failed_next (ways.end entry) c.starts.at _ _ next.starts (sym (answer view ways has true_of) ∙ c.in_default.is)).0;
      counted = λ view ways has true_of.
          let tried = (failed_next (ways.end entry) c.starts.at _ _ next.starts (sym (answer view ways has true_of) ∙ c.in_default.is)).1 in
          let more = one_more _ _ (due c.args.context.now.table.now entry + 1) tried in
          omega (arith, invariant.counted view ways has true_of, c.in_ok-end.ensures.counted, c.place_after.ensures.looked.at_most, more);
      later = omega (arith, invariant.later, next.later);
      least =
          let one = ap (λ (xs : List ℕ). length xs) next.starts in
          omega (arith, invariant.least, c.ask.ensures.leaves.looks.more, c.place_after.ensures.looked.at_least, one);
      looked =
          let more = place_more (c.starts.at - c.args.from) (c.in-Some-place_after.next - c.args.from) (due c.args.context.now.table.now entry + 1)
          (omega (arith, invariant.later, next.later)) in
          omega (arith, invariant.looked, c.in_ok-end.ensures.counted, c.place_after.ensures.looked.at_most, more);
      leaves = leaves_looked leaves c.place_after.ensures.looked.looks;
    }
