use Rattle.std.proofs.Common.{◌≡◌, ℕ, ◌-◌, ◌*◌, ◌≤◌, ◌∙◌, List, [], ◌∷◌, ◌++◌, Option, None, length, get_or, refl, sym, ap, inl, inr, arith, length-append}
use Rattle.std.proofs.lemmas.Bool.{cases_lt}
use Rattle.std.proofs.lemmas.List.{get_or_append_left, get_or-append_right}
use Rattle.fancy_regex_parts.specs.Ways.{Ways}
use Rattle.fancy_regex_parts.specs.Tables.{due}
use Rattle.fancy_regex_parts.proofs.AskLemmas.{asks_on, leaves_none, leaves_on, leaves_cap, true_before}
use Rattle.fancy_regex_parts.proofs.question.ask_each.Goals as goal

pushed_last : (xs : List (Option ℕ)) (x : Option ℕ) (j : ℕ) → j ≡ length xs → get_or (xs ++ x ∷ []) j None ≡ x
pushed_last xs x j is =
    let here : length xs ≤ j = omega arith in
    let first : j - length xs ≡ 0 = omega arith in
    get_or-append_right xs (x ∷ []) (length xs) j None refl here ∙ ap (λ n. get_or (x ∷ []) n None) first

pub loop-k-init : goal.loop-k-init
loop-k-init c = record {
  len = ap length c.new-answers.ensures.items;
  answers = λ view ways has true_of j below. absurd (omega arith);
  leaves = leaves_none c.requires.ready;
  counted = omega arith;
}

pub ask-requires-clause-ready : goal.ask-requires-clause-ready
ask-requires-clause-ready c = asks_on c.requires.ready c.loop-k.invariant.leaves

pub ask-requires-clause-place : goal.ask-requires-clause-place
ask-requires-clause-place c =
    rw (c.loop-k.invariant.leaves.looks.text, c.loop-k.invariant.leaves.base) (c.requires.places c.loop-k.k (omega (arith, c.loop-k-test.true)))

pub loop-k-preserved : goal.loop-k-preserved
loop-k-preserved c =
    let invariant = c.loop-k.invariant in
    let items = c.in_ok-push.ensures.items in
    let xs = c.loop-k.answers.items in
    let x = c.in_ok-end.end in
    let answer = true_before (λ (ways : Ways). x ≡ ways.end c.args.part (get_or c.args.places.now c.loop-k.k 0)) invariant.leaves c.in_ok-end.ensures.answer in
    record {
      len = ap length items ∙ length-append xs (x ∷ []) ∙ (omega (arith, invariant.len));
      answers = λ view ways has true_of j below.
          ap (λ (l : List (Option ℕ)). get_or l j None) items
          ∙ (elim (cases_lt j c.loop-k.k) as (λ _. get_or (xs ++ x ∷ []) j None ≡ ways.end c.args.part (get_or c.args.places.now j 0)) [
            | inl low ↦ get_or_append_left xs (x ∷ []) None j (omega (arith, invariant.len, low)) ∙ invariant.answers view ways has true_of j low
            | inr high ↦
                let last : j ≡ c.loop-k.k = omega arith in
                pushed_last xs x j (omega (arith, invariant.len, last))
                ∙ answer view ways has true_of
                ∙ ap (λ n. ways.end c.args.part (get_or c.args.places.now n 0)) (sym last)
          ]);
      leaves = leaves_on invariant.leaves c.ask.ensures.leaves;
      counted = omega (arith, invariant.counted, c.in_ok-end.ensures.counted);
    }

pub returns-clause-len : goal.returns-clause-len
returns-clause-len c = omega (arith, c.loop-k.invariant.len, c.loop-k-test.false)

pub returns-clause-answers : goal.returns-clause-answers
returns-clause-answers c view ways has true_of j below = c.loop-k.invariant.answers view ways has true_of j (omega (arith, below, c.loop-k-test.false))

pub returns-clause-leaves : goal.returns-clause-leaves
returns-clause-leaves c = c.loop-k.invariant.leaves

pub returns-clause-counted : goal.returns-clause-counted
returns-clause-counted c =
    let all : c.loop-k.k ≡ length c.args.places.now = omega (arith, c.loop-k.invariant.len, c.loop-k-test.false) in
    let dues = ap (λ n. n * due c.args.context.now.table.now c.args.part) all in
    omega (arith, c.loop-k.invariant.counted, dues)

pub returns-clause-at_most : goal.returns-clause-at_most
returns-clause-at_most c =
    let all : c.loop-k.k ≡ length c.args.places.now = omega (arith, c.loop-k.invariant.len, c.loop-k-test.false) in
    let dues = ap (λ n. n * due c.args.context.now.table.now c.args.part) all in
    omega (arith, c.loop-k.invariant.counted, leaves_cap c.loop-k.invariant.leaves, dues)

-- a question failed
pub returns-in_err-end-clause-leaves : goal.returns-in_err-end-clause-leaves
returns-in_err-end-clause-leaves c = leaves_on c.loop-k.invariant.leaves c.ask.ensures.leaves

-- there was no room for an answer
pub returns-in_err-push-clause-leaves : goal.returns-in_err-push-clause-leaves
returns-in_err-push-clause-leaves c = leaves_on c.loop-k.invariant.leaves c.ask.ensures.leaves
