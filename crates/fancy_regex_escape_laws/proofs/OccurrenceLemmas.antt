-- Occurrences and plain replacement, step by step.
use Rattle.std.proofs.Common.{◌≡◌, ◌≢◌, ℕ, zero, suc, ◌+◌, ◌-◌, ◌<◌, ◌≤◌, Bool, true, false, cond, List, [], ◌∷◌, ◌++◌, length, take, drop, Option, Some, None, option_map, nat_eq, refl, sym, ap, ◌∙◌, arith, length-append}
use Rattle.std.proofs.lemmas.Bool.{cond-true, cond-false}
use Rattle.std.proofs.lemmas.Bool.Decides.{Decides-eqb}
use Rattle.std.proofs.lemmas.List.Prefix.{front_rest}
use Rattle.std.proofs.lemmas.Option.{none-some, same_Some}
use Rattle.std.proofs.lemmas.Slice.Eq.{starts_is}
use Rattle.std.specs.List.{starts_with}
use Rattle.fancy_regex_escape_laws.specs.Occurrences.{first_occurrence, replaced_past, plain_replaced, PlainReplacementIsByCases}

pub begins_parts : (text needle : List ℕ) → starts_with nat_eq text needle ≡ true → text ≡ needle ++ drop (length needle) text
begins_parts text needle h = (starts_is Decides-eqb text needle true (sym h)).0 refl

pub begins_from : (text needle rest : List ℕ) → text ≡ needle ++ rest → starts_with nat_eq text needle ≡ true
begins_from text needle rest e = (starts_is Decides-eqb text needle _ refl).1 rest e

pub is_not_empty : (needle : List ℕ) → needle ≢ [] → 0 < length needle
is_not_empty [] h = absurd (h refl)
is_not_empty (b ∷ needle) h = omega arith

-- nothing that is not empty occurs in nothing
pub none_begins_nothing : (needle : List ℕ) → 0 < length needle → starts_with nat_eq [] needle ≡ false
none_begins_nothing needle h = at (starts_with nat_eq [] needle) refl
  where
    at : (v : Bool) → starts_with nat_eq [] needle ≡ v → v ≡ false
    at false e = refl
    at true e = absurd (omega (arith, ap length (begins_parts [] needle e), length-append needle (drop (length needle) [])))

-- what is passed over is dropped
past_drops : (needle replacement : List ℕ) (n : ℕ) (text : List ℕ) → replaced_past needle replacement n text ≡ plain_replaced needle replacement (drop n text)
unfolding replaced_past
past_drops needle replacement zero text = refl
past_drops needle replacement (suc n) [] = refl
past_drops needle replacement (suc n) (b ∷ text) = past_drops needle replacement n text

-- an occurrence at the front is replaced
pub replaces_front : (needle replacement text : List ℕ) → 0 < length needle → starts_with nat_eq text needle ≡ true →
    plain_replaced needle replacement text ≡ replacement ++ plain_replaced needle replacement (drop (length needle) text)
unfolding replaced_past
replaces_front needle replacement [] some h = absurd (omega (arith, ap length (begins_parts [] needle h), length-append needle (drop (length needle) [])))
replaces_front needle replacement (b ∷ text) some h =
    let one : suc (length needle - 1) ≡ length needle = omega arith in
    cond-true _ _ _ h
    ∙ ap (λ rest. replacement ++ rest) (past_drops needle replacement (length needle - 1) text)
    ∙ ap (λ (n : ℕ). replacement ++ plain_replaced needle replacement (drop n (b ∷ text))) one

-- another byte stays
pub keeps_byte : (needle replacement : List ℕ) (b : ℕ) (text : List ℕ) → starts_with nat_eq (b ∷ text) needle ≡ false →
    plain_replaced needle replacement (b ∷ text) ≡ b ∷ plain_replaced needle replacement text
unfolding replaced_past
keeps_byte needle replacement b text h = cond-false _ _ _ h

pub plain_replacement_is_by_cases : PlainReplacementIsByCases
unfolding replaced_past
plain_replacement_is_by_cases needle replacement some =
    record {
      at_end = refl;
      occurrence = λ rest. replaces_front needle replacement (needle ++ rest) (is_not_empty needle some) (begins_from (needle ++ rest) needle rest refl)
          ∙ ap (λ text. replacement ++ plain_replaced needle replacement text) (front_rest (needle ++ rest) needle rest refl);
      other_byte = keeps_byte needle replacement;
    }

-- what a later first occurrence says of the text after a byte
none_after : (o : Option ℕ) → option_map (λ k. suc k) o ≡ None → o ≡ None
none_after None e = refl
none_after (Some k) e = absurd (none-some (suc k) (sym e))

some_after : (o : Option ℕ) (k : ℕ) → option_map (λ i. suc i) o ≡ Some k → (j : ℕ) × (o ≡ Some j) × (k ≡ suc j)
some_after None k e = absurd (none-some k e)
some_after (Some j) k e = (j, refl, sym (same_Some (suc j) k e))

-- the first occurrence is at the front, or after the first byte
pub occurs_here : (needle text : List ℕ) → starts_with nat_eq text needle ≡ true → first_occurrence needle text ≡ Some 0
unfolding first_occurrence
occurs_here needle [] e = cond-true _ _ _ e
occurs_here needle (b ∷ text) e = cond-true _ _ _ e

pub occurs_in_nothing : (needle : List ℕ) → 0 < length needle → first_occurrence needle [] ≡ None
unfolding first_occurrence
occurs_in_nothing needle some = cond-false _ _ _ (none_begins_nothing needle some)

pub occurs_later : (needle text : List ℕ) → 0 < length needle → starts_with nat_eq text needle ≡ false →
    first_occurrence needle text ≡ option_map (λ k. suc k) (first_occurrence needle (drop 1 text))
unfolding first_occurrence
occurs_later needle [] some e = occurs_in_nothing needle some ∙ ap (option_map (λ k. suc k)) (sym (occurs_in_nothing needle some))
occurs_later needle (b ∷ text) some e = cond-false _ _ _ e

-- where the needle does not occur, nothing is replaced
pub nothing_replaced : (needle replacement text : List ℕ) → first_occurrence needle text ≡ None → plain_replaced needle replacement text ≡ text
unfolding first_occurrence replaced_past
nothing_replaced needle replacement [] h = refl
nothing_replaced needle replacement (b ∷ text) h = at (starts_with nat_eq (b ∷ text) needle) refl h (nothing_replaced needle replacement text)
  where
    at : (v : Bool) → starts_with nat_eq (b ∷ text) needle ≡ v → cond v (Some 0) (option_map (λ k. suc k) (first_occurrence needle text)) ≡ None →
        (first_occurrence needle text ≡ None → plain_replaced needle replacement text ≡ text) → plain_replaced needle replacement (b ∷ text) ≡ b ∷ text
    at true e none after = absurd (none-some 0 (sym none))
    at false e none after = keeps_byte needle replacement b text e ∙ ap (λ rest. b ∷ rest) (after (none_after _ none))

-- Where it first occurs it is replaced, and the text before stays.
pub record FirstIsReplaced (needle replacement text : List ℕ) (k : ℕ) : Type 0 where
  pub fits : k + length needle ≤ length text
  pub is : plain_replaced needle replacement text
      ≡ take k text ++ (replacement ++ plain_replaced needle replacement (drop (k + length needle) text))

pub first_is_replaced : (needle replacement text : List ℕ) (k : ℕ) → 0 < length needle → first_occurrence needle text ≡ Some k → FirstIsReplaced needle replacement text k
unfolding first_occurrence
first_is_replaced needle replacement [] k some h =
    absurd (none-some k (sym (cond-false _ (Some 0) None (none_begins_nothing needle some)) ∙ h))
first_is_replaced needle replacement (b ∷ text) k some h =
    at (starts_with nat_eq (b ∷ text) needle) refl h (λ j e. first_is_replaced needle replacement text j some e)
  where
    next : (j : ℕ) → suc (j + length needle) ≡ suc j + length needle
    next j = omega arith

    later : (j : ℕ) → starts_with nat_eq (b ∷ text) needle ≡ false → FirstIsReplaced needle replacement text j → FirstIsReplaced needle replacement (b ∷ text) (suc j)
    later j e after = record {
      fits = omega (arith, after.fits);
      is = keeps_byte needle replacement b text e
          ∙ ap (λ rest. b ∷ rest) after.is
          ∙ ap (λ (n : ℕ). b ∷ (take j text ++ (replacement ++ plain_replaced needle replacement (drop n (b ∷ text))))) (next j);
    }

    front : starts_with nat_eq (b ∷ text) needle ≡ true → FirstIsReplaced needle replacement (b ∷ text) 0
    front e = record {
      fits = omega (arith, ap length (begins_parts (b ∷ text) needle e), length-append needle (drop (length needle) (b ∷ text)));
      is = replaces_front needle replacement (b ∷ text) some e
          ∙ ap (λ (n : ℕ). replacement ++ plain_replaced needle replacement (drop n (b ∷ text))) (let n : length needle ≡ 0 + length needle = omega arith in n);
    }

    at : (v : Bool) → starts_with nat_eq (b ∷ text) needle ≡ v → cond v (Some 0) (option_map (λ i. suc i) (first_occurrence needle text)) ≡ Some k →
        ((j : ℕ) → first_occurrence needle text ≡ Some j → FirstIsReplaced needle replacement text j) → FirstIsReplaced needle replacement (b ∷ text) k
    at true e found after = rw (← same_Some 0 k found) (front e)
    at false e found after =
        let step = some_after (first_occurrence needle text) k found in
        rw step.2 (later step.0 e (after step.0 step.1))
