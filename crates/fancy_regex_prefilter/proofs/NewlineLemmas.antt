-- Newlines up to the end of a text.
use Rattle.std.proofs.Common.{◌≡◌, ℕ, zero, suc, ◌+◌, ◌<◌, ◌≤◌, ◌==◌, ◌⊎◌, Bool, true, false, ◌&&◌, ◌||◌, List, [], ◌∷◌, length, drop, get_or, refl, sym, ap, ◌∙◌, arith, ne_eqb, eqb-true, ⊎_elim, inl, inr}
use Rattle.std.proofs.Math.Seq.{drop-cons}
use Rattle.std.proofs.lemmas.Bool.{cases_lt, false≢true, and_left, and_right, le-leb, lt-leb}
use Rattle.std.proofs.lemmas.List.{drop_all}
use Rattle.std.proofs.lemmas.Option.{slice_get-get_or, slice_get_past}
use Rattle.std.specs.Prelude.{slice_get, nat_le}
use Rattle.regex_hir.specs.Text.{is_some_and}
use Rattle.fancy_regex_meaning.specs.Positions.{are_newlines, is_before_byte}

or_nothing : (a : Bool) → (a || false) ≡ a
or_nothing true = refl
or_nothing false = refl

past_newline : (crlf : Bool) (rest : List ℕ) → are_newlines crlf (10 ∷ rest) ≡ are_newlines crlf rest
past_newline crlf [] = refl
past_newline false (c ∷ rest) = or_nothing _
past_newline true (c ∷ rest) = or_nothing _

-- the byte at an offset, and the rest
with_position : (text : List ℕ) (p b : ℕ) → p < length text → get_or text p 0 ≡ b → drop p text ≡ b ∷ drop (p + 1) text
with_position text p b lt is =
    let next : suc p ≡ p + 1 = omega arith in
    drop-cons text p 0 lt ∙ (λ i. is i ∷ drop (next i) text)

pub newline_more : (crlf : Bool) (text : List ℕ) (p : ℕ) → p < length text → get_or text p 0 ≡ 10
    → are_newlines crlf (drop p text) ≡ are_newlines crlf (drop (p + 1) text)
newline_more crlf text p lt is = ap (are_newlines crlf) (with_position text p 10 lt is) ∙ past_newline crlf (drop (p + 1) text)

-- what the test for a byte says
byte_there : (text : List ℕ) (b p : ℕ) → is_before_byte text b p ≡ true → (p < length text) × (get_or text p 0 ≡ b)
byte_there text b p e = elim (cases_lt p (length text)) [
  | inl lt ↦ (lt, eqb-true _ _ (sym (ap (λ o. is_some_and o (λ c. c == b)) (slice_get-get_or text p 0 lt)) ∙ e))
  | inr ge ↦ absurd (false≢true (sym (ap (λ o. is_some_and o (λ c. c == b)) (slice_get_past text p ge)) ∙ e))
]

pub both_more : (crlf : Bool) (text : List ℕ) (p : ℕ) → crlf ≡ true → p < length text → get_or text p 0 ≡ 13 → is_before_byte text 10 (p + 1) ≡ true
    → are_newlines crlf (drop p text) ≡ are_newlines crlf (drop (p + 2) text)
both_more crlf text p on lt is next =
    let there = byte_there text 10 (p + 1) next in
    let last : p + 1 + 1 ≡ p + 2 = omega arith in
    ap (λ b. are_newlines b (drop p text)) on
    ∙ ap (are_newlines true) (with_position text p 13 lt is ∙ ap (λ l. 13 ∷ l) (with_position text (p + 1) 10 there.0 there.1))
    ∙ ap (λ n. are_newlines true (drop n text)) last ∙ ap (λ b. are_newlines b (drop (p + 2) text)) (sym on)

-- a byte that begins no newline
other_byte : (crlf : Bool) (b : ℕ) (rest : List ℕ) → (b ≡ 10 → ⊥) → ((crlf && b == 13) ≡ false) ⊎ (is_some_and (slice_get rest 0) (λ c. c == 10) ≡ false)
    → are_newlines crlf (b ∷ rest) ≡ false
other_byte crlf b [] not_one more = ne_eqb b 10 not_one
other_byte crlf b (c ∷ rest) not_one (inl e) =
    let first = and_left (b == 10) (are_newlines crlf (c ∷ rest)) (ne_eqb b 10 not_one) in
    let second = and_left _ (are_newlines crlf rest) (and_left (crlf && b == 13) (c == 10) e) in
    λ i. first i || second i
other_byte crlf b (c ∷ rest) not_one (inr e) =
    let first = and_left (b == 10) (are_newlines crlf (c ∷ rest)) (ne_eqb b 10 not_one) in
    let second = and_left _ (are_newlines crlf rest) (and_right (crlf && b == 13) (c == 10) e) in
    λ i. first i || second i

get_drop : (text : List ℕ) (n : ℕ) → slice_get (drop n text) 0 ≡ slice_get text n
get_drop text zero = refl
get_drop [] (suc n) = refl
get_drop (x ∷ text) (suc n) = get_drop text n

pub no_newline : (crlf : Bool) (text : List ℕ) (p : ℕ) → p < length text → (get_or text p 0 ≡ 10 → ⊥)
    → ((crlf && get_or text p 0 == 13) ≡ false) ⊎ (is_before_byte text 10 (p + 1) ≡ false) → are_newlines crlf (drop p text) ≡ false
no_newline crlf text p lt not_one more =
    let whole = with_position text p _ lt refl in
    let look = ap (λ o. is_some_and o (λ c. c == 10)) (get_drop text (p + 1)) in
    ap (are_newlines crlf) whole
    ∙ other_byte crlf (get_or text p 0) (drop (p + 1) text) not_one (⊎_elim (λ e. inl e) (λ e. inr (look ∙ e)) more)

-- what the test for the end of the text says
pub not_at_end : (text : List ℕ) (p : ℕ) → p < length text → nat_le (length text) p ≡ false
not_at_end text p lt = lt-leb (length text) p lt

pub past_end : (crlf : Bool) (text : List ℕ) (p : ℕ) → length text ≤ p → nat_le (length text) p ≡ are_newlines crlf (drop p text)
past_end crlf text p le = le-leb (length text) p le ∙ sym (ap (are_newlines crlf) (drop_all p text le))
