-- Bytes of ASCII characters that are marked.
use Rattle.std.proofs.Common.{◌≡◌, ℕ, zero, suc, ◌+◌, ◌<◌, ◌≤◌, Bool, List, length, refl, subst, arith, slice_index_or, IsCharBoundary, IsUtf8, ⊎_elim}
use Rattle.std.proofs.lemmas.Bool.{cases_lt}
use Rattle.fancy_regex_class.specs.Looks.{HasMarkedAscii, HasMarkedByte}
use Rattle.fancy_regex_class.proofs.AdjacentCharLemmas.{ascii_at, boundary_past_ascii}

-- a marked byte is a marked character, and after it comes a boundary
pub marked_char : (text : List ℕ) (marks : List Bool) (i : ℕ) → IsUtf8 text → IsCharBoundary text i → i < length text → HasMarkedByte text marks i
    → HasMarkedAscii text marks i × IsCharBoundary text (i + 1)
marked_char text marks i u b inside m =
    let here = ascii_at text i (slice_index_or text i 0) 0 inside refl m.0 in
    ((slice_index_or text i 0, m.0, here, m.1), boundary_past_ascii text i (slice_index_or text i 0) u b m.0 here)

-- what holds below a place, and at it
pub below_next : (P : ℕ → Type 0) (from at : ℕ) → ((i : ℕ) → from ≤ i → i < at → P i) → P at → (i : ℕ) → from ≤ i → i < at + 1 → P i
below_next P from at below here i low high =
    ⊎_elim
    (λ (less : i < at). below i low less)
    (λ (over : at ≤ i). let same : at ≡ i = omega arith in subst P same here)
    (cases_lt i at)

-- marked bytes are marked characters, and after them comes a boundary
pub marked_chars : (text : List ℕ) (marks : List Bool) (at n : ℕ) → IsUtf8 text → IsCharBoundary text at → at + n ≤ length text
    → ((i : ℕ) → at ≤ i → i < at + n → HasMarkedByte text marks i)
    → ((i : ℕ) → at ≤ i → i < at + n → HasMarkedAscii text marks i) × IsCharBoundary text (at + n)
marked_chars text marks at zero u b inside m = ((λ i low high. absurd (omega arith)), subst (λ (k : ℕ). IsCharBoundary text k) (omega arith) b)
marked_chars text marks at (suc n) u b inside m =
    let before = marked_chars text marks at n u b (omega arith) (λ i low high. m i low (omega arith)) in
    let one = marked_char text marks (at + n) u before.1 (omega arith) (m (at + n) (omega arith) (omega arith)) in
    let place : at + n + 1 ≡ at + suc n = omega arith in
    ((λ i low high. below_next (HasMarkedAscii text marks) at (at + n) before.0 one.0 i low (omega arith)), subst (λ (k : ℕ). IsCharBoundary text k) place one.1)
