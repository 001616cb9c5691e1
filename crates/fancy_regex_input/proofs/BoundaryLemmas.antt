-- The boundaries of the characters next to a boundary.
use Rattle.std.proofs.Common.{◌≡◌, ℕ, ◌+◌, ◌-◌, ◌≤◌, List, ◌++◌, length, drop, take, Option, Some, None, sym, ap, subst, ◌∙◌, arith, length-append, length-drop, append_assoc, encode_utf8, IfSome, IsCharBoundary, IsUtf8}
use Rattle.std.specs.Prelude.{MatchOption}
use Rattle.std.proofs.lemmas.List.{take-append-drop}
use Rattle.std.proofs.lemmas.Str.{length-encode, IsCharBoundary-past_char, IsCharBoundary-at_seam, IsUtf8-append, IsUtf8-encode}
use Rattle.std.specs.Char.{IsScalar, len_utf8}

pub boundary_after_char : (A : Type 0) (bs rest : List ℕ) (i : ℕ) (r : Option ℕ) → i ≤ length bs → IsUtf8 (drop i bs) →
    MatchOption r ((length (drop i bs) ≡ 0) × A) (λ c. drop i bs ≡ encode_utf8 c ++ rest) →
    MatchOption r (length bs ≡ i) (λ c. IsCharBoundary bs (i + len_utf8 c))
boundary_after_char A bs rest i None inside text m = omega (arith, m.0, length-drop i bs)
boundary_after_char A bs rest i (Some c) inside text m = IsCharBoundary-past_char bs rest i c inside text m

pub boundary_before_char : (A : Type 0) (bs front rest : List ℕ) (i : ℕ) (r : Option ℕ) → take i bs ≡ front → length front ≡ i →
    IfSome r IsScalar → IsUtf8 (drop i bs) → MatchOption r ((length front ≡ 0) × A) (λ c. front ≡ rest ++ encode_utf8 c) →
    MatchOption r (i ≡ 0) (λ c. (len_utf8 c ≤ i) × IsCharBoundary bs (i - len_utf8 c))
boundary_before_char A bs front rest i None is long scalar text m = omega (arith, m.0)
boundary_before_char A bs front rest i (Some c) is long scalar text m =
    let whole : bs ≡ rest ++ (encode_utf8 c ++ drop i bs) =
    sym (take-append-drop i bs) ∙ ap (λ x. x ++ drop i bs) (is ∙ m) ∙ append_assoc rest (encode_utf8 c) (drop i bs) in
    let sum : length front ≡ length rest + len_utf8 c =
    ap length m ∙ length-append rest (encode_utf8 c) ∙ ap (λ n. length rest + n) (length-encode c) in
    let place : length rest ≡ i - len_utf8 c = omega arith in (
      omega arith,
      subst (IsCharBoundary bs) place
          (IsCharBoundary-at_seam bs rest (encode_utf8 c ++ drop i bs) whole (IsUtf8-append (encode_utf8 c) (drop i bs) (IsUtf8-encode c scalar) text)),
    )
