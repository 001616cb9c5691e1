-- Bytes that are written, or read, one part after another.
use Rattle.std.proofs.Common.{◌≡◌, ◌≤◌, ℕ, List, [], ◌∷◌, ◌++◌, length, arith, Option, Some, None, take, ap, refl, sym, ◌∙◌, append_assoc, append-nil}
use Rattle.std.specs.Prelude.{IfSome}
use Rattle.std.specs.Io.KnownBytes.{Appends, Consumes, IsAtEnd, Keeps}

pub Appends-more : (a b c : Option (List ℕ)) (xs ys : List ℕ) → Appends a b xs → Appends b c ys → Appends a c (xs ++ ys)
Appends-more None b c xs ys p q = tt
Appends-more (Some x) None c xs ys p q = absurd p
Appends-more (Some x) (Some y) None xs ys p q = absurd q
Appends-more (Some x) (Some y) (Some z) xs ys p q = q ∙ ap (λ v. v ++ ys) p ∙ (simp append_assoc)

-- a read that gives no byte tells that all bytes were given
pub given_all : (first last end : Option (List ℕ)) (bytes chunk : List ℕ) (n : ℕ) → Consumes first last bytes → Consumes last end (take n chunk) → n ≡ 0 → IsAtEnd end
    → IfSome first (λ xs. bytes ≡ xs)
given_all None last end bytes chunk n p q e h = tt
given_all (Some x) None end bytes chunk n p q e h = absurd p
given_all (Some x) (Some y) None bytes chunk n p q e h = absurd q
given_all (Some x) (Some y) (Some z) bytes chunk n p q e h =
    let empty : y ≡ z = q ∙ ap (λ k. take k chunk ++ z) e in
    sym (p ∙ ap (λ v. bytes ++ v) (empty ∙ h) ∙ append-nil bytes)

-- a list of at most no bytes
pub no_bytes : (xs : List ℕ) → length xs ≤ 0 → xs ≡ []
no_bytes [] h = refl
no_bytes (x ∷ xs) h = absurd (omega arith)

-- known bytes that nothing was done to
pub keeps_same : (bytes : Option (List ℕ)) → Keeps bytes bytes
keeps_same None = tt
keeps_same (Some xs) = refl
