-- The trees that are classes, and their members.
use Rattle.std.proofs.Common.{◌≡◌, ℕ, ◌≤◌, ◌<◌, ◌+◌, Bool, true, false, List, [], ◌∷◌, ◌++◌, ◌||◌, ◌==◌, sym, ap, ap₂, ◌∙◌, encode_utf8, arith, ⊎_elim, ◌⊎◌, inl, inr, subst, eq-eqb, ne_eqb, Result, Ok, Err, IfOk}
use Rattle.std.specs.Char.{IsScalar}
use Rattle.std.proofs.lemmas.Bool.{cases_eq, cases_lt}
use Rattle.std.proofs.lemmas.Bool.Decides.{nat_tests}
use Rattle.regex_class.specs.Ranges.{Range, in_ranges, in_range, HasExactly}
use Rattle.regex_class.specs.declared.Class.{Class}
use Rattle.regex_class.proofs.RangesLemmas.{in_ranges-nil, in_ranges-cons, in_ranges-push, in_range_tells, or-false}
use Rattle.regex_hir.specs.Meaning.{meaning}
use Rattle.regex_hir.specs.declared.hir.Hir.{Hir}
use Rattle.regex_hir.specs.declared.hir.Hir.TheVariants as hir
use Rattle.regex_hir.proofs.MeaningLemmas.{meaning-Chars, meaning-Bytes, meaning-Literal}
use Rattle.regex_hir.proofs.Utf8Lemmas.{InScalarRange-of_IsScalar}
use Rattle.regex_syntax.specs.WellFormed.{IsWellFormed}
use Rattle.std.specs.Prelude.{Vec}
use Rattle.std.specs.declared.alloc.Global.{Global}
use Rattle.std.specs.declared.alloc.AllocError.{AllocError}
use Rattle.fancy_regex_class.specs.Classes.{matches_single_char}
use Rattle.fancy_regex_class.proofs.SingleCharLemmas.{class_alone, bytes_alone, literal_alone}

pub table_of_chars : (tree : Hir) (class : Class) → tree ≡ hir.Chars class → (c : ℕ) → IsScalar c →
    in_ranges class.ranges.items c ≡ matches_single_char (meaning tree) c
table_of_chars tree class is c scalar = rw (is, meaning-Chars class) (sym (class_alone c scalar class.ranges.items))

pub table_of_bytes : (tree : Hir) (class : Class) → tree ≡ hir.Bytes class → IsWellFormed true tree → (c : ℕ) → IsScalar c →
    in_ranges class.ranges.items c ≡ matches_single_char (meaning tree) c
table_of_bytes tree class is formed c scalar = rw (is, meaning-Bytes class) (sym (bytes_alone c scalar class.ranges.items (rw is at formed)))

in_single : (x c : ℕ) → in_range (x, x) c ≡ (c == x)
in_single x c = grind (arith, nat_tests, in_range_tells (x, x) c, cases_eq c x)

pub table_of_char : (tree : Hir) (bytes : Vec ℕ Global) (x : ℕ) (rs : List Range) → tree ≡ hir.Literal bytes → bytes.items ≡ encode_utf8 x → IsScalar x →
    HasExactly rs (in_ranges ((x, x) ∷ [])) → (c : ℕ) → IsScalar c → in_ranges rs c ≡ matches_single_char (meaning tree) c
table_of_char tree bytes x rs is spelt other exactly c scalar =
    let range = InScalarRange-of_IsScalar c scalar in
    exactly c (omega arith) ∙ in_ranges-cons (x, x) [] c ∙ ap (λ b. in_range (x, x) c || b) (in_ranges-nil c) ∙ or-false _ ∙ in_single x c
    ∙ rw (is, meaning-Literal bytes, spelt) (sym (literal_alone c scalar x other))

-- the ranges hold the characters below n that pass the test
pub record HoldsBelow (test : ℕ → Bool) (n : ℕ) (rs : List Range) : Type 0 where
  pub below : (c : ℕ) → c < n → IsScalar c → in_ranges rs c ≡ test c
  pub above : (c : ℕ) → n ≤ c → in_ranges rs c ≡ false

pub holds_none : (test : ℕ → Bool) → HoldsBelow test 0 []
holds_none test = record { below = λ c h s. absurd (omega arith); above = λ c h. in_ranges-nil c }

same_place : (c n : ℕ) → c < n + 1 → (c < n) ⊎ (c ≡ n)
same_place c n h = ⊎_elim (λ (low : c < n). inl low) (λ (high : n ≤ c). inr (omega arith)) (cases_lt c n)

pub holds_pushed : (test : ℕ → Bool) (n : ℕ) (rs : List Range) → HoldsBelow test n rs → test n ≡ true → HoldsBelow test (n + 1) (rs ++ (n, n) ∷ [])
holds_pushed test n rs h yes_it = record {
  below = λ c low scalar. in_ranges-push rs (n, n) c ∙ ⊎_elim
      (λ (less : c < n). ap₂ ◌||◌ (h.below c less scalar) (in_single n c ∙ ne_eqb c n (omega arith)) ∙ or-false _)
      (λ (same : c ≡ n). ap₂ ◌||◌ (h.above c (omega arith)) (in_single n c ∙ eq-eqb c n same) ∙ sym yes_it ∙ ap test (sym same))
      (same_place c n low);
  above = λ c high. in_ranges-push rs (n, n) c ∙ ap₂ ◌||◌ (h.above c (omega arith)) (in_single n c ∙ ne_eqb c n (omega arith));
}

pub holds_more : (test : ℕ → Bool) (n : ℕ) (rs : List Range) → HoldsBelow test n rs → (IsScalar n → test n ≡ false) → HoldsBelow test (n + 1) rs
holds_more test n rs h no_it = record {
  below = λ c low scalar. ⊎_elim
      (λ (less : c < n). h.below c less scalar)
      (λ (same : c ≡ n). h.above c (omega arith) ∙ sym (no_it (subst IsScalar same scalar)) ∙ ap test (sym same))
      (same_place c n low);
  above = λ c high. h.above c (omega arith);
}

-- the class of all that is held
pub holds_all : (test : ℕ → Bool) (n : ℕ) (rs : List Range) (r : Result Class AllocError) → 0x11_0000 ≤ n → HoldsBelow test n rs →
    IfOk r (λ class. HasExactly class.ranges.items (in_ranges rs)) → IfOk r (λ class. (c : ℕ) → IsScalar c → in_ranges class.ranges.items c ≡ test c)
holds_all test n rs (Ok class) all h exactly = λ c scalar. let range = InScalarRange-of_IsScalar c scalar in exactly c (omega arith) ∙ h.below c (omega arith) scalar
holds_all test n rs (Err e) all h exactly = tt
