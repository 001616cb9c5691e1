-- Words of bits for characters that are not ASCII.
use Rattle.std.proofs.Common.{◌≡◌, ◌∙◌, ◌<◌, ◌≤◌, ◌==◌, ℕ, Bool, true, false, List, [], ◌∷◌, Vec, Result, Ok, Err, IfOk, codes, length, sym, arith}
use Rattle.std.proofs.lemmas.Bool.Decides.{nat_tests}
use Rattle.std.specs.Char.{IsScalar}
use Rattle.std.specs.declared.alloc.Global.{Global}
use Rattle.regex_class.specs.Ranges.{Range, in_range, in_ranges}
use Rattle.regex_class.proofs.RangesLemmas.{in_range_tells, or-false}
use Rattle.regex_hir.proofs.Utf8Lemmas.{InScalarRange-of_IsScalar}
use Rattle.ucd_table.specs.Rows.{HasExactly}
use Rattle.ucd_perl.specs.Perl.{is_word_char, is_word_byte}
use Rattle.fancy_regex_class.specs.Classes.{in_class}
use Rattle.fancy_regex_class.specs.RangeBits.{has_bit, AreWideBits}
use Rattle.fancy_regex_class.proofs.PartnerLemmas.{same_ranges, in_single}
use Rattle.fancy_regex_class.proofs.WordLemmas.{word_members, byte_word_members}

-- the words of ranges have the bits of a test that the ranges pass
pub wide_from : {E : Type 0} (r : Result (Vec ℕ Global) E) (ranges : List Range) (test : ℕ → Bool)
    → IfOk r (λ words. length words.items ≡ 1024)
    → IfOk r (λ words. (c : ℕ) → c < 65536 → has_bit words.items c ≡ in_ranges ranges c)
    → ((c : ℕ) → IsScalar c → 128 ≤ c → c < 65536 → in_ranges ranges c ≡ test c)
    → IfOk r (λ words. AreWideBits words.items test)
wide_from (Ok words) ranges test filled members are =
    record { filled = filled; bits = λ c scalar low below. members c below ∙ are c scalar low below }
wide_from (Err e) ranges test filled members are = tt

one_range : (r : Range) (c : ℕ) → in_ranges (r ∷ []) c ≡ in_range r c
unfolding in_ranges
one_range r c = or-false (in_range r c)

pub in_one : (n c : ℕ) → in_ranges ((n, n) ∷ []) c ≡ (c == n)
in_one n c = one_range (n, n) c ∙ in_single n c

pub in_all : (c : ℕ) → 128 ≤ c → c < 65536 → in_ranges ((128, 1114111) ∷ []) c ≡ true
in_all c low below = one_range (128, 1114111) c ∙ grind (arith, in_range_tells (128, 1114111) c)

pub in_words : (ranges : List Range) → HasExactly ranges is_word_char → (c : ℕ) → IsScalar c → in_ranges ranges c ≡ in_class true (codes "\\w") false c
in_words ranges exact c scalar =
    let range = InScalarRange-of_IsScalar c scalar in
    same_ranges ranges c ∙ exact c (omega arith) ∙ sym (word_members c scalar)

no_word_byte : (c : ℕ) → 128 ≤ c → is_word_byte c ≡ false
no_word_byte c low = grind (arith, nat_tests)

pub in_no_words : (c : ℕ) → IsScalar c → 128 ≤ c → false ≡ in_class false (codes "\\w") false c
in_no_words c scalar low = sym (byte_word_members c scalar ∙ no_word_byte c low)
