-- Text that waits.
use Rattle.std.proofs.Common.{◌≡◌, ℕ, true, false, List, [], ◌∷◌, length, refl, sym, ap, ◌∙◌, arith, chars, encode_utf8_all, IsUtf8}
use Rattle.std.specs.Prelude.{◌==◌}
use Rattle.std.proofs.lemmas.Str.{chars-nil, encodes-chars}
use Rattle.std.proofs.lemmas.List.{nil_from_length}
use Rattle.std.proofs.lemmas.Bool.Decides.{nat_tests}
use Rattle.fancy_regex_program.specs.Ops as op
use Rattle.fancy_regex_program.specs.Code.{flushed}

none_long : (n : ℕ) → (n == 0) ≡ true → n ≡ 0
none_long n e = grind (arith, nat_tests)

pub no_text : (bs : List ℕ) (n : ℕ) → n ≡ length bs → (n == 0) ≡ true → chars bs ≡ []
no_text bs n long e = ap chars (nil_from_length bs (sym long ∙ none_long n e)) ∙ chars-nil

nonsense : (n : ℕ) → n ≡ 0 → (n == 0) ≡ false → ⊥
nonsense n e f = grind (arith, nat_tests)

flushed_some : (t bs : List ℕ) → encode_utf8_all t ≡ bs → (length bs == 0) ≡ false → flushed t ≡ op.lit t ∷ []
flushed_some [] bs e f = absurd (nonsense (length bs) (sym (ap length e)) f)
flushed_some (c ∷ cs) bs e f = refl

pub some_text : (bs : List ℕ) (n : ℕ) → n ≡ length bs → IsUtf8 bs → (n == 0) ≡ false → flushed (chars bs) ≡ op.lit (chars bs) ∷ []
some_text bs n long utf8 e = flushed_some (chars bs) bs (encodes-chars bs utf8) (ap (λ k. k == 0) (sym long) ∙ e)
