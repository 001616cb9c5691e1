-- Hexadecimal digits, one by one.
use Rattle.std.proofs.Common.{◌≡◌, ℕ, zero, suc, ◌+◌, ◌*◌, ◌^◌, ◌≤◌, ◌<◌, Bool, true, false, cond, [], ◌∷◌, ◌++◌, length, Option, Some, None, refl, sym, ap, ◌∙◌, subst, append_assoc, append-nil, arith}
use Rattle.std.specs.Char.{digit_value}
use Rattle.std.proofs.Math.Nat.{pow-suc, pow-le-pow_right}
use Rattle.std.proofs.lemmas.List.{length-append}
use Rattle.std.proofs.lemmas.Option.{none-some}
use Rattle.fancy_regex_text.specs.Text.{Text, span_at_most, split_digit, is_hexadecimal, value}
use Rattle.fancy_regex_text.proofs.SpanLemmas.{value-snoc, digit_passed, no_digit}

-- So many digits were taken from the front, which write this number; of the others at most `left` are to be read.
abbrev pub ReadsHex : ℕ → ℕ → ℕ → Text → Text → Text → Type 0
ReadsHex number count left front whole rest =
    (span_at_most is_hexadecimal (count + left) whole ≡ (front ++ (span_at_most is_hexadecimal left rest).0, (span_at_most is_hexadecimal left rest).1))
    × (count ≡ length front) × (number ≡ value 16 front) × (number < 16 ^ count)

abbrev pub IsHexRead : ℕ → ℕ → ℕ → Text → Text → Type 0
IsHexRead number count most whole rest = (left : ℕ) × (count + left ≡ most) × ((front : Text) × ReadsHex number count left front whole rest)

pub hex_start : (most : ℕ) (t : Text) → IsHexRead 0 0 most t t
hex_start most t =
    (most, omega arith, ([], (ap (λ n. span_at_most is_hexadecimal n t) (nothing most), refl, refl, omega arith)))
  where
    nothing : (n : ℕ) → 0 + n ≡ n
    nothing n = omega arith

one_more : (n c : ℕ) (t : Text) → is_hexadecimal c ≡ true →
    span_at_most is_hexadecimal (suc n) (c ∷ t) ≡ (c ∷ (span_at_most is_hexadecimal n t).0, (span_at_most is_hexadecimal n t).1)
unfolding span_at_most
one_more n c t h =
    ap (λ b. elim b [ true ↦ (c ∷ (span_at_most is_hexadecimal n t).0, (span_at_most is_hexadecimal n t).1) | false ↦ ([], c ∷ t) ]) h

no_more : (n c : ℕ) (t : Text) → is_hexadecimal c ≡ false → span_at_most is_hexadecimal (suc n) (c ∷ t) ≡ ([], c ∷ t)
unfolding span_at_most
no_more n c t h =
    ap (λ b. elim b [ true ↦ (c ∷ (span_at_most is_hexadecimal n t).0, (span_at_most is_hexadecimal n t).1) | false ↦ ([], c ∷ t) ]) h

below : (number count d : ℕ) → number < 16 ^ count → d < 16 → number * 16 + d < 16 ^ suc count
below number count d h small = omega (arith, pow-suc 16 count, h, small)

step : (number count left d c : ℕ) (front whole u : Text) → is_hexadecimal c ≡ true → digit_value c ≡ d → d < 16 →
    ReadsHex number count (suc left) front whole (c ∷ u) → ReadsHex (number * 16 + d) (suc count) left (front ++ c ∷ []) whole u
step number count left d c front whole u pass digit small (is, counted, valued, fits) =
    let more = one_more left c u pass in
    let same : suc count + left ≡ count + suc left = omega arith in (
      ap (λ n. span_at_most is_hexadecimal n whole) same ∙ is
          ∙ rw more (ap (λ x. (x, (span_at_most is_hexadecimal left u).1)) (sym (append_assoc front (c ∷ []) (span_at_most is_hexadecimal left u).0))),
      omega (arith, counted, length-append front (c ∷ [])),
      sym (value-snoc 16 front c ∙ rw (digit, sym valued) refl),
      below number count d fits small,
    )

pub hex_next : (number count most d : ℕ) (whole t u : Text) → count < most → Some (d, u) ≡ split_digit 16 t → d < 16 →
    IsHexRead number count most whole t → IsHexRead (number * 16 + d) (count + 1) most whole u
hex_next number count most d whole t u less h small (zero, all, more) = absurd (omega (arith, all, less))
hex_next number count most d whole t u less h small (suc left, all, (front, reads)) =
    let (c, first, pass, digit) = digit_passed 16 t u d h in
    let next : ReadsHex (number * 16 + d) (suc count) left (front ++ c ∷ []) whole u =
    step number count left d c front whole u pass digit small (subst (ReadsHex number count (suc left) front whole) first reads) in
    let one : suc count ≡ count + 1 = omega arith in
    (left, omega (arith, all), (front ++ c ∷ [], subst (λ n. ReadsHex (number * 16 + d) n left (front ++ c ∷ []) whole u) one next))

-- nothing more is read
abbrev first_of : ℕ → Text → Option (ℕ × Text)
first_of c t = Some (c, t)

not_passed : (b : Bool) (c : ℕ) (t : Text) → cond b (first_of c t) None ≡ None → b ≡ false
not_passed true c t h = absurd (none-some (c, t) (sym h))
not_passed false c t h = refl

stops : (left : ℕ) (t : Text) → None ≡ split_digit 16 t → span_at_most is_hexadecimal left t ≡ ([], t)
unfolding span_at_most
stops zero t h = refl
stops (suc left) [] h = refl
stops (suc left) (c ∷ t) h = no_more left c t (not_passed (is_hexadecimal c) c t (no_digit 16 (c ∷ t) h))

none_left : (t : Text) → span_at_most is_hexadecimal 0 t ≡ ([], t)
unfolding span_at_most
none_left t = refl

-- all that was to be read was read
pub record IsHexDone (number count most : ℕ) (whole rest : Text) : Type 0 where
  pub valued : number ≡ value 16 (span_at_most is_hexadecimal most whole).0
  pub counted : count ≡ length (span_at_most is_hexadecimal most whole).0
  pub after : rest ≡ (span_at_most is_hexadecimal most whole).1

done : (number count left most : ℕ) (front whole rest : Text) → count + left ≡ most → span_at_most is_hexadecimal left rest ≡ ([], rest) →
    ReadsHex number count left front whole rest → IsHexDone number count most whole rest
done number count left most front whole rest all ends (is, counted, valued, fits) =
    let parts : span_at_most is_hexadecimal most whole ≡ (front, rest) =
    ap (λ n. span_at_most is_hexadecimal n whole) (sym all) ∙ is ∙ rw ends (ap (λ x. (x, rest)) (append-nil front)) in
    record {
      valued = valued ∙ sym (ap (λ x. value 16 x.0) parts);
      counted = counted ∙ sym (ap (λ x. length x.0) parts);
      after = sym (ap (λ x. x.1) parts);
    }

pub hex_stops : (number count most : ℕ) (whole rest : Text) → None ≡ split_digit 16 rest → IsHexRead number count most whole rest →
    IsHexDone number count most whole rest
hex_stops number count most whole rest h (left, all, (front, reads)) = done number count left most front whole rest all (stops left rest h) reads

pub hex_all : (number count most : ℕ) (whole rest : Text) → most ≤ count → IsHexRead number count most whole rest → IsHexDone number count most whole rest
hex_all number count most whole rest h (left, all, (front, reads)) =
    let none : left ≡ 0 = omega (arith, all, h) in
    done number count left most front whole rest all (ap (λ n. span_at_most is_hexadecimal n rest) none ∙ none_left rest) reads

pub hex_fits : (number count most d : ℕ) (whole rest : Text) → count < most → most ≤ 8 → d < 16 → IsHexRead number count most whole rest →
    number * 16 + d < 2 ^ 32
hex_fits number count most d whole rest less eight small (left, all, (front, (is, counted, valued, fits))) =
    let seven : count ≤ 7 = omega (arith, less, eight) in
    let some : 0 < 16 = omega arith in
    let bound : 16 ^ count ≤ 16 ^ 7 = pow-le-pow_right {n = 16} some {i = count} {j = 7} seven in
    omega (arith, fits, small, bound)

pub hex_small : (number count most : ℕ) (whole rest : Text) → IsHexRead number count most whole rest → number < 16 ^ count
hex_small number count most whole rest (left, all, (front, (is, counted, valued, fits))) = fits
