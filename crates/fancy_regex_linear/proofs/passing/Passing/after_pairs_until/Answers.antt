use Rattle.std.proofs.Common.{◌≡◌, ◌-◌, ◌+◌, ◌<◌, ℕ, arith, refl, sym, subst, inl, inr, ⊎_elim, slice_index_or}
use Rattle.fancy_regex_stops.specs.Stops.{IsPairAt}
use Rattle.fancy_regex_linear.proofs.passing.Passing.after_pairs_until.Goals as goal

pub returns-then-from-eq0 : goal.returns-then-from-eq0
returns-then-from-eq0 c = record {
  range = (omega arith, c.requires);
  first = λ zero_is. zero_is;
  passed = λ i low less. absurd (omega (arith, low, less));
  stop = inl refl;
}

pub returns-in_default : goal.returns-in_default
returns-in_default c = record {
  range = (omega arith, c.requires);
  first = λ zero_is. zero_is;
  passed = λ i low less. absurd (omega (arith, low, less));
  stop = inl refl;
}

pub returns-then-last-bytes : goal.returns-then-last-bytes
returns-then-last-bytes c =
    let is = c.in-Some.ensures in
    record {
      range = (omega (arith, is.range, c.if-last-bytes.true, c.requires), is.range.1);
      first = λ zero_is. absurd (omega (arith, zero_is, c.if-from-eq0.false));
      passed = λ i low less. is.passed (i - 1) (omega (arith, low)) (omega (arith, less, low, c.if-from-eq0.false));
      stop = inr (inl (omega (arith, is.range.1, c.if-last-bytes.true)));
    }

pub returns : goal.returns
returns c =
    let is = c.in-Some.ensures in
    let last : ℕ = c.in-Some.last in
    let place : last ≡ last + 1 - 1 = omega arith in
    record {
      range = (omega (arith, is.range.0), omega (arith, c.if-last-bytes.false));
      first = λ zero_is. absurd (omega (arith, zero_is, c.if-from-eq0.false));
      passed = λ i low less. is.passed (i - 1) (omega (arith, low)) (omega (arith, less, low, c.if-from-eq0.false));
      stop = ⊎_elim
          (λ ascii. inr (inr (inl (subst (λ (k : ℕ). slice_index_or c.args.bytes.now k 0 < 128) place ascii))))
          (λ narrow. inr (inr (inr narrow)))
          (is.stop (omega (arith, c.if-last-bytes.false)));
    }
