-- Runs of characters that pass a test.
use Rattle.std.proofs.Common.{◌≡◌, ◌≢◌, ℕ, ◌<◌, Bool, true, false, [], ◌∷◌, ◌++◌, length, refl, sym, ap, ◌∙◌, subst, ⊎_elim, arith, append-nil}
use Rattle.std.proofs.lemmas.Bool.{cases_Bool, both_ways}
use Rattle.std.proofs.lemmas.List.{length-append}
use Rattle.fancy_regex_text.specs.Text.{Text, span, is_empty}
use Rattle.fancy_regex_template.specs.Cuts.{AllPass, StopsAt}

pub record IsSpan (test : ℕ → Bool) (t front rest : Text) : Type 0 where
  pub whole : t ≡ front ++ rest
  pub all : AllPass test front
  pub longest : StopsAt test rest

pub span-true : (test : ℕ → Bool) (c : ℕ) (t : Text) → test c ≡ true → span test (c ∷ t) ≡ (c ∷ (span test t).0, (span test t).1)
unfolding span
span-true test c t h = ap (λ b. elim b [ true ↦ (c ∷ (span test t).0, (span test t).1) | false ↦ ([], c ∷ t) ]) h

span-false : (test : ℕ → Bool) (c : ℕ) (t : Text) → test c ≡ false → span test (c ∷ t) ≡ ([], c ∷ t)
unfolding span
span-false test c t h = ap (λ b. elim b [ true ↦ (c ∷ (span test t).0, (span test t).1) | false ↦ ([], c ∷ t) ]) h

abbrev SpanIs : (ℕ → Bool) → Text → Text × Text → Type 0
SpanIs test t x = IsSpan test t x.0 x.1

-- what `span` finds
pub span_is : (test : ℕ → Bool) (t : Text) → IsSpan test t (span test t).0 (span test t).1
unfolding span
span_is test [] = record { whole = refl; all = tt; longest = tt }
span_is test (c ∷ t) = ⊎_elim
    (λ h. subst (SpanIs test (c ∷ t)) (sym (span-true test c t h))
    (record { whole = ap (λ x. c ∷ x) (span_is test t).whole; all = (h, (span_is test t).all); longest = (span_is test t).longest }))
    (λ h. subst (SpanIs test (c ∷ t)) (sym (span-false test c t h)) (record { whole = refl; all = tt; longest = h }))
    (cases_Bool (test c))

span-stop : (test : ℕ → Bool) (rest : Text) → StopsAt test rest → span test rest ≡ ([], rest)
unfolding span
span-stop test [] h = refl
span-stop test (c ∷ t) h = span-false test c t h

span-run : (test : ℕ → Bool) (front rest : Text) → AllPass test front → StopsAt test rest → span test (front ++ rest) ≡ (front, rest)
span-run test [] rest all stops = span-stop test rest stops
span-run test (c ∷ front) rest all stops =
    span-true test c (front ++ rest) all.0 ∙ ap (λ x. (c ∷ x.0, x.1)) (span-run test front rest all.1 stops)

-- nothing else is a span
pub span_only : (test : ℕ → Bool) (t front rest : Text) → IsSpan test t front rest → span test t ≡ (front, rest)
span_only test t front rest s = ap (span test) s.whole ∙ span-run test front rest s.all s.longest

-- a run is not empty, so the rest is shorter
pub run_shorter : (front rest : Text) → front ≢ [] → length rest < length (front ++ rest)
run_shorter [] rest h = absurd (h refl)
run_shorter (c ∷ front) rest h = omega (arith, length-append (c ∷ front) rest)

-- a text all of which passes, or not
pub all_pass : (test : ℕ → Bool) (t rest : Text) → rest ≡ (span test t).1 → is_empty rest ≡ true → AllPass test t
all_pass test t rest is h =
    let s = span_is test t in
    let none : (span test t).1 ≡ [] = sym is ∙ nothing rest h in
    subst (AllPass test) (sym (s.whole ∙ ap (λ x. (span test t).0 ++ x) none ∙ append-nil (span test t).0)) s.all
  where
    nothing : (t : Text) → is_empty t ≡ true → t ≡ []
    nothing [] h = refl
    nothing (c ∷ t) h = absurd (both_ways false refl h)

pub not_all_pass : (test : ℕ → Bool) (t rest : Text) → rest ≡ (span test t).1 → is_empty rest ≡ false → AllPass test t → ⊥
not_all_pass test t rest is h all =
    let none = span_only test t t [] (record { whole = sym (append-nil t); all = all; longest = tt }) in
    both_ways true (ap is_empty (sym (is ∙ ap (λ x. x.1) none)) ∙ h) refl
