use Rattle.std.proofs.Common.{ℕ, ◌==◌, ◌∙◌, ◌&&◌, chars, refl, sym, ap, ap₂}
use Rattle.std.specs.Prelude.{slice_range}
use Rattle.std.proofs.lemmas.Bool.{false≢true}
use lib.Pointwise.{pointwise}
use Rattle.fancy_regex_class.specs.Classes.{folded}
use Rattle.fancy_regex_prefilter.proofs.BoundaryLemmas.{place_of_cut, no_place}
use Rattle.fancy_regex_prefilter.proofs.backref.spells_alike.Goals as goal

pub returns-then-not-is_char_boundary : goal.returns-then-not-is_char_boundary
returns-then-not-is_char_boundary c =
    let u = c.args.run.now.unicode in
    let text = c.args.run.now.text.now in
    sym (ap (λ b. b && pointwise (λ (x y : ℕ). folded u x == folded u y) (chars (slice_range text c.args.start c.args.end)) (chars (slice_range text c.args.position c.args.next)))
    (no_place text c.args.next (λ cut. false≢true (c.if-not-is_char_boundary.ensures.test.1 cut))))

pub returns : goal.returns
returns c =
    let u = c.args.run.now.unicode in
    let text = c.args.run.now.text.now in
    c.folds_alike.ensures
    ∙ ap₂ (λ xs ys. pointwise (λ (x y : ℕ). folded u x == folded u y) (chars xs) (chars ys)) c.range.ensures.value c.range-2.ensures.value
    ∙ sym (ap (λ b. b && pointwise (λ (x y : ℕ). folded u x == folded u y) (chars (slice_range text c.args.start c.args.end)) (chars (slice_range text c.args.position c.args.next)))
    (place_of_cut text c.args.next (c.if-not-is_char_boundary.ensures.test.0 refl)))
