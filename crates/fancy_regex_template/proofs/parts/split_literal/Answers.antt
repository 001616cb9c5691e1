use Rattle.std.proofs.Common.{chars, sym, ap, ◌∙◌, refl}
use Rattle.std.proofs.lemmas.Str.{chars-nil}
use Rattle.fancy_regex_text.specs.Text.{span}
use Rattle.fancy_regex_template.proofs.LiteralLemmas.{is_other, literal_found, literal_missing}
use Rattle.fancy_regex_template.proofs.parts.split_literal.Goals as goal

pub returns-in-Some : goal.returns-in-Some
returns-in-Some c =
    let at = c.in-Some.ensures.cases in
    sym (ap (λ s. span (is_other s) (chars c.args.text.now)) (sym c.sign.ensures)
    ∙ literal_found c.sign.result c.args.text.now c.in-Some.place at.0 c.utf8.text at.1.0 at.1.1 at.3
    ∙ rw (c.split_at.ensures.front, c.split_at.ensures.back) refl)

pub returns-in-None : goal.returns-in-None
returns-in-None c =
    sym (ap (λ s. span (is_other s) (chars c.args.text.now)) (sym c.sign.ensures)
    ∙ literal_missing c.sign.result c.args.text.now c.utf8.text c.in-None.ensures.cases
    ∙ ap (λ x. (chars c.args.text.now, x)) (sym chars-nil))
