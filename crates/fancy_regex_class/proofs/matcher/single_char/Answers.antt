use Rattle.std.proofs.Common.{◌≡◌, ◌∙◌, ap, sym, rules, length, List, ℕ}
use Rattle.std.specs.Char.{IsScalar}
use Rattle.fancy_regex_class.proofs.OneCharLemmas.{no_text, no_bytes, two_chars}
use Rattle.fancy_regex_class.proofs.matcher.single_char.Goals as goal

pub returns-in_default-clause-none : goal.returns-in_default-clause-none
returns-in_default-clause-none c = no_text c.args.bytes.now c.in_default.ensures.cases.0

pub returns-in_err-first-clause-none : goal.returns-in_err-first-clause-none
returns-in_err-first-clause-none c =
    let none : length c.chars-rest.result.rest.now ≡ 0 = c.in_err-first.ensures.steps.0.0 in
    rw c.from_residual.ensures
    (no_bytes c.args.bytes.now (ap (λ (l : List ℕ). length l) (sym c.in-Ok.ensures.cases.0 ∙ sym c.chars-rest.ensures.rest) ∙ none))

pub returns-in-Some-clause-none : goal.returns-in-Some-clause-none
returns-in-Some-clause-none c =
    let scalar : IsScalar c.in_ok-first.first = search rules in
    two_chars c.args.bytes.now c.next.new.self.rest.now c.in_ok-first.first c.in-Some.field-0 scalar
    (sym c.in-Ok.ensures.cases.0 ∙ sym c.chars-rest.ensures.rest ∙ c.in_ok-first.ensures.steps.0) c.in-Some.ensures.steps.2
