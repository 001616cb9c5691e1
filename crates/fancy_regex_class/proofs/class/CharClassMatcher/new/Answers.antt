use Rattle.std.proofs.Common.{◌∙◌, ap, subst}
use Rattle.fancy_regex_class.specs.Matchers.{RefusesText}
use Rattle.std.specs.Prelude.{chars}
use Rattle.fancy_regex_class.specs.Classes.{in_class, text_matches_char}
use Rattle.fancy_regex_class.proofs.class.CharClassMatcher.new.Goals as goal

pub returns-in-Ok-clause-members : goal.returns-in-Ok-clause-members
unfolding in_class
returns-in-Ok-clause-members c = λ d scalar.
    c.in_ok-matcher-in-Ok.ensures d ∙ c.in-Ok.ensures.members d scalar
    ∙ ap (λ t. text_matches_char t d) (ap chars c.deref.ensures ∙ c.in_ok-written.ensures)

pub returns-clause-refused : goal.returns-clause-refused
returns-clause-refused c = (
  c.in_ok-from_str-in-Err-Refused.ensures.ok,
  subst RefusesText (ap chars c.deref.ensures ∙ c.in_ok-written.ensures) (c.in-Err-Refused.ensures.refused c.in-Err-Refused.field-0-is),
)
