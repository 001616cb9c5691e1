use Rattle.std.proofs.Common.{◌∙◌, ap}
use Rattle.fancy_regex_class.specs.Classes.{matches_single_char}
use Rattle.fancy_regex_class.proofs.ClassLemmas.{regex_has, regex_read}
use Rattle.fancy_regex_class.proofs.matcher.members_by_search.Goals as goal

pub returns-in_ok-class_of_matches-in-Ok-clause-members : goal.returns-in_ok-class_of_matches-in-Ok-clause-members
returns-in_ok-class_of_matches-in-Ok-clause-members c = λ d scalar.
    c.in_ok-class_of_matches-in-Ok.ensures d scalar ∙ ap (λ re. matches_single_char re d) c.in_ok-matcher-in-Ok.ensures.pattern
    ∙ regex_has c.in-Ok.regex c.args.written.now c.in-Ok.ensures.source c.in-Ok.ensures.config c.in-Ok.ensures.read d scalar

pub returns-in_ok-class_of_matches-in-Ok-clause-read : goal.returns-in_ok-class_of_matches-in-Ok-clause-read
returns-in_ok-class_of_matches-in-Ok-clause-read c = regex_read c.in-Ok.regex c.args.written.now c.in-Ok.ensures.source c.in-Ok.ensures.config c.in-Ok.ensures.read
