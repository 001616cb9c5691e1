use Rattle.std.proofs.Common.{◌∙◌, refl}
use Rattle.fancy_search_words.proofs.Apps.{in_ok, rule_same}
use Rattle.fancy_search_words.proofs.command.with_letter.Goals as goal

pub returns-clause-app : goal.returns-clause-app
returns-clause-app c =
    in_ok c.with.result _ _ (λ x e. e ∙ rule_same _ _ _ _ refl c.letter.ensures.rule) c.with.ensures.app
