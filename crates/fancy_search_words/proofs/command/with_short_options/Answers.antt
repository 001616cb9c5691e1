use Rattle.std.proofs.Common.{◌∙◌, refl}
use Rattle.fancy_search_words.proofs.Apps.{in_ok, rule_same}
use Rattle.fancy_search_words.proofs.command.with_short_options.Goals as goal

pub returns-clause-app : goal.returns-clause-app
returns-clause-app c =
    let two = c.in_ok-two.ensures.app ∙ rule_same _ _ _ _ c.in_ok-one.ensures.app refl in
    let three = c.in_ok-three.ensures.app ∙ rule_same _ _ _ _ two refl in
    in_ok c.with_letter-4.result _ _ (λ x e. e ∙ rule_same _ _ _ _ three refl) c.with_letter-4.ensures.app
