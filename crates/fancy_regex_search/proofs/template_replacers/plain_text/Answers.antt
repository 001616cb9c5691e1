use Rattle.std.proofs.Common.{◌≡◌, ◌∙◌, List, ℕ, Bool, false, Option, Some, None, ap, sym, chars}
use Rattle.std.specs.Prelude.{encode_utf8_all, if◌then◌else◌}
use Rattle.fancy_regex_search.specs.GroupTexts.{has_sign}
use Rattle.fancy_regex_search.proofs.GroupTextLemmas.{encoded_text}
use Rattle.fancy_regex_search.proofs.template_replacers.plain_text.Goals as goal

pub returns-else-has_sign : goal.returns-else-has_sign
returns-else-has_sign c =
    let t : List ℕ = c.args.template.now in
    let none : has_sign (chars t) ≡ false = sym c.has_sign.ensures ∙ c.if-has_sign.false in
    let whole : ◌≡◌ {A = Option (List ℕ)} (Some t) (Some (encode_utf8_all (chars t))) = ap Some (sym (encoded_text t c.utf8.template)) in
    whole ∙ ap (λ (b : Bool). if b then None else Some (encode_utf8_all (chars t))) (sym none)
