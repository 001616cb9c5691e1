use Rattle.std.proofs.Common.{◌∙◌, ap, sym, is_some, chars}
use Rattle.fancy_regex_text.proofs.TextLemmas.{is_some-map}
use Rattle.fancy_regex_text.proofs.text.has_prefix.Goals as goal

pub returns : goal.returns
returns c = c.is_some.ensures ∙ sym (is_some-map (λ rest. chars rest.now) c.strip_prefix.result) ∙ ap is_some c.strip_prefix.ensures.value
