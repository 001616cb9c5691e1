use Rattle.std.proofs.Common.{sym, ◌∙◌}
use Rattle.fancy_regex_text.proofs.TextLemmas.{empty_chars}
use Rattle.fancy_regex_text.proofs.text.is_empty.Goals as goal

pub returns : goal.returns
returns c = c.is_empty.ensures ∙ sym (empty_chars _ c.utf8.text)
