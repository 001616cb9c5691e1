use Rattle.std.proofs.Common.{sym}
use Rattle.fancy_regex_text.proofs.TextLemmas.{bytes-chars}
use Rattle.fancy_regex_tree.proofs.parse_atoms.size_of.Goals as goal

pub returns : goal.returns
returns c = sym (bytes-chars _ c.utf8.text)
