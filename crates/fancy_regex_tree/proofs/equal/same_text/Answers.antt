use Rattle.std.proofs.Common.{◌∙◌}
use Rattle.fancy_regex_tree.proofs.Compared.{same_chars}
use Rattle.fancy_regex_tree.proofs.equal.same_text.Goals as goal

pub returns : goal.returns
returns c = rw (c.as_bytes.ensures.value, c.as_bytes-2.ensures.value) at c.eq.ensures ∙ same_chars c.args.a.now c.args.b.now c.utf8.a c.utf8.b
