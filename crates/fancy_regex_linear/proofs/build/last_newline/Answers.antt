use Rattle.std.proofs.Common.{refl}
use Rattle.fancy_regex_states.specs.declared.atom.Leaf.TheVariants.{Char}
use Rattle.fancy_regex_linear.specs.declared.node.Node.TheVariants as node
use Rattle.fancy_regex_linear.proofs.LineEndLemmas.{last_newline_is}
use Rattle.fancy_regex_linear.proofs.build.last_newline.Goals as goal

pub returns : goal.returns
returns c =
    rw c.if-not-crlf.false (last_newline_is (node.Read (Char 10)) c.in_ok-pair.pair c.add-2.new.values c.new-branches.result.items c.add.new.values.items refl c.new-branches.ensures.items
    c.in_ok-add.ensures c.in_ok-add-2.ensures c.in_ok-pair.ensures)
