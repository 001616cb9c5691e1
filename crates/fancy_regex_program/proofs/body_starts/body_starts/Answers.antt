use Rattle.fancy_regex_tree.specs.Tree.{tree_of}
use Rattle.std.proofs.Common.{sym, ◌∙◌}
use Rattle.fancy_regex_program.proofs.BodyStartLemmas.{known_starts}
use Rattle.fancy_regex_program.proofs.body_starts.body_starts.Goals as goal

pub returns-in-Ok : goal.returns-in-Ok
returns-in-Ok c =
    known_starts c.args.unicode (tree_of c.args.tree.now) c.in-Ok.starts (sym c.in_ok-has_reversed_repeat.ensures ∙ c.if-branch.false) c.in-Ok.ensures.answer
