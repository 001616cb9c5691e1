use Rattle.fancy_regex_tree.specs.Tree.{tree_of}
use Rattle.fancy_regex_reprint.proofs.PrintedLevels.{levels_exceeded}
use Rattle.fancy_regex_reprint.proofs.levels.is_within_levels.Goals as goal

pub returns-in-Err-ParseError : goal.returns-in-Err-ParseError
returns-in-Err-ParseError c =
    levels_exceeded (tree_of c.args.expr.now) _ _ _ _ c.requires.printable c.printed_tree_parses.ensures.parses c.requires.printed c.in-Err-ParseError.field-0-is
    c.in-Err-ParseError.ensures.value
