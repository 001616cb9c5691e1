use Rattle.std.proofs.Common.{arith}
use Rattle.fancy_regex_lex.proofs.ClassPartLemmas.{chars_fit}
use Rattle.fancy_regex_tree.proofs.TreeBounds.{if_ok}
use Rattle.fancy_regex_tree.proofs.parser.parse_pattern.Goals as goal

pub returns-clause-small : goal.returns-clause-small
returns-clause-small c =
    if_ok _ _ c.parse_whole_pattern.result (λ e small. omega (arith, small, chars_fit _ c.utf8.text)) c.parse_whole_pattern.ensures.small
