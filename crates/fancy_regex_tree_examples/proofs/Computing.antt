-- All of the definitions, to be unfolded together.
use Rattle.fancy_regex_lex.proofs.Computing.{computing as lex_computing}
use Rattle.fancy_regex_tree.specs.Quantifiers.{repeated, marked, apply_quantifier, full, parse_quantifiers}
use Rattle.fancy_regex_tree.specs.Parser.{parse_group_body, parse_group_expression, parse_expression_conditional, parse_group, parse_parenthesized, parse_escape, parse_bracketed_class, parse_character, parse_simple_atom, parse_atom, parse_piece, parse_branch, branches, parse_alternation, parse_whole_pattern, parse_pattern}

unfoldable pub computing : Unit {0}
unfolding lex_computing repeated marked apply_quantifier full parse_quantifiers parse_group_body parse_group_expression parse_expression_conditional parse_group parse_parenthesized parse_escape parse_bracketed_class parse_character parse_simple_atom parse_atom parse_piece parse_branch branches parse_alternation parse_whole_pattern parse_pattern
computing = tt
