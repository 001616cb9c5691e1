use Rattle.std.proofs.Common.{◌≡◌, ℕ, ◌+◌, ◌*◌, ◌≤◌, ◌<◌, length, chars, map, IsUtf8}
use Rattle.fancy_regex_tree.specs.Tree.{tree_of}
use Rattle.fancy_regex_tree.specs.Bounds.{pieces_measure, branches_measure, max_depth, max_depth_of_all}
use Rattle.fancy_regex_tree.specs.Parser.{parse_branch, branches, parse_alternation, inner_parser}
use Rattle.fancy_regex_tree.proofs.Loops.{with_before}
use Rattle.fancy_regex_tree.proofs.parser.+parser.Given as goal

abbrev pub decreases-parse_parenthesized : goal.decreases-parse_parenthesized
decreases-parse_parenthesized l = 16 * l.parser.levels

abbrev pub decreases-parse_atom : goal.decreases-parse_atom
decreases-parse_atom l = 16 * l.parser.levels + 1

abbrev pub decreases-parse_piece : goal.decreases-parse_piece
decreases-parse_piece l = 16 * l.parser.levels + 2

abbrev pub decreases-parse_branch : goal.decreases-parse_branch
decreases-parse_branch l = 16 * l.parser.levels + 3

abbrev pub decreases-parse_alternation : goal.decreases-parse_alternation
decreases-parse_alternation l = 16 * l.parser.levels + 4

abbrev pub decreases-parse_group_body : goal.decreases-parse_group_body
decreases-parse_group_body l = 16 * l.parser.levels + 5

abbrev pub decreases-parse_group_expression : goal.decreases-parse_group_expression
decreases-parse_group_expression l = 16 * l.parser.levels + 6

abbrev pub decreases-parse_expression_conditional : goal.decreases-parse_expression_conditional
decreases-parse_expression_conditional l = 16 * l.parser.levels + 7

abbrev pub decreases-parse_group : goal.decreases-parse_group
decreases-parse_group l = 16 * l.parser.levels + 8

abbrev pub decreases-parse_alternation-loop-all : goal.decreases-parse_alternation-loop-all
decreases-parse_alternation-loop-all l = length (chars l.rest)

abbrev pub decreases-parse_branch-loop-all : goal.decreases-parse_branch-loop-all
decreases-parse_branch-loop-all l = length (chars l.rest)

-- the branches so far and those to come are all of them
abbrev pub invariant-parse_alternation-loop-all : goal.invariant-parse_alternation-loop-all
invariant-parse_alternation-loop-all l =
    IsUtf8 l.rest × (length (chars l.rest) ≤ length (chars l.text))
    × (branches_measure (map (λ b. map tree_of b.items) l.all.items) + 2 * length (chars l.rest) ≤ 2 * length (chars l.text))
    × (max_depth_of_all (map (λ b. map tree_of b.items) l.all.items) ≤ 13 * l.parser.levels + 11) × (m : ℕ) × (length (chars l.rest) < m)
    × (with_before (map (λ b. map tree_of b.items) l.all.items) (branches l.parser.config (inner_parser l.parser.config l.parser.levels) m l.parser.in_look l.now (chars l.rest))
    ≡ parse_alternation l.parser.config l.parser.levels l.parser.in_look l.fn.flags (chars l.text))

-- the pieces so far and those to come are all of them
abbrev pub invariant-parse_branch-loop-all : goal.invariant-parse_branch-loop-all
invariant-parse_branch-loop-all l =
    IsUtf8 l.rest × (length (chars l.rest) ≤ length (chars l.text))
    × (pieces_measure (map tree_of l.all.items) + 2 * length (chars l.rest) ≤ 2 * length (chars l.text))
    × (max_depth (map tree_of l.all.items) ≤ 13 * l.parser.levels + 11) × (m : ℕ) × (length (chars l.rest) < m)
    × (with_before (map tree_of l.all.items) (parse_branch l.parser.config (inner_parser l.parser.config l.parser.levels) m l.parser.in_look l.now (chars l.rest))
    ≡ parse_branch l.parser.config (inner_parser l.parser.config l.parser.levels) (length (chars l.text) + 1) l.parser.in_look l.fn.flags (chars l.text))
