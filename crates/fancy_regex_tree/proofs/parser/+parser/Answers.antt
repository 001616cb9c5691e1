use Rattle.std.proofs.Common.{rules, ap, ◌<◌, ◌+◌, ◌*◌, length, chars, map, sym, ◌∙◌, arith}
use Rattle.std.proofs.lemmas.Result.{err_from_is_err_and}
use Rattle.std.proofs.lemmas.List.{map_push}
use Rattle.fancy_regex_tree.specs.Tree.{tree_of}
use Rattle.fancy_regex_lex.specs.Openings.{opening_of}
use Rattle.fancy_regex_tree.specs.Bounds.{extra_nodes}
use Rattle.fancy_regex_tree.specs.Parser.{inner_parser, parse_alternation}
use Rattle.fancy_regex_tree.proofs.TreeBounds.{if_ok, piece_read, branch_read, bar_read, tallest_push, tallest_of_all_push, pattern_read, pattern_low, yes_and_no_low, expression_read}
use Rattle.fancy_regex_tree.proofs.TreeBounds.{tested_read, tested_low, absent_read, absent_low, opened_read}
use Rattle.fancy_regex_tree.proofs.LongOpenings.{opening_long, slack_least}
use Rattle.fancy_regex_tree.proofs.Loops.{with_before-nil, nested_is, pieces_skip_fails, pieces_end, pieces_fail, pieces_go, branches_fail, branches_end, branches_go, going}
use Rattle.fancy_regex_tree.proofs.Steps.{closed_open}
use Rattle.fancy_regex_tree.proofs.parser.+parser.Goals as goal

pub parse_group_body-returns-in_default-clause-value : goal.parse_group_body-returns-in_default-clause-value
parse_group_body-returns-in_default-clause-value t c =
    let r = c.args.parser in
    closed_open r.config (parse_alternation r.config r.levels) r.in_look c.args.flags _ (chars c.args.text.now) (chars c.in_ok-branches.rest.now) _
    c.in_ok-branches.ensures.value (sym c.in_default.ensures.value)

pub parse_alternation-loop-all-init : goal.parse_alternation-loop-all-init
parse_alternation-loop-all-init t c =
    let r = c.args.parser in (
      search rules,
      omega arith,
      rw c.new-all.ensures.items (omega arith),
      rw c.new-all.ensures.items (omega arith),
      length (chars c.args.text.now) + 1,
      omega arith,
      rw c.new-all.ensures.items (with_before-nil _ ∙ sym (nested_is r.config r.levels r.in_look c.args.flags (chars c.args.text.now))),
    )

pub parse_alternation-returns-in_err-branch-clause-value : goal.parse_alternation-returns-in_err-branch-clause-value
parse_alternation-returns-in_err-branch-clause-value t c =
    let p = err_from_is_err_and c.from_residual.result c.from_residual.ensures.1 in
    let l = c.loop-all in
    let r = c.args.parser in
    let some : 0 < l.invariant.4 = omega (arith, l.invariant.5) in
    rw (p.1, p.2) (branches_fail r.config (inner_parser r.config r.levels) r.in_look l.invariant.4 l.now (chars l.rest.now) _ c.in_err-branch.field-0.0 _ some
    c.in_err-branch.ensures.value l.invariant.6)

pub parse_alternation-returns-in_default-clause-value : goal.parse_alternation-returns-in_default-clause-value
parse_alternation-returns-in_default-clause-value t c =
    let l = c.loop-all in
    let r = c.args.parser in
    let some : 0 < l.invariant.4 = omega (arith, l.invariant.5) in
    rw (c.in_ok-push.ensures.items, map_push) (branches_end r.config (inner_parser r.config r.levels) r.in_look l.invariant.4 l.now c.in_ok-branch.changed (chars l.rest.now)
    (chars c.in_ok-branch.after.now) _ (map tree_of c.in_ok-branch.branch.items) _ some c.in_ok-branch.ensures.value (sym c.in_default.ensures.value) l.invariant.6)

pub parse_alternation-loop-all-preserved : goal.parse_alternation-loop-all-preserved
parse_alternation-loop-all-preserved t c =
    let l = c.loop-all in
    let r = c.args.parser in
    let some : 0 < l.invariant.4 = omega (arith, l.invariant.5) in
    let next = branches_go r.config (inner_parser r.config r.levels) r.in_look l.invariant.4 l.now c.in_ok-branch.changed (chars l.rest.now)
    (chars c.in_ok-branch.after.now) (chars c.in-Some.next.now) _ (map tree_of c.in_ok-branch.branch.items) _ some c.in_ok-branch.ensures.value
    (sym c.in-Some.ensures.value) l.invariant.6 in (
      search rules,
      omega (arith, l.invariant.1, c.in_ok-branch.ensures.shorter, c.in-Some.ensures.shorter),
      rw (c.in_ok-push.ensures.items, map_push) (bar_read _ _ _ _ _ _ l.invariant.2 c.in_ok-branch.ensures.small (omega (arith, c.in-Some.ensures.len))),
      rw (c.in_ok-push.ensures.items, map_push) (tallest_of_all_push _ _ _ l.invariant.3 c.in_ok-branch.ensures.low),
      next.0,
      omega (arith, next.1, l.invariant.5, c.in_ok-branch.ensures.shorter, c.in-Some.ensures.len),
      rw (c.in_ok-push.ensures.items, map_push) next.2,
    )

pub parse_branch-returns-in_err-here-clause-value : goal.parse_branch-returns-in_err-here-clause-value
parse_branch-returns-in_err-here-clause-value t c =
    let p = err_from_is_err_and c.from_residual.result c.from_residual.ensures.1 in
    let l = c.loop-all in
    let r = c.args.parser in
    let some : 0 < l.invariant.4 = omega (arith, l.invariant.5) in
    rw (p.1, p.2) (pieces_skip_fails r.config (inner_parser r.config r.levels) r.in_look l.invariant.4 l.now (chars l.rest.now) _ c.in_err-here.field-0.0 _ some
    c.in_err-here.ensures.value l.invariant.6)

pub parse_branch-returns-then-ends_branch-clause-value : goal.parse_branch-returns-then-ends_branch-clause-value
parse_branch-returns-then-ends_branch-clause-value t c =
    let l = c.loop-all in
    let r = c.args.parser in
    let some : 0 < l.invariant.4 = omega (arith, l.invariant.5) in
    pieces_end r.config (inner_parser r.config r.levels) r.in_look l.invariant.4 l.now (chars l.rest.now) (chars c.in_ok-here.here.now) _ _ some
    c.in_ok-here.ensures.value (sym c.ends_branch.ensures ∙ c.if-ends_branch.true) l.invariant.6

pub parse_branch-returns-in_err-piece-clause-value : goal.parse_branch-returns-in_err-piece-clause-value
parse_branch-returns-in_err-piece-clause-value t c =
    let p = err_from_is_err_and c.from_residual-in_err-piece.result c.from_residual-in_err-piece.ensures.1 in
    let l = c.loop-all in
    let r = c.args.parser in
    let some : 0 < l.invariant.4 = omega (arith, l.invariant.5) in
    rw (p.1, p.2) (pieces_fail r.config (inner_parser r.config r.levels) r.in_look l.invariant.4 l.now (chars l.rest.now) (chars c.in_ok-here.here.now) _
    c.in_err-piece.field-0.0 _ some c.in_ok-here.ensures.value (sym c.ends_branch.ensures ∙ c.if-ends_branch.false) c.in_err-piece.ensures.value l.invariant.6)

pub parse_branch-loop-all-preserved : goal.parse_branch-loop-all-preserved
parse_branch-loop-all-preserved t c =
    let l = c.loop-all in
    let r = c.args.parser in
    let some : 0 < l.invariant.4 = omega (arith, l.invariant.5) in
    let next = pieces_go r.config (inner_parser r.config r.levels) r.in_look l.invariant.4 l.now c.in_ok-piece.changed (chars l.rest.now)
    (chars c.in_ok-here.here.now) (chars c.in_ok-piece.after.now) _ (tree_of c.in_ok-piece.piece) _ some c.in_ok-here.ensures.value
    (sym c.ends_branch.ensures ∙ c.if-ends_branch.false) c.in_ok-piece.ensures.value l.invariant.6 in
    let goes = going (chars c.in_ok-here.here.now) (sym c.ends_branch.ensures ∙ c.if-ends_branch.false) in (
      search rules,
      omega (arith, l.invariant.1, c.in_ok-here.ensures.shorter, c.in_ok-piece.ensures.shorter),
      rw (c.in_ok-push.ensures.items, map_push) (piece_read _ _ _ _ _ _ l.invariant.2 c.in_ok-here.ensures.shorter c.in_ok-piece.ensures.small goes),
      rw (c.in_ok-push.ensures.items, map_push) (tallest_push _ _ _ l.invariant.3 c.in_ok-piece.ensures.low),
      next.0,
      omega (arith, next.1, l.invariant.5, c.in_ok-here.ensures.shorter, c.in_ok-piece.ensures.shorter, goes),
      rw (c.in_ok-push.ensures.items, map_push) next.2,
    )

pub parse_alternation-returns-in_default-clause-small : goal.parse_alternation-returns-in_default-clause-small
parse_alternation-returns-in_default-clause-small t c =
    let l = c.loop-all in
    rw (c.in_ok-push.ensures.items, map_push) (branch_read _ _ _ _ _ l.invariant.2 c.in_ok-branch.ensures.small)

pub parse_alternation-returns-in_default-clause-low : goal.parse_alternation-returns-in_default-clause-low
parse_alternation-returns-in_default-clause-low t c =
    let l = c.loop-all in
    rw (c.in_ok-push.ensures.items, map_push) (tallest_of_all_push _ _ _ l.invariant.3 c.in_ok-branch.ensures.low)

pub parse_group_expression-returns-clause-small : goal.parse_group_expression-returns-clause-small
parse_group_expression-returns-clause-small t c =
    rw c.in_ok-pattern_of.ensures (pattern_read _ _ _ c.in_ok-branches.ensures.small c.in_ok-branches.ensures.shorter)

pub parse_group_expression-returns-clause-low : goal.parse_group_expression-returns-clause-low
parse_group_expression-returns-clause-low t c =
    let low = pattern_low (13 * c.args.parser.levels + 11) _ c.in_ok-branches.ensures.low in
    rw c.in_ok-pattern_of.ensures (omega (arith, low))

pub parse_expression_conditional-returns-clause-small : goal.parse_expression_conditional-returns-clause-small
parse_expression_conditional-returns-clause-small t c =
    rw c.in_ok-conditional_of_branches.ensures (expression_read _ _ _ _ _ c.in_ok-condition.ensures.small c.in_ok-body.ensures.small c.in_ok-body.ensures.shorter)

pub parse_expression_conditional-returns-clause-low : goal.parse_expression_conditional-returns-clause-low
parse_expression_conditional-returns-clause-low t c =
    let low = yes_and_no_low (13 * c.args.parser.levels + 11) (tree_of c.in_ok-condition.condition) _ c.in_ok-body.ensures.low
    (omega (arith, c.in_ok-condition.ensures.low)) in
    rw c.in_ok-conditional_of_branches.ensures (omega (arith, low))

pub parse_parenthesized-returns-clause-small : goal.parse_parenthesized-returns-clause-small
parse_parenthesized-returns-clause-small t c =
    let r = c.args.parser in
    let how = opening_of c.in_ok-how.how in
    if_ok _ _ c.parse_group.result
    (λ x small. opened_read _ _ _ _ (extra_nodes how) small c.in_ok-how.ensures.shorter (slack_least how)
    (opening_long r.config.unicode c.args.flags (chars c.args.text.now) (chars c.in_ok-how.rest.now) how c.in_ok-how.ensures.value))
    c.parse_group.ensures.small

pub parse_group-returns-in_ok-absent_bar_of-in-AbsentBar-clause-small :
    goal.parse_group-returns-in_ok-absent_bar_of-in-AbsentBar-clause-small
parse_group-returns-in_ok-absent_bar_of-in-AbsentBar-clause-small t c =
    let is = ap (λ a. a.tree) c.plain-in-AbsentBar.ensures ∙ c.in_ok-absent_bar_of-in-AbsentBar.ensures in
    let fits = absent_read _ _ _ c.in_ok-body-in-AbsentBar.ensures.small c.in_ok-body-in-AbsentBar.ensures.shorter in
    rw is (omega (arith, fits))

pub parse_group-returns-in_ok-absent_bar_of-in-AbsentBar-clause-low :
    goal.parse_group-returns-in_ok-absent_bar_of-in-AbsentBar-clause-low
parse_group-returns-in_ok-absent_bar_of-in-AbsentBar-clause-low t c =
    let is = ap (λ a. a.tree) c.plain-in-AbsentBar.ensures ∙ c.in_ok-absent_bar_of-in-AbsentBar.ensures in
    let low = absent_low (13 * c.args.parser.levels + 11) _ c.in_ok-body-in-AbsentBar.ensures.low in
    rw is (omega (arith, low))

pub parse_group-returns-in_ok-make_conditional-in-IfSet-clause-small : goal.parse_group-returns-in_ok-make_conditional-in-IfSet-clause-small
parse_group-returns-in_ok-make_conditional-in-IfSet-clause-small t c =
    let is = ap (λ a. a.tree) c.plain-in-IfSet.ensures ∙ c.in_ok-make_conditional-in-IfSet.ensures in
    let fits = tested_read (tree_of c.in_ok-condition-in-IfSet.condition) _ _ _ c.in_ok-body-in-IfSet.ensures.small c.in_ok-body-in-IfSet.ensures.shorter in
    let one = ap (λ how. extra_nodes (opening_of how)) c.in-IfSet.is in
    let leaf = c.in_ok-condition-in-IfSet.ensures.leaf.0 in
    rw is (omega (arith, fits, one, leaf))

pub parse_group-returns-in_ok-make_conditional-in-IfSet-clause-low : goal.parse_group-returns-in_ok-make_conditional-in-IfSet-clause-low
parse_group-returns-in_ok-make_conditional-in-IfSet-clause-low t c =
    let is = ap (λ a. a.tree) c.plain-in-IfSet.ensures ∙ c.in_ok-make_conditional-in-IfSet.ensures in
    let leaf = c.in_ok-condition-in-IfSet.ensures.leaf.1 in
    let low = tested_low (13 * c.args.parser.levels + 11) (tree_of c.in_ok-condition-in-IfSet.condition) _ c.in_ok-body-in-IfSet.ensures.low
    (omega (arith, leaf)) in
    rw is (omega (arith, low))
