use Rattle.std.proofs.Common.{◌∙◌, ◌&&◌, ap, refl, chars, length, nat_le, arith}
use Rattle.std.specs.List.{list_any}
use Rattle.fancy_regex_tree.specs.Traversal.{nodes}
use Rattle.fancy_regex_tree.specs.ReferenceSummary.{refers_to, is_reference_above}
use Rattle.fancy_regex_tree.specs.Tree.{tree_of}
use Rattle.fancy_regex_tree.specs.Numbering.{counted, openings}
use Rattle.fancy_regex_tree.proofs.Parsing.{reading_fails, resolving_fails, parse_goes, resolving_fails_within, resolved_is_less}
use Rattle.fancy_regex_text.proofs.TextLemmas.{bytes-chars}
use Rattle.fancy_regex_tree.proofs.expr.Expr.parse_tree_with_options.Goals as goal
use Rattle.fancy_regex_tree.proofs.expr.Expr.parse_tree_with_options.Goals.{then-groups, else-groups}

pub returns-in_err-expr-clause-value : goal.returns-in_err-expr-clause-value
returns-in_err-expr-clause-value c = reading_fails tree_of c.args.options (chars c.args.re.now) _ c.in_err-expr.field-0.0 c.from_residual.ensures.1 c.in_err-expr.ensures.value

pub returns-in_err-resolve-clause-value : goal.returns-in_err-resolve-clause-value
returns-in_err-resolve-clause-value c =
    resolving_fails c.args.options (chars c.args.re.now) (tree_of c.in_ok-expr.expr) c.in_ok-groups.groups c.in_ok-expr.ensures.value c.in_ok-groups.ensures (λ n. (tree_of c.resolve.new.expr, n))
    _ c.in_err-resolve.field-0.0 c.from_residual-in_err-resolve.ensures.1 c.in_err-resolve.ensures

pub returns-clause-value : goal.returns-clause-value
returns-clause-value c = (
  record { tree = tree_of c.resolve.new.expr; names = counted c.in_ok-groups.groups.ignored (openings (tree_of c.in_ok-expr.expr)); unresolved = tree_of c.in_ok-expr.expr; ignored = c.in_ok-groups.groups.ignored },
  parse_goes c.args.options (chars c.args.re.now) (tree_of c.in_ok-expr.expr) c.in_ok-groups.groups c.in_ok-expr.ensures.value c.in_ok-groups.ensures (tree_of c.resolve.new.expr) _ c.in_ok-resolve.ensures,
  record {
    tree = refl;
    named = c.in_ok-groups.ensures.named;
    keys = c.in_ok-groups.ensures.keys;
    total = c.in_ok-groups.ensures.total;
    backrefs = λ k. c.in_ok-summary.ensures.backrefs k ∙ ap (λ n. nat_le k n && list_any (refers_to k) (nodes (tree_of c.resolve.new.expr))) c.in_ok-groups.ensures.total;
    subroutines = c.in_ok-summary.ensures.subroutines;
    above = c.in_ok-summary.ensures.above ∙ ap (λ n. list_any (is_reference_above n) (nodes (tree_of c.resolve.new.expr))) c.in_ok-groups.ensures.total;
    by_number =
        elim c.if-groups.branch [
          | then-groups w ↦ rw w.if-groups.true (w.result-is ∙ c.in_ok-groups.ensures.numbered)
          | else-groups w ↦ rw w.if-groups.false (w.result-is ∙ w.if-groups.false)
        ];
    whole = c.in_ok-summary.ensures.whole;
  },
)

pub returns-in_err-resolve-clause-bounded : goal.returns-in_err-resolve-clause-bounded
returns-in_err-resolve-clause-bounded c =
    resolving_fails_within c.args.options (chars c.args.re.now) (tree_of c.in_ok-expr.expr) c.in_ok-groups.groups c.in_ok-expr.ensures.value c.in_ok-groups.ensures (λ n. (tree_of c.resolve.new.expr, n))
    (length c.args.re.now) (bytes-chars c.args.re.now c.utf8.re) _ c.in_err-resolve.field-0.0 c.from_residual-in_err-resolve.ensures.1 c.in_err-resolve.ensures

pub returns-clause-bounded : goal.returns-clause-bounded
returns-clause-bounded c =
    let less = resolved_is_less c.args.options (chars c.args.re.now) (tree_of c.in_ok-expr.expr) c.in_ok-groups.groups c.in_ok-expr.ensures.value c.in_ok-groups.ensures (tree_of c.resolve.new.expr) _ c.in_ok-resolve.ensures in
    (omega (arith, less.0, c.in_ok-expr.ensures.small), omega (arith, less.1, c.in_ok-expr.ensures.low))
