use Rattle.std.proofs.Common.{length, ap, sym, ◌∙◌, rules, arith}
use Rattle.fancy_regex_tree.specs.Tree.{tree_of}
use Rattle.fancy_regex_info.specs.SizeFixpoint.{next_size, iterated_size}
use Rattle.fancy_regex_info.specs.Views.{size_at, pattern_in}
use Rattle.fancy_regex_info.proofs.TableLemmas.{first_iteration, goes_on, is_last}
use Rattle.fancy_regex_info.proofs.tables.call_sizes.Goals as goal

pub loop-iteration-init : goal.loop-iteration-init
loop-iteration-init c =
    λ k.
    ap (λ xs. size_at xs k) (c.in_ok-sizes.ensures.items_if_clones_equal (λ y e. e))
    ∙ first_iteration (pattern_in c.args.explicit (tree_of c.args.expr.now)).groups c.args.recursive.now c.endless.result (length c.args.recursive.now)
    c.requires c.endless.ensures k

pub loop-iteration-preserved : goal.loop-iteration-preserved
loop-iteration-preserved c =
    let groups = (pattern_in c.args.explicit (tree_of c.args.expr.now)).groups in
    goes_on groups c.args.recursive.now c.loop-iteration.sizes.items c.in_ok-next.next.items c.loop-iteration._iteration c.loop-iteration.invariant
    (λ k. c.in_ok-next.ensures k ∙ ap (λ xs. next_size groups c.args.recursive.now (size_at xs) k) c.deref.ensures.value)

pub returns-then-are_same : goal.returns-then-are_same
returns-then-are_same c =
    let groups = (pattern_in c.args.explicit (tree_of c.args.expr.now)).groups in
    is_last groups c.args.recursive.now c.loop-iteration.sizes.items c.in_ok-next.next.items c.loop-iteration._iteration (length c.args.recursive.now)
    (omega arith) c.loop-iteration.invariant
    (λ k. c.in_ok-next.ensures k ∙ ap (λ xs. next_size groups c.args.recursive.now (size_at xs) k) c.deref.ensures.value)
    (sym c.deref-in-loop-iteration.ensures.value ∙ c.are_same.ensures (search rules) ∙ c.deref-in-loop-iteration-2.ensures.value)

pub returns : goal.returns
returns c = λ k.
    c.loop-iteration.invariant k
    ∙ ap (λ n. iterated_size (pattern_in c.args.explicit (tree_of c.args.expr.now)).groups c.args.recursive.now n k) (omega arith)
