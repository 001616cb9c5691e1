use Rattle.std.proofs.Common.{◌+◌, ◌<◌, ◌≤◌, ◌&&◌, ◌++◌, nat_lt, [], get_or, take, sym, ap, subst, ◌∙◌, arith}
use Rattle.std.proofs.lemmas.List.{take_all}
use Rattle.fancy_regex_tree.specs.Tree.{tree_of}
use Rattle.fancy_regex_info.specs.References.{references_in}
use Rattle.fancy_regex_info.specs.Reachability.{has}
use Rattle.fancy_regex_info.proofs.ReferencedGroupLemmas.{Marked, none_marked, one_marked, none_more}
use Rattle.fancy_regex_info.proofs.TableLemmas.{reads_at}
use Rattle.fancy_regex_info.proofs.references.referenced_groups.Goals as goal
use Rattle.fancy_regex_info.proofs.references.referenced_groups.Goals.{then-group-len, else-group-len}

pub loop-group-init : goal.loop-group-init
loop-group-init c =
    subst (Marked c.args.groups []) (sym (c.in_ok-read.ensures.items_if_clones_equal (λ y e. e))) (none_marked c.args.groups)

pub loop-group-preserved : goal.loop-group-preserved
loop-group-preserved c =
    let items = c.deref-group-items.result.now in
    let i = c.loop-group.group-index in
    elim c.if-group-len.branch [
      | then-group-len w ↦
          let within : get_or items i 0 < c.args.groups = omega (arith, w.if-group-len.true, c.len.ensures, c.loop-group.invariant.same) in
          subst (λ v. Marked c.args.groups (take (i + 1) items) v.items) (sym w.read-is)
          (one_marked c.args.groups items i c.loop-group.read.items c.loop-group-test.true within c.loop-group.invariant)
      | else-group-len w ↦
          let past : c.args.groups ≤ get_or items i 0 = omega (arith, w.if-group-len.false, c.len.ensures, c.loop-group.invariant.same) in
          subst (λ v. Marked c.args.groups (take (i + 1) items) v.items) (sym w.read-is)
          (none_more c.args.groups items i c.loop-group.read.items c.loop-group-test.true past c.loop-group.invariant)
    ]

pub returns : goal.returns
returns c = λ k.
    reads_at c.loop-group.read.items k ∙ c.loop-group.invariant.marks k
    ∙ ap (λ xs. nat_lt k c.args.groups && has xs k)
    (take_all c.loop-group.group-index c.deref-group-items.result.now c.loop-group-test.false
    ∙ c.deref-group-items.ensures.value ∙ c.in_ok-add_references.ensures
    ∙ ap (λ xs. xs ++ references_in (tree_of c.args.expr.now)) c.new-named.ensures.items)
