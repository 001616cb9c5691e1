use Rattle.std.proofs.Common.{[], ◌∷◌, length, map, ap, sym, ◌∙◌, arith}
use Rattle.std.proofs.lemmas.List.{map-append}
use Rattle.std.proofs.lemmas.Iterator.Consumers.{YieldsList-turn, YieldsList-end}
use Rattle.fancy_regex_tree.specs.Tree.{tree_of}
use Rattle.fancy_regex_tree.specs.Traversal.{rest, tree_at}
use Rattle.fancy_regex_analysis.specs.EmittedParts.{part_at}
use Rattle.fancy_regex_analysis.specs.declared.emitted.EmittedPart.{EmittedPart}
use Rattle.fancy_regex_analysis.proofs.ChildLemmas.{yields_children, child_is_smaller}
use Rattle.fancy_regex_analysis.proofs.PartListLemmas.{node_alone, node_and_children}
use Rattle.fancy_regex_analysis.proofs.emitted.+add_emitted_parts.Goals as goal

pub returns-then-skips_children : goal.returns-then-skips_children
returns-then-skips_children t c =
    let part : EmittedPart = record { expr = c.args.expr; inside = c.args.inside } in
    node_alone c.args.inside (tree_of c.args.expr.now) (map part_at c.args.parts.now.items) (map part_at c.push.new.self.items)
    (sym c.if-skips_children.ensures) (ap (map part_at) c.in_ok-push.ensures.items ∙ map-append part_at c.args.parts.now.items (part ∷ []))

pub add_emitted_parts-requires : goal.add_emitted_parts-requires
add_emitted_parts-requires t c =
    let root = tree_of c.args.expr.now in
    let e = yields_children c.into_iter-child-iterator.result root
    (ap (λ s. map tree_of (rest s)) c.into_iter-child-iterator.ensures.into_iter_gives ∙ c.subtrees_iter-child-items.ensures) in
    let turn = YieldsList-turn e c.loop-child.yielded _ c.loop-child.yielded_by _ c.next.new.self c.in-Some.child c.in-Some.is c.next.ensures.steps in
    let less = child_is_smaller root (tree_at c.in-Some.child) (length c.loop-child.yielded) turn.0 turn.1 in
    (omega (arith, less), tt)

pub returns : goal.returns
returns t c =
    let root = tree_of c.args.expr.now in
    let part : EmittedPart = record { expr = c.args.expr; inside = c.args.inside } in
    let e = yields_children c.into_iter-child-iterator.result root
    (ap (λ s. map tree_of (rest s)) c.into_iter-child-iterator.ensures.into_iter_gives ∙ c.subtrees_iter-child-items.ensures) in
    let end = YieldsList-end e c.loop-child.yielded _ c.loop-child.yielded_by _ c.next.new.self c.in-None.is c.next.ensures.steps in
    node_and_children c.args.inside c.inside_of_children-inside_children.result root (map part_at c.args.parts.now.items) (map part_at c.push.new.self.items)
    (map part_at c.loop-child.parts.items) (map tree_at c.loop-child.yielded) (sym c.if-skips_children.ensures) c.inside_of_children-inside_children.ensures end.0
    (ap (map part_at) c.in_ok-push.ensures.items ∙ map-append part_at c.args.parts.now.items (part ∷ [])) c.loop-child.invariant
