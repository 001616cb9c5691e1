use Rattle.std.proofs.Common.{◌≡◌, ◌∙◌, ◌∷◌, ◌++◌, [], ℕ, ◌+◌, ◌<◌, List, length, take, get_or, ap, ap₂, sym}
use Rattle.std.proofs.lemmas.List.{take_more, take_all, map-append}
use Rattle.fancy_regex_linear.specs.Re.{Re, shape, shapes}
use Rattle.fancy_regex_linear.specs.declared.node.Node.{Node}
use Rattle.fancy_regex_linear.proofs.copy.+copy.Goals as goal

-- one node more
nodes_more : (ns : List Node) (i : ℕ) (x : Node) → i < length ns → x ≡ get_or ns i x → shapes (take (i + 1) ns) ≡ shapes (take i ns) ++ shape x ∷ []
nodes_more ns i x h is = ap shapes (take_more ns i x h ∙ ap (λ y. take i ns ++ y ∷ []) (sym is)) ∙ map-append shape (take i ns) (x ∷ [])

pub all_copied-loop-i-preserved : goal.all_copied-loop-i-preserved
all_copied-loop-i-preserved t c =
    ap shapes c.in_ok-push.ensures.items
    ∙ map-append shape c.loop-i.all.items (c.in_ok-made.made ∷ [])
    ∙ ap₂ (λ (xs : List Re) (x : Re). xs ++ x ∷ []) c.loop-i.invariant c.in_ok-made.ensures
    ∙ sym (nodes_more c.args.nodes.now c.loop-i.i c.index-nodes-i.result c.loop-i-test.true c.index-nodes-i.is)

pub all_copied-returns : goal.all_copied-returns
all_copied-returns t c = c.loop-i.invariant ∙ ap shapes (take_all c.loop-i.i c.args.nodes.now c.loop-i-test.false)
