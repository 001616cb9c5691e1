use Rattle.std.proofs.Common.{◌≡◌, ◌∷◌, [], refl, ap, sym, ◌∙◌, map, length, arith}
use Rattle.std.proofs.lemmas.List.{with_items_is}
use Rattle.std.specs.Vec.{with_items}
use Rattle.fancy_regex_tree.specs.Tree.{tree_of, trees, concat, alt, group, look_around, repeat, atomic_group, define_group}
use Rattle.fancy_regex_tree.proofs.Children.{listed_trees, tree_of_concat, tree_of_alt, tree_of_group, tree_of_look_around, tree_of_repeat, tree_of_atomic_group, tree_of_define_group}
use Rattle.fancy_regex_tree.proofs.Replacing.{put}
use Rattle.fancy_regex_tree.proofs.expr.Expr.replace_child.Goals as goal

pub returns-in-Concat : goal.returns-in-Concat
returns-in-Concat c =
    let same : length c.replace_item-replaced.new.row ≡ c.in-Concat.row.len = omega (arith, c.replace_item-replaced.auto.row, c.in-Concat.row.ok.0, ap length c.deref_mut.ensures.value) in
    put _ (concat (trees (map tree_of c.in-Concat.row.items))) _ c.in-Concat.row.items c.replace_item-replaced.new.row _ _ _
    (ap tree_of c.in-Concat.is ∙ tree_of_concat c.in-Concat.row) (tree_of_concat (with_items c.in-Concat.row c.replace_item-replaced.new.row) ∙ ap (λ es. concat (trees (map tree_of es))) (with_items_is c.in-Concat.row c.replace_item-replaced.new.row same)) (sym (listed_trees _)) refl (listed_trees _) (rw c.deref_mut.ensures.value at c.replace_item-replaced.ensures)

pub returns-in-Alt : goal.returns-in-Alt
returns-in-Alt c =
    let same : length c.replace_item-replaced-in-Alt.new.row ≡ c.in-Alt.row.len = omega (arith, c.replace_item-replaced-in-Alt.auto.row, c.in-Alt.row.ok.0, ap length c.deref_mut-in-Alt.ensures.value) in
    put _ (alt (trees (map tree_of c.in-Alt.row.items))) _ c.in-Alt.row.items c.replace_item-replaced-in-Alt.new.row _ _ _
    (ap tree_of c.in-Alt.is ∙ tree_of_alt c.in-Alt.row) (tree_of_alt (with_items c.in-Alt.row c.replace_item-replaced-in-Alt.new.row) ∙ ap (λ es. alt (trees (map tree_of es))) (with_items_is c.in-Alt.row c.replace_item-replaced-in-Alt.new.row same)) (sym (listed_trees _)) refl (listed_trees _) (rw c.deref_mut-in-Alt.ensures.value at c.replace_item-replaced-in-Alt.ensures)

pub returns-in-Group : goal.returns-in-Group
returns-in-Group c =
    put _ (group (tree_of c.in-Group.only.value)) _ (c.in-Group.only.value ∷ []) (c.replace_only-replaced.new.only ∷ []) _ _ _
    (ap tree_of c.in-Group.is ∙ tree_of_group c.in-Group.only) (tree_of_group _) refl refl refl (rw c.deref_mut-in-Group.ensures.value at c.replace_only-replaced.ensures)

pub returns-in-LookAround : goal.returns-in-LookAround
returns-in-LookAround c =
    put _ (look_around (tree_of c.in-LookAround.only.value) c.in-LookAround.look) _ (c.in-LookAround.only.value ∷ []) (c.replace_only-replaced-in-LookAround.new.only ∷ []) _ _ _
    (ap tree_of c.in-LookAround.is ∙ tree_of_look_around c.in-LookAround.only c.in-LookAround.look) (tree_of_look_around _ c.in-LookAround.look) refl refl refl (rw c.deref_mut-in-LookAround.ensures.value at c.replace_only-replaced-in-LookAround.ensures)

pub returns-in-Repeat : goal.returns-in-Repeat
returns-in-Repeat c =
    put _ (repeat (tree_of c.in-Repeat.only.value) c.in-Repeat.lo c.in-Repeat.hi c.in-Repeat.greedy) _ (c.in-Repeat.only.value ∷ []) (c.replace_only-replaced-in-Repeat.new.only ∷ []) _ _ _
    (ap tree_of c.in-Repeat.is ∙ tree_of_repeat c.in-Repeat.only c.in-Repeat.lo c.in-Repeat.hi c.in-Repeat.greedy) (tree_of_repeat _ c.in-Repeat.lo c.in-Repeat.hi c.in-Repeat.greedy) refl refl refl (rw c.deref_mut-in-Repeat.ensures.value at c.replace_only-replaced-in-Repeat.ensures)

pub returns-in-AtomicGroup : goal.returns-in-AtomicGroup
returns-in-AtomicGroup c =
    put _ (atomic_group (tree_of c.in-AtomicGroup.only.value)) _ (c.in-AtomicGroup.only.value ∷ []) (c.replace_only-replaced-in-AtomicGroup.new.only ∷ []) _ _ _
    (ap tree_of c.in-AtomicGroup.is ∙ tree_of_atomic_group c.in-AtomicGroup.only) (tree_of_atomic_group _) refl refl refl (rw c.deref_mut-in-AtomicGroup.ensures.value at c.replace_only-replaced-in-AtomicGroup.ensures)

pub returns-in-DefineGroup : goal.returns-in-DefineGroup
returns-in-DefineGroup c =
    put _ (define_group (tree_of c.in-DefineGroup.definitions.value)) _ (c.in-DefineGroup.definitions.value ∷ []) (c.replace_only-replaced-in-DefineGroup.new.only ∷ []) _ _ _
    (ap tree_of c.in-DefineGroup.is ∙ tree_of_define_group c.in-DefineGroup.definitions) (tree_of_define_group _) refl refl refl (rw c.deref_mut-in-DefineGroup.ensures.value at c.replace_only-replaced-in-DefineGroup.ensures)
