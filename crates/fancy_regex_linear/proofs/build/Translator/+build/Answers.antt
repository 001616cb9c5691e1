use Rattle.std.proofs.Common.{◌≡◌, ℕ, vec_len, Bool, true, false, ◌==◌, ap₂, ◌∙◌, ◌∷◌, [], ◌&&◌, ◌||◌, not, length, map, ap, sym, refl, subst, rules, arith, List}
use Rattle.fancy_regex_tree.specs.Tree.{tree_of, concat, alt, group, look_around, repeat, atomic_group, Tree, conditional}
use Rattle.fancy_regex_linear.specs.Re as re
use Rattle.fancy_regex_linear.specs.Re.{Re, shape, shapes, cats, alts}
use Rattle.fancy_regex_info.specs.Views.{size_of}
use Rattle.fancy_regex_meaning.specs.Groups.{group_count}
use Rattle.fancy_regex_linear.specs.Program.{never_empty}
use Rattle.fancy_regex_linear.specs.Plain.{classes, re_of, joined, is_negated_look, has_no_iteration}
use Rattle.fancy_regex_linear.specs.Refusals.{IsClassCause}
use Rattle.fancy_regex_linear.specs.Translation.{all_trees, all_move, around_tree, IsWritable, called_in}
use Rattle.fancy_regex_info.specs.AnalysisRelations.{AreCallSizes}
use Rattle.fancy_regex_linear.proofs.PlainLemmas.{one_char_groups, one_char_classes, regular_resets, joined_sound, joined_still}
use Rattle.fancy_regex_linear.proofs.PartLemmas.{IsOnePart, other_part, long_part}
use Rattle.fancy_regex_linear.proofs.BuildLemmas.{extends_none, look_is, ahead_is, behind_is, each_behind, each_is, nodes_still, all_sound, row_none, row_sound, branches_sound, cause_in_row, if_ok, nodes_step, row_whole, row_is, branches_is, row_moves, all_moves, branches_move, conditional_matchers, conditional_shape, cause_in_condition, cause_in_yes, cause_in_no}
use Rattle.fancy_regex_linear.proofs.NoClassLemmas.{NoClass, no_classes}
use Rattle.std.proofs.lemmas.List.{map-append, length-map}
use Rattle.fancy_regex_linear.proofs.ShapeLemmas.{tree_concat, tree_alt, tree_group, tree_look, tree_repeat, tree_atomic, shape_concat, shape_alt, shape_repeat, tree_conditional}
use Rattle.fancy_regex_linear.proofs.build.Translator.+build.Goals as goal
use Rattle.fancy_regex_linear.proofs.build.Translator.+build.Goals.{row-then-moves, row-else-moves, branches-then-moves, branches-else-moves, branches-then-moves-2, branches-else-moves-2}

pub translated-returns-in-Concat-clause-shape : goal.translated-returns-in-Concat-clause-shape
unfolding re_of
translated-returns-in-Concat-clause-shape t c =
    let e : tree_of c.args.expr.now ≡ concat (all_trees c.deref-in-Concat.result.now) =
    ap tree_of c.in-Concat.is ∙ tree_concat c.in-Concat.children ∙ ap (λ es. concat (all_trees es)) (sym c.deref-in-Concat.ensures.value) in
    rw e c.row.ensures.shape

pub translated-returns-in-Alt-clause-shape : goal.translated-returns-in-Alt-clause-shape
unfolding re_of
translated-returns-in-Alt-clause-shape t c =
    let e : tree_of c.args.expr.now ≡ alt (all_trees c.deref-in-Alt.result.now) =
    ap tree_of c.in-Alt.is ∙ tree_alt c.in-Alt.children ∙ ap (λ es. alt (all_trees es)) (sym c.deref-in-Alt.ensures.value) in
    rw e (if_ok c.branches.result (λ translated h p groups sized. h p.1 groups sized) c.branches.ensures.shape)

pub translated-returns-in-Group-clause-shape : goal.translated-returns-in-Group-clause-shape
unfolding re_of
translated-returns-in-Group-clause-shape t c =
    let box : c.deref-in-Group.result.now ≡ c.in-Group.child.value = search rules in
    let e : tree_of c.args.expr.now ≡ group (tree_of c.deref-in-Group.result.now) =
    ap tree_of c.in-Group.is ∙ tree_group c.in-Group.child ∙ ap (λ x. group (tree_of x)) (sym box) in
    rw e c.group.ensures.shape

pub translated-returns-in-Repeat-clause-shape : goal.translated-returns-in-Repeat-clause-shape
unfolding re_of
translated-returns-in-Repeat-clause-shape t c =
    let box : c.deref-in-Repeat.result.now ≡ c.in-Repeat.child.value = search rules in
    let e : tree_of c.args.expr.now ≡ repeat (tree_of c.deref-in-Repeat.result.now) c.in-Repeat.lo c.in-Repeat.hi c.in-Repeat.greedy =
    ap tree_of c.in-Repeat.is ∙ tree_repeat c.in-Repeat.child c.in-Repeat.lo c.in-Repeat.hi c.in-Repeat.greedy
    ∙ ap (λ x. repeat (tree_of x) c.in-Repeat.lo c.in-Repeat.hi c.in-Repeat.greedy) (sym box) in
    rw e c.repeat.ensures.shape

pub translated-returns-in-LookAround-clause-groups : goal.translated-returns-in-LookAround-clause-groups
unfolding group_count
translated-returns-in-LookAround-clause-groups t c =
    let box : c.deref-in-LookAround.result.now ≡ c.in-LookAround.child.value = search rules in
    let body = tree_of c.deref-in-LookAround.result.now in
    let e : tree_of c.args.expr.now ≡ look_around (tree_of c.deref-in-LookAround.result.now) c.in-LookAround.look =
    ap tree_of c.in-LookAround.is ∙ tree_look c.in-LookAround.child c.in-LookAround.look ∙ ap (λ x. look_around (tree_of x) c.in-LookAround.look) (sym box) in
    rw e (if_ok c.look_around.result (λ translated h p. h (regular_resets (λ j. Unit {0}) body p)) c.look_around.ensures.groups)

pub translated-returns-in-LookAround-clause-shape : goal.translated-returns-in-LookAround-clause-shape
unfolding re_of
translated-returns-in-LookAround-clause-shape t c =
    let box : c.deref-in-LookAround.result.now ≡ c.in-LookAround.child.value = search rules in
    let body = tree_of c.deref-in-LookAround.result.now in
    let e : tree_of c.args.expr.now ≡ look_around (tree_of c.deref-in-LookAround.result.now) c.in-LookAround.look =
    ap tree_of c.in-LookAround.is ∙ tree_look c.in-LookAround.child c.in-LookAround.look ∙ ap (λ x. look_around (tree_of x) c.in-LookAround.look) (sym box) in
    rw e (if_ok c.look_around.result (λ translated h p groups sized. h (regular_resets (λ j. Unit {0}) body p) groups sized) c.look_around.ensures.shape)

pub translated-returns-in-AtomicGroup-clause-shape : goal.translated-returns-in-AtomicGroup-clause-shape
unfolding re_of
translated-returns-in-AtomicGroup-clause-shape t c =
    let box : c.deref-in-AtomicGroup.result.now ≡ c.in-AtomicGroup.child.value = search rules in
    let e : tree_of c.args.expr.now ≡ atomic_group (tree_of c.deref-in-AtomicGroup.result.now) =
    ap tree_of c.in-AtomicGroup.is ∙ tree_atomic c.in-AtomicGroup.child ∙ ap (λ x. atomic_group (tree_of x)) (sym box) in
    rw e c.atomic.ensures.shape

pub translated-returns-in_default-clause-matchers : goal.translated-returns-in_default-clause-matchers
translated-returns-in_default-clause-matchers t c =
    let other : NoClass c.args.expr.now = record {
      delegate = c.in_default.not-Delegate;
      concat = c.in_default.not-Concat;
      alt = c.in_default.not-Alt;
      group = c.in_default.not-Group;
      look_around = c.in_default.not-LookAround;
      repeat = c.in_default.not-Repeat;
      atomic = c.in_default.not-AtomicGroup;
      conditional = c.in_default.not-Conditional;
    } in
    extends_none c.args.self.now.unicode c.args.self.now.matchers.items (classes (tree_of c.args.expr.now)) (no_classes c.args.expr.now other)

pub repeat-returns-clause-shape : goal.repeat-returns-clause-shape
repeat-returns-clause-shape t c = λ regular groups sized.
    let unicode = c.args.self.now.unicode in
    let calls = called_in c.args.self.now.called.items in
    let n = c.args.self.now.next_group in
    let k = length c.args.self.now.matchers.items in
    let child = tree_of c.args.child.now in
    let made : has_no_iteration c.args.lo c.args.hi ≡ false = sym c.is_never_repeated.ensures ∙ c.if-is_never_repeated.false in
    let is : shape c.in_ok-translated.translated.node ≡ re_of unicode groups calls n k child = c.in_ok-translated.ensures.shape (regular made) groups sized in
    let flag : c.in_ok-translated.translated.moves ≡ never_empty (re_of unicode groups calls n k child) =
    c.in_ok-translated.ensures.moves ∙ ap never_empty is in
    let body : shape c.in_ok-boxed.field-0.value ≡ re_of unicode groups calls n k child = ap shape c.in_ok-boxed.ensures ∙ is in
    rw (sym c.is_never_repeated.ensures ∙ c.if-is_never_repeated.false)
    (shape_repeat c.in_ok-boxed.field-0 (record { lo = c.args.lo; hi = c.args.hi; greedy = c.args.greedy; moves = c.in_ok-translated.translated.moves })
    ∙ ap₂ (λ (b : Bool) (x : Re). re.repeat c.args.lo c.args.hi c.args.greedy b x) flag body)

pub row-loop-i-init : goal.row-loop-i-init
row-loop-i-init t c = record { built = rw c.new-parts.ensures.items (row_none re_of c.args.self.now); moves = rw c.new-parts.ensures.items refl }

pub row-loop-i-preserved : goal.row-loop-i-preserved
row-loop-i-preserved t c =
    let moves : c.if-moves.moves ≡ (c.loop-i.moves || c.in_ok-translated.translated.moves) =
    elim c.if-moves.branch as (λ _. c.if-moves.moves ≡ (c.loop-i.moves || c.in_ok-translated.translated.moves)) [
      | row-then-moves w ↦ let a : c.loop-i.moves ≡ true = w.if-moves.true in w.moves-is ∙ a ∙ sym (ap (λ b. b || c.in_ok-translated.translated.moves) a)
      | row-else-moves w ↦ let a : c.loop-i.moves ≡ false = w.if-moves.false in w.moves-is ∙ sym (ap (λ b. b || c.in_ok-translated.translated.moves) a)
    ] in
    record {
      built =
          nodes_step re_of c.args.self.now c.loop-i.self c.translated.new.self c.args.children.now c.loop-i.i c.index-children-i.result c.loop-i.parts.items
          c.add.new.values.items c.in_ok-translated.translated.node c.loop-i-test.true c.index-children-i.is c.in_ok-add.ensures c.loop-i.invariant.built
          c.in_ok-translated.ensures.unicode c.in_ok-translated.ensures.tables c.in_ok-translated.ensures.groups c.in_ok-translated.ensures.matchers c.in_ok-translated.ensures.sound c.in_ok-translated.ensures.shape;
      moves =
          moves
          ∙ ap₂ ◌||◌ c.loop-i.invariant.moves c.in_ok-translated.ensures.moves
          ∙ sym (row_moves (shapes c.loop-i.parts.items) (shape c.in_ok-translated.translated.node))
          ∙ ap (λ xs. never_empty (cats xs)) (sym (ap shapes c.in_ok-add.ensures ∙ map-append shape c.loop-i.parts.items (c.in_ok-translated.translated.node ∷ [])));
    }

pub row-returns-clause-groups : goal.row-returns-clause-groups
row-returns-clause-groups t c = (row_whole re_of _ _ c.args.children.now c.loop-i.i _ c.loop-i-test.false c.loop-i.invariant.built).groups

pub row-returns-clause-matchers : goal.row-returns-clause-matchers
row-returns-clause-matchers t c = (row_whole re_of _ _ c.args.children.now c.loop-i.i _ c.loop-i-test.false c.loop-i.invariant.built).matchers

pub row-returns-clause-sound : goal.row-returns-clause-sound
row-returns-clause-sound t c =
    let built = row_whole re_of _ _ c.args.children.now c.loop-i.i _ c.loop-i-test.false c.loop-i.invariant.built in
    rw (shape_concat c.loop-i.parts) (row_sound (shapes c.loop-i.parts.items) built.sound)

pub row-returns-clause-shape : goal.row-returns-clause-shape
row-returns-clause-shape t c = λ regular groups sized.
    let built = row_whole re_of _ _ c.args.children.now c.loop-i.i _ c.loop-i-test.false c.loop-i.invariant.built in
    shape_concat c.loop-i.parts
    ∙ ap cats (built.patterns regular groups sized)
    ∙ row_is c.args.self.now.unicode groups (called_in c.args.self.now.called.items) (map tree_of c.args.children.now) c.args.self.now.next_group (length c.args.self.now.matchers.items)

pub branches-loop-i-init : goal.branches-loop-i-init
unfolding all_move
branches-loop-i-init t c = record { built = rw c.new-parts.ensures.items (row_none re_of c.args.self.now); moves = rw c.new-parts.ensures.items refl }

pub branches-loop-i-preserved : goal.branches-loop-i-preserved
branches-loop-i-preserved t c =
    let moves : c.if-moves.moves ≡ (c.loop-i.moves && c.in_ok-translated.translated.moves) =
    elim c.if-moves.branch as (λ _. c.if-moves.moves ≡ (c.loop-i.moves && c.in_ok-translated.translated.moves)) [
      | branches-then-moves w ↦ let a : c.loop-i.moves ≡ true = w.if-moves.true in w.moves-is ∙ sym (ap (λ b. b && c.in_ok-translated.translated.moves) a)
      | branches-else-moves w ↦ let a : c.loop-i.moves ≡ false = w.if-moves.false in w.moves-is ∙ a ∙ sym (ap (λ b. b && c.in_ok-translated.translated.moves) a)
    ] in
    record {
      built =
          nodes_step re_of c.args.self.now c.loop-i.self c.translated.new.self c.args.children.now c.loop-i.i c.index-children-i.result c.loop-i.parts.items
          c.add.new.values.items c.in_ok-translated.translated.node c.loop-i-test.true c.index-children-i.is c.in_ok-add.ensures c.loop-i.invariant.built
          c.in_ok-translated.ensures.unicode c.in_ok-translated.ensures.tables c.in_ok-translated.ensures.groups c.in_ok-translated.ensures.matchers c.in_ok-translated.ensures.sound c.in_ok-translated.ensures.shape;
      moves =
          moves
          ∙ ap₂ ◌&&◌ c.loop-i.invariant.moves c.in_ok-translated.ensures.moves
          ∙ sym (all_moves (shapes c.loop-i.parts.items) (shape c.in_ok-translated.translated.node))
          ∙ ap all_move (sym (ap shapes c.in_ok-add.ensures ∙ map-append shape c.loop-i.parts.items (c.in_ok-translated.translated.node ∷ [])));
    }

pub branches-returns-clause-groups : goal.branches-returns-clause-groups
branches-returns-clause-groups t c = (row_whole re_of _ _ c.args.children.now c.loop-i.i _ c.loop-i-test.false c.loop-i.invariant.built).groups

pub branches-returns-clause-matchers : goal.branches-returns-clause-matchers
branches-returns-clause-matchers t c = (row_whole re_of _ _ c.args.children.now c.loop-i.i _ c.loop-i-test.false c.loop-i.invariant.built).matchers

pub branches-returns-clause-moves : goal.branches-returns-clause-moves
branches-returns-clause-moves t c =
    let some : not (length (shapes c.loop-i.parts.items) == 0) ≡ not c.is_empty-some.result =
    let same : length (shapes c.loop-i.parts.items) ≡ vec_len c.loop-i.parts = length-map c.loop-i.parts.items shape ∙ (search rules) in
    ap (λ (n : ℕ). not (n == 0)) same ∙ sym (ap not c.is_empty-some.ensures) in
    let moves : c.if-moves-2.result ≡ (c.loop-i.moves && not c.is_empty-some.result) =
    elim c.if-moves-2.branch as (λ _. c.if-moves-2.result ≡ (c.loop-i.moves && not c.is_empty-some.result)) [
      | branches-then-moves-2 w ↦ let a : c.loop-i.moves ≡ true = w.if-moves-2.true in w.result-is ∙ sym (ap (λ b. b && not c.is_empty-some.result) a)
      | branches-else-moves-2 w ↦ let a : c.loop-i.moves ≡ false = w.if-moves-2.false in w.result-is ∙ a ∙ sym (ap (λ b. b && not c.is_empty-some.result) a)
    ] in
    moves
    ∙ ap₂ ◌&&◌ c.loop-i.invariant.moves (sym some)
    ∙ sym (branches_move (shapes c.loop-i.parts.items))
    ∙ ap never_empty (sym (shape_alt c.loop-i.parts))

pub branches-returns-clause-sound : goal.branches-returns-clause-sound
branches-returns-clause-sound t c =
    let built = row_whole re_of _ _ c.args.children.now c.loop-i.i _ c.loop-i-test.false c.loop-i.invariant.built in
    rw (shape_alt c.loop-i.parts) (branches_sound (shapes c.loop-i.parts.items) built.sound)

pub branches-returns-clause-shape : goal.branches-returns-clause-shape
branches-returns-clause-shape t c = λ regular groups sized.
    let built = row_whole re_of _ _ c.args.children.now c.loop-i.i _ c.loop-i-test.false c.loop-i.invariant.built in
    shape_alt c.loop-i.parts
    ∙ ap alts (built.patterns regular groups sized)
    ∙ branches_is c.args.self.now.unicode groups (called_in c.args.self.now.called.items) (map tree_of c.args.children.now) c.args.self.now.next_group (length c.args.self.now.matchers.items)

pub row-returns-in_err-translated-clause-refused : goal.row-returns-in_err-translated-clause-refused
row-returns-in_err-translated-clause-refused t c =
    let cause : IsClassCause c.args.self.now.unicode (classes (tree_of c.index-children-i.result)) c.in_err-translated.field-0.0 =
    rw c.loop-i.invariant.built.unicode at c.in_err-translated.ensures.refused in
    let all =
    cause_in_row c.args.self.now.unicode c.args.children.now c.loop-i.i c.index-children-i.result c.in_err-translated.field-0.0 c.loop-i-test.true
    c.index-children-i.is cause in
    search rules

pub branches-returns-in_err-translated-clause-refused : goal.branches-returns-in_err-translated-clause-refused
branches-returns-in_err-translated-clause-refused t c =
    let cause : IsClassCause c.args.self.now.unicode (classes (tree_of c.index-children-i.result)) c.in_err-translated.field-0.0 =
    rw c.loop-i.invariant.built.unicode at c.in_err-translated.ensures.refused in
    let all =
    cause_in_row c.args.self.now.unicode c.args.children.now c.loop-i.i c.index-children-i.result c.in_err-translated.field-0.0 c.loop-i-test.true
    c.index-children-i.is cause in
    search rules

pub look_around-returns-then-is_one_char-clause-groups : goal.look_around-returns-then-is_one_char-clause-groups
look_around-returns-then-is_one_char-clause-groups t c = λ regular.
    omega (arith, c.in_ok-leaf.ensures.groups, one_char_groups (tree_of c.args.child.now) (c.is_one_char.ensures.one c.if-is_one_char.true))

pub look_around-returns-then-is_one_char-clause-matchers : goal.look_around-returns-then-is_one_char-clause-matchers
look_around-returns-then-is_one_char-clause-matchers t c =
    rw (one_char_classes (tree_of c.args.child.now) (c.is_one_char.ensures.one c.if-is_one_char.true)) c.in_ok-leaf.ensures.matchers

pub look_around-returns-then-is_one_char-clause-shape : goal.look_around-returns-then-is_one_char-clause-shape
look_around-returns-then-is_one_char-clause-shape t c = λ regular groups sized.
    let unicode = c.args.self.now.unicode in
    let calls = called_in c.args.self.now.called.items in
    let n = c.args.self.now.next_group in
    let k = length c.args.self.now.matchers.items in
    let child = tree_of c.args.child.now in
    ap shape c.still.ensures.0
    ∙ look_is unicode groups calls n k child c.args.look c.in_ok-leaf.leaf (shape c.look_node.result) (re_of unicode groups calls n k child)
    (c.is_one_char.ensures.one c.if-is_one_char.true) c.in_ok-leaf.ensures.leaf c.look_node.ensures.shape

pub look_around-returns-in_err-leaf-clause-refused : goal.look_around-returns-in_err-leaf-clause-refused
look_around-returns-in_err-leaf-clause-refused t c =
    let cause : IsClassCause c.args.self.now.unicode (classes (tree_of c.args.child.now)) c.in_err-leaf.field-0.0 =
    rw (one_char_classes (tree_of c.args.child.now) (c.is_one_char.ensures.one c.if-is_one_char.true)) c.in_err-leaf.ensures.refused in
    search rules

pub behind_branches-loop-i-init : goal.behind_branches-loop-i-init
behind_branches-loop-i-init t c = record { built = rw c.new-parts.ensures.items (row_none (around_tree c.args.look) c.args.self.now); still = rw c.new-parts.ensures.items tt }

pub behind_branches-loop-i-preserved : goal.behind_branches-loop-i-preserved
behind_branches-loop-i-preserved t c =
    record {
      built =
          nodes_step (around_tree c.args.look) c.args.self.now c.loop-i.self c.look_around.new.self c.args.children.now c.loop-i.i c.index-children-i.result c.loop-i.parts.items
          c.add.new.values.items c.in_ok-part.part.node c.loop-i-test.true c.index-children-i.is c.in_ok-add.ensures c.loop-i.invariant.built
          c.in_ok-part.ensures.unicode c.in_ok-part.ensures.tables c.in_ok-part.ensures.groups c.in_ok-part.ensures.matchers c.in_ok-part.ensures.sound c.in_ok-part.ensures.shape;
      still = nodes_still c.loop-i.parts.items c.add.new.values.items c.in_ok-part.part.node c.in_ok-add.ensures c.loop-i.invariant.still c.in_ok-part.ensures.still;
    }

pub behind_branches-returns-clause-groups : goal.behind_branches-returns-clause-groups
behind_branches-returns-clause-groups t c = (row_whole (around_tree c.args.look) _ _ c.args.children.now c.loop-i.i _ c.loop-i-test.false c.loop-i.invariant.built).groups

pub behind_branches-returns-clause-matchers : goal.behind_branches-returns-clause-matchers
behind_branches-returns-clause-matchers t c = (row_whole (around_tree c.args.look) _ _ c.args.children.now c.loop-i.i _ c.loop-i-test.false c.loop-i.invariant.built).matchers

pub behind_branches-returns-clause-still : goal.behind_branches-returns-clause-still
behind_branches-returns-clause-still t c = rw (ap shape c.still.ensures.0 ∙ c.joined_node.ensures) (joined_still c.is_negated.result (shapes c.loop-i.parts.items) c.loop-i.invariant.still)

pub behind_branches-returns-clause-sound : goal.behind_branches-returns-clause-sound
behind_branches-returns-clause-sound t c =
    rw (ap shape c.still.ensures.0 ∙ c.joined_node.ensures)
    (joined_sound c.is_negated.result (shapes c.loop-i.parts.items) (all_sound (shapes c.loop-i.parts.items) c.loop-i.invariant.built.sound))

pub behind_branches-returns-clause-shape : goal.behind_branches-returns-clause-shape
behind_branches-returns-clause-shape t c = λ regular groups sized.
    let built = row_whole (around_tree c.args.look) _ _ c.args.children.now c.loop-i.i _ c.loop-i-test.false c.loop-i.invariant.built in
    ap shape c.still.ensures.0
    ∙ c.joined_node.ensures
    ∙ ap (λ b. joined b (shapes c.loop-i.parts.items)) c.is_negated.ensures
    ∙ ap (joined (is_negated_look c.args.look)) (built.patterns regular groups sized
    ∙ each_is c.args.self.now.unicode groups (called_in c.args.self.now.called.items) c.args.look (map tree_of c.args.children.now) c.args.self.now.next_group (length c.args.self.now.matchers.items))

pub behind_branches-returns-in_err-part-clause-refused : goal.behind_branches-returns-in_err-part-clause-refused
behind_branches-returns-in_err-part-clause-refused t c =
    let cause : IsClassCause c.args.self.now.unicode (classes (tree_of c.index-children-i.result)) c.in_err-part.field-0.0 =
    rw c.loop-i.invariant.built.unicode at c.in_err-part.ensures.refused in
    let all =
    cause_in_row c.args.self.now.unicode c.args.children.now c.loop-i.i c.index-children-i.result c.in_err-part.field-0.0 c.loop-i-test.true
    c.index-children-i.is cause in
    search rules

pub look_around-returns-then-not-is_behind-clause-shape : goal.look_around-returns-then-not-is_behind-clause-shape
look_around-returns-then-not-is_behind-clause-shape t c =
    let unicode = c.args.self.now.unicode in
    let calls = called_in c.args.self.now.called.items in
    let n = c.args.self.now.next_group in
    let k = length c.args.self.now.matchers.items in
    let child = tree_of c.args.child.now in
    if_ok c.asking.result
    (λ translated h regular groups sized.
    h regular groups sized
    ∙ ap (λ b. re.ask b 0 (re_of unicode groups calls n k child)) c.is_negated-negated.ensures
    ∙ ahead_is unicode groups calls n k c.args.look (re_of unicode groups calls n k child) child (c.is_one_char.ensures.none c.if-is_one_char.false unicode k)
    (sym c.is_behind.ensures ∙ c.if-not-is_behind.true))
    c.asking.ensures.shape

pub look_around-returns-then-size-clause-shape : goal.look_around-returns-then-size-clause-shape
look_around-returns-then-size-clause-shape t c =
    let unicode = c.args.self.now.unicode in
    let calls = called_in c.args.self.now.called.items in
    let n = c.args.self.now.next_group in
    let k = length c.args.self.now.matchers.items in
    let child = tree_of c.args.child.now in
    if_ok c.asking-then-size.result
    (λ translated h regular groups sized.
    h regular groups sized
    ∙ ap (λ b. re.ask b c.size_in-size.result.least (re_of unicode groups calls n k child)) c.is_negated-negated.ensures
    ∙ behind_is unicode groups calls n k c.args.look (re_of unicode groups calls n k child) child (size_of c.size_in-size.result)
    (c.is_one_char.ensures.none c.if-is_one_char.false unicode k) (sym c.is_behind.ensures ∙ c.if-not-is_behind.false)
    (c.size_in-size.ensures ∙ sym (subst (AreCallSizes groups) (sym c.deref.ensures.value) sized child)) (subst (λ b. IsOnePart b child) (sym c.if-size.true) (long_part child)))
    c.asking-then-size.ensures.shape

pub look_around-returns-in_default-clause-shape : goal.look_around-returns-in_default-clause-shape
look_around-returns-in_default-clause-shape t c =
    let unicode = c.args.self.now.unicode in
    let calls = called_in c.args.self.now.called.items in
    let n = c.args.self.now.next_group in
    let k = length c.args.self.now.matchers.items in
    let child = tree_of c.args.child.now in
    if_ok c.asking-in_default.result
    (λ translated h regular groups sized.
    h regular groups sized
    ∙ ap (λ b. re.ask b c.size_in-size.result.least (re_of unicode groups calls n k child)) c.is_negated-negated.ensures
    ∙ behind_is unicode groups calls n k c.args.look (re_of unicode groups calls n k child) child (size_of c.size_in-size.result)
    (c.is_one_char.ensures.none c.if-is_one_char.false unicode k) (sym c.is_behind.ensures ∙ c.if-not-is_behind.false)
    (c.size_in-size.ensures ∙ sym (subst (AreCallSizes groups) (sym c.deref.ensures.value) sized child)) (other_part c.size_in-size.result.always c.args.child.now c.in_default.not-Alt))
    c.asking-in_default.ensures.shape

pub look_around-returns-in-Alt-clause-shape : goal.look_around-returns-in-Alt-clause-shape
look_around-returns-in-Alt-clause-shape t c =
    let unicode = c.args.self.now.unicode in
    let calls = called_in c.args.self.now.called.items in
    let n = c.args.self.now.next_group in
    let k = length c.args.self.now.matchers.items in
    let ts = all_trees c.deref-in-Alt.result.now in
    let e : tree_of c.args.child.now ≡ alt (all_trees c.deref-in-Alt.result.now) =
    ap tree_of c.in-Alt.is ∙ tree_alt c.in-Alt.children ∙ ap (λ es. alt (all_trees es)) (sym c.deref-in-Alt.ensures.value) in
    let measured = rw e at c.size_in-size.ensures in
    rw e
    (if_ok c.behind_branches.result
    (λ translated h regular groups sized.
    h regular.1 groups sized
    ∙ each_behind unicode groups calls n k c.args.look (re_of unicode groups calls n k (alt ts)) ts (size_of c.size_in-size.result)
    (sym c.is_behind.ensures ∙ c.if-not-is_behind.false) (measured ∙ sym (subst (AreCallSizes groups) (sym c.deref.ensures.value) sized (alt ts))) c.if-size.false)
    c.behind_branches.ensures.shape)

pub look_around-returns-in-Alt-clause-groups : goal.look_around-returns-in-Alt-clause-groups
unfolding group_count
look_around-returns-in-Alt-clause-groups t c =
    let e : tree_of c.args.child.now ≡ alt (all_trees c.deref-in-Alt.result.now) =
    ap tree_of c.in-Alt.is ∙ tree_alt c.in-Alt.children ∙ ap (λ es. alt (all_trees es)) (sym c.deref-in-Alt.ensures.value) in
    rw e (if_ok c.behind_branches.result (λ translated h regular. h regular.1) c.behind_branches.ensures.groups)

pub look_around-returns-in-Alt-clause-matchers : goal.look_around-returns-in-Alt-clause-matchers
unfolding classes
look_around-returns-in-Alt-clause-matchers t c =
    let e : tree_of c.args.child.now ≡ alt (all_trees c.deref-in-Alt.result.now) =
    ap tree_of c.in-Alt.is ∙ tree_alt c.in-Alt.children ∙ ap (λ es. alt (all_trees es)) (sym c.deref-in-Alt.ensures.value) in
    rw e c.behind_branches.ensures.matchers

pub look_around-returns-in-Alt-clause-refused : goal.look_around-returns-in-Alt-clause-refused
unfolding classes
look_around-returns-in-Alt-clause-refused t c =
    let e : tree_of c.args.child.now ≡ alt (all_trees c.deref-in-Alt.result.now) =
    ap tree_of c.in-Alt.is ∙ tree_alt c.in-Alt.children ∙ ap (λ es. alt (all_trees es)) (sym c.deref-in-Alt.ensures.value) in
    rw e c.behind_branches.ensures.refused

pub translated-returns-in_ok-made-in-Conditional-clause-matchers : goal.translated-returns-in_ok-made-in-Conditional-clause-matchers
unfolding classes
translated-returns-in_ok-made-in-Conditional-clause-matchers t c =
    let box_1 : c.deref-in-Conditional.result.now ≡ c.in-Conditional.condition.value = search rules in
    let box_2 : c.deref-in-Conditional-2.result.now ≡ c.in-Conditional.true_branch.value = search rules in
    let box_3 : c.deref-in-Conditional-3.result.now ≡ c.in-Conditional.false_branch.value = search rules in
    let e : tree_of c.args.expr.now ≡ conditional (tree_of c.deref-in-Conditional.result.now) (tree_of c.deref-in-Conditional-2.result.now) (tree_of c.deref-in-Conditional-3.result.now) =
    ap tree_of c.in-Conditional.is ∙ tree_conditional c.in-Conditional.condition c.in-Conditional.true_branch c.in-Conditional.false_branch
    ∙ ap (λ x. conditional (tree_of x) (tree_of c.in-Conditional.true_branch.value) (tree_of c.in-Conditional.false_branch.value)) (sym box_1)
    ∙ ap (λ x. conditional (tree_of c.deref-in-Conditional.result.now) (tree_of x) (tree_of c.in-Conditional.false_branch.value)) (sym box_2)
    ∙ ap (λ x. conditional (tree_of c.deref-in-Conditional.result.now) (tree_of c.deref-in-Conditional-2.result.now) (tree_of x)) (sym box_3) in
    rw e
    (conditional_matchers _ _ _ _ _ _ (tree_of c.deref-in-Conditional.result.now) (tree_of c.deref-in-Conditional-2.result.now) (tree_of c.deref-in-Conditional-3.result.now)
    c.in_ok-asked-in-Conditional.ensures.unicode c.in_ok-first-in-Conditional.ensures.unicode _ c.in_ok-asked-in-Conditional.ensures.matchers c.in_ok-first-in-Conditional.ensures.matchers c.in_ok-second-in-Conditional.ensures.matchers)

pub translated-returns-in_ok-made-in-Conditional-clause-shape : goal.translated-returns-in_ok-made-in-Conditional-clause-shape
translated-returns-in_ok-made-in-Conditional-clause-shape t c =
    let box_1 : c.deref-in-Conditional.result.now ≡ c.in-Conditional.condition.value = search rules in
    let box_2 : c.deref-in-Conditional-2.result.now ≡ c.in-Conditional.true_branch.value = search rules in
    let box_3 : c.deref-in-Conditional-3.result.now ≡ c.in-Conditional.false_branch.value = search rules in
    let e : tree_of c.args.expr.now ≡ conditional (tree_of c.deref-in-Conditional.result.now) (tree_of c.deref-in-Conditional-2.result.now) (tree_of c.deref-in-Conditional-3.result.now) =
    ap tree_of c.in-Conditional.is ∙ tree_conditional c.in-Conditional.condition c.in-Conditional.true_branch c.in-Conditional.false_branch
    ∙ ap (λ x. conditional (tree_of x) (tree_of c.in-Conditional.true_branch.value) (tree_of c.in-Conditional.false_branch.value)) (sym box_1)
    ∙ ap (λ x. conditional (tree_of c.deref-in-Conditional.result.now) (tree_of x) (tree_of c.in-Conditional.false_branch.value)) (sym box_2)
    ∙ ap (λ x. conditional (tree_of c.deref-in-Conditional.result.now) (tree_of c.deref-in-Conditional-2.result.now) (tree_of x)) (sym box_3) in
    rw e (λ (regular : IsWritable (conditional (tree_of c.deref-in-Conditional.result.now) (tree_of c.deref-in-Conditional-2.result.now) (tree_of c.deref-in-Conditional-3.result.now))) (groups : List Tree) (sized : AreCallSizes groups c.args.self.now.sizes.items).
    c.in_ok-made-in-Conditional.ensures.shape
    ∙ conditional_shape _ _ _ _ _ _ (tree_of c.deref-in-Conditional.result.now) (tree_of c.deref-in-Conditional-2.result.now) (tree_of c.deref-in-Conditional-3.result.now)
    c.in_ok-asked-in-Conditional.ensures.unicode c.in_ok-first-in-Conditional.ensures.unicode _ _ _ _ _ _
    c.in_ok-asked-in-Conditional.ensures.tables c.in_ok-first-in-Conditional.ensures.tables _ _ _
    (shape c.in_ok-asked-in-Conditional.asked.node) (shape c.in_ok-first-in-Conditional.first.node) (shape c.in_ok-second-in-Conditional.second.node) regular
    c.in_ok-asked-in-Conditional.ensures.groups c.in_ok-first-in-Conditional.ensures.groups c.in_ok-asked-in-Conditional.ensures.matchers c.in_ok-first-in-Conditional.ensures.matchers
    c.in_ok-asked-in-Conditional.ensures.shape c.in_ok-first-in-Conditional.ensures.shape c.in_ok-second-in-Conditional.ensures.shape groups sized)

pub translated-returns-in_err-asked-in-Conditional-clause-refused : goal.translated-returns-in_err-asked-in-Conditional-clause-refused
unfolding classes
translated-returns-in_err-asked-in-Conditional-clause-refused t c =
    let box_1 : c.deref-in-Conditional.result.now ≡ c.in-Conditional.condition.value = search rules in
    let e : tree_of c.args.expr.now ≡ conditional (tree_of c.deref-in-Conditional.result.now) (tree_of c.in-Conditional.true_branch.value) (tree_of c.in-Conditional.false_branch.value) =
    ap tree_of c.in-Conditional.is ∙ tree_conditional c.in-Conditional.condition c.in-Conditional.true_branch c.in-Conditional.false_branch
    ∙ ap (λ x. conditional (tree_of x) (tree_of c.in-Conditional.true_branch.value) (tree_of c.in-Conditional.false_branch.value)) (sym box_1) in
    let all : IsClassCause c.args.self.now.unicode (classes (tree_of c.args.expr.now)) c.in_err-asked-in-Conditional.field-0.0 =
    rw e (cause_in_condition c.args.self.now.unicode (classes (tree_of c.deref-in-Conditional.result.now)) (classes (tree_of c.in-Conditional.true_branch.value)) (classes (tree_of c.in-Conditional.false_branch.value))
    c.in_err-asked-in-Conditional.field-0.0 c.in_err-asked-in-Conditional.ensures.refused) in
    search rules

pub translated-returns-in_err-first-in-Conditional-clause-refused : goal.translated-returns-in_err-first-in-Conditional-clause-refused
unfolding classes
translated-returns-in_err-first-in-Conditional-clause-refused t c =
    let box_2 : c.deref-in-Conditional-2.result.now ≡ c.in-Conditional.true_branch.value = search rules in
    let e : tree_of c.args.expr.now ≡ conditional (tree_of c.in-Conditional.condition.value) (tree_of c.deref-in-Conditional-2.result.now) (tree_of c.in-Conditional.false_branch.value) =
    ap tree_of c.in-Conditional.is ∙ tree_conditional c.in-Conditional.condition c.in-Conditional.true_branch c.in-Conditional.false_branch
    ∙ ap (λ x. conditional (tree_of c.in-Conditional.condition.value) (tree_of x) (tree_of c.in-Conditional.false_branch.value)) (sym box_2) in
    let cause : IsClassCause c.args.self.now.unicode (classes (tree_of c.deref-in-Conditional-2.result.now)) c.in_err-first-in-Conditional.field-0.0 =
    rw c.in_ok-asked-in-Conditional.ensures.unicode at c.in_err-first-in-Conditional.ensures.refused in
    let all : IsClassCause c.args.self.now.unicode (classes (tree_of c.args.expr.now)) c.in_err-first-in-Conditional.field-0.0 =
    rw e (cause_in_yes c.args.self.now.unicode (classes (tree_of c.in-Conditional.condition.value)) (classes (tree_of c.deref-in-Conditional-2.result.now)) (classes (tree_of c.in-Conditional.false_branch.value))
    c.in_err-first-in-Conditional.field-0.0 cause) in
    search rules

pub translated-returns-in_err-second-in-Conditional-clause-refused : goal.translated-returns-in_err-second-in-Conditional-clause-refused
unfolding classes
translated-returns-in_err-second-in-Conditional-clause-refused t c =
    let box_3 : c.deref-in-Conditional-3.result.now ≡ c.in-Conditional.false_branch.value = search rules in
    let e : tree_of c.args.expr.now ≡ conditional (tree_of c.in-Conditional.condition.value) (tree_of c.in-Conditional.true_branch.value) (tree_of c.deref-in-Conditional-3.result.now) =
    ap tree_of c.in-Conditional.is ∙ tree_conditional c.in-Conditional.condition c.in-Conditional.true_branch c.in-Conditional.false_branch
    ∙ ap (λ x. conditional (tree_of c.in-Conditional.condition.value) (tree_of c.in-Conditional.true_branch.value) (tree_of x)) (sym box_3) in
    let cause : IsClassCause c.args.self.now.unicode (classes (tree_of c.deref-in-Conditional-3.result.now)) c.in_err-second-in-Conditional.field-0.0 =
    rw (c.in_ok-first-in-Conditional.ensures.unicode ∙ c.in_ok-asked-in-Conditional.ensures.unicode) at c.in_err-second-in-Conditional.ensures.refused in
    let all : IsClassCause c.args.self.now.unicode (classes (tree_of c.args.expr.now)) c.in_err-second-in-Conditional.field-0.0 =
    rw e (cause_in_no c.args.self.now.unicode (classes (tree_of c.in-Conditional.condition.value)) (classes (tree_of c.in-Conditional.true_branch.value)) (classes (tree_of c.deref-in-Conditional-3.result.now))
    c.in_err-second-in-Conditional.field-0.0 cause) in
    search rules
