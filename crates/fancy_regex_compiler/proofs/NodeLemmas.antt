-- The pattern of a node, by what the code knows of it.
use Rattle.std.proofs.Common.{◌≡◌, ℕ, Bool, true, false, cond, List, [], ◌∷◌, map, Some, option_map, Box, Vec, Global, refl, sym, ap, ap₂, ◌∙◌}
use Rattle.std.specs.Prelude.{slice_get}
use Rattle.std.proofs.lemmas.Option.{slice_get-map}
use Rattle.fancy_regex_tree.specs.declared.expr.Expr.{Expr}
use Rattle.fancy_regex_tree.specs.declared.expr.LookAround.{LookAround}
use Rattle.fancy_regex_tree.specs.declared.expr.Expr.TheVariants as view
use Rattle.fancy_regex_tree.specs.declared.expr.Absent.TheVariants as absents
use Rattle.fancy_regex_tree.specs.declared.expr.Absent.{Absent}
use Rattle.fancy_regex_tree.specs.Tree as tree
use Rattle.fancy_regex_tree.specs.Tree.{Tree, tree_of, trees}
use Rattle.fancy_regex_desugar.specs.CorePatterns.{CorePattern, nothing, cat, group, back, atomic, conditional, absent}
use Rattle.fancy_regex_desugar.specs.Unfolded.{Written, cat_all, alt_all, first_way_of, repeated, look, fronts, behinds}
use Rattle.fancy_regex_info.specs.Infos.{NodeProperties, InfoTree, known, infos, info_of, info_layer}
use Rattle.fancy_regex_info.specs.declared.info.Info.{Info}
use Rattle.fancy_regex_info.specs.declared.info.Info.TheFolds.{fold_out-Info}
use Rattle.fancy_regex_info.specs.declared.info.Info.TheViews.{out-Info}
use Rattle.fancy_regex_compiler.specs.Known.{child, or_fails, front_of, behind_of, layer, info_written, info_written_all}
use Rattle.fancy_regex_compiler.proofs.TreeLemmas.{tree_concat, tree_alt, tree_group, tree_look_around, tree_repeat, tree_atomic, tree_conditional, tree_define, tree_absent, tree_repeater}

-- what is known of a node
abbrev pub facts_at : Info → NodeProperties
facts_at i = record {
  size = record { least = (out-Info i).min_size; greatest = (out-Info i).max_size; always = (out-Info i).const_size };
  weight = (out-Info i).weight;
  hard = (out-Info i).hard;
  start = (out-Info i).start_group;
  end = (out-Info i).end_group;
}

pub info_known : (i : Info) → info_of i ≡ known (facts_at i) (tree_of (out-Info i).expr.now) (infos (map info_of (out-Info i).children.items))
info_known i = fold_out-Info InfoTree info_layer i

module _ (call : ℕ → CorePattern) where
  abbrev pub W : Info → Written
  W i = info_written call (info_of i)

  pub written_listed : (xs : List Info) → info_written_all call (infos (map info_of xs)) ≡ map W xs
  unfolding info_written info_written_all
  written_listed [] = refl
  written_listed (x ∷ xs) = ap (λ us. W x ∷ us) (written_listed xs)

  node_is : (i : Info) (t : Tree) → tree_of (out-Info i).expr.now ≡ t → W i ≡ layer call (facts_at i) t (map W (out-Info i).children.items)
  unfolding info_written
  node_is i t is =
      ap (info_written call) (info_known i)
      ∙ ap₂ (λ us v. layer call (facts_at i) v us) (written_listed (out-Info i).children.items) is

  child_is : (xs : List Info) (k : ℕ) (x : Info) → slice_get xs k ≡ Some x → child (map W xs) k ≡ W x
  child_is xs k x at = ap or_fails (slice_get-map W xs k ∙ ap (option_map W) at)

  front_is : (i : Info) (t : Tree) → tree_of (out-Info i).expr.now ≡ t → (W i).front ≡ front_of call (out-Info i).start_group t (map W (out-Info i).children.items)
  front_is i t is = ap (λ v. v.front) (node_is i t is)

  pub front_leaf : (i : Info) → (W i).front ≡ front_of call (out-Info i).start_group (tree_of (out-Info i).expr.now) (map W (out-Info i).children.items)
  front_leaf i = front_is i (tree_of (out-Info i).expr.now) refl

  pub front_empty : (i : Info) → tree_of (out-Info i).expr.now ≡ tree.empty → (W i).front ≡ nothing
  unfolding front_of
  front_empty i is = front_is i tree.empty is

  pub front_define : (i : Info) (t : Box Expr Global) → (out-Info i).expr.now ≡ view.DefineGroup t → (W i).front ≡ nothing
  unfolding front_of
  front_define i t is = front_is i (tree.define_group (tree_of t.value)) (ap tree_of is ∙ tree_define t)

  pub front_concat : (i : Info) (ts : Vec Expr Global) → (out-Info i).expr.now ≡ view.Concat ts → (W i).front ≡ cat_all (map W (out-Info i).children.items)
  unfolding front_of
  front_concat i ts is = front_is i (tree.concat (trees (map tree_of ts.items))) (ap tree_of is ∙ tree_concat ts)

  listed_fronts : (xs : List Info) → fronts (map W xs) ≡ map (λ x. (W x).front) xs
  listed_fronts [] = refl
  listed_fronts (x ∷ xs) = ap (λ ps. (W x).front ∷ ps) (listed_fronts xs)

  listed_behinds : (xs : List Info) → behinds (map W xs) ≡ map (λ x. (W x).behind) xs
  listed_behinds [] = refl
  listed_behinds (x ∷ xs) = ap (λ ps. (W x).behind ∷ ps) (listed_behinds xs)

  pub front_alt : (i : Info) (ts : Vec Expr Global) → (out-Info i).expr.now ≡ view.Alt ts → (W i).front ≡ alt_all (map (λ x. (W x).front) (out-Info i).children.items)
  unfolding front_of
  front_alt i ts is =
      front_is i (tree.alt (trees (map tree_of ts.items))) (ap tree_of is ∙ tree_alt ts) ∙ ap alt_all (listed_fronts (out-Info i).children.items)

  pub front_group : (i : Info) (t : Box Expr Global) (x : Info) → (out-Info i).expr.now ≡ view.Group t → slice_get (out-Info i).children.items 0 ≡ Some x →
      (W i).front ≡ group (out-Info i).start_group (W x).front
  unfolding front_of
  front_group i t x is at =
      front_is i (tree.group (tree_of t.value)) (ap tree_of is ∙ tree_group t)
      ∙ ap (λ v. group (out-Info i).start_group v.front) (child_is (out-Info i).children.items 0 x at)

  pub front_look : (i : Info) (t : Box Expr Global) (how : LookAround) (x : Info) → (out-Info i).expr.now ≡ view.LookAround t how → slice_get (out-Info i).children.items 0 ≡ Some x →
      (W i).front ≡ look (tree_of t.value) how (W x)
  unfolding front_of
  front_look i t how x is at =
      front_is i (tree.look_around (tree_of t.value) how) (ap tree_of is ∙ tree_look_around t how) ∙ ap (look (tree_of t.value) how) (child_is (out-Info i).children.items 0 x at)

  pub front_repeat : (i : Info) (t : Box Expr Global) (lo hi : ℕ) (greedy : Bool) (x : Info) → (out-Info i).expr.now ≡ view.Repeat t lo hi greedy →
      slice_get (out-Info i).children.items 0 ≡ Some x → (W i).front ≡ repeated (W x).front lo hi greedy
  unfolding front_of
  front_repeat i t lo hi greedy x is at =
      front_is i (tree.repeat (tree_of t.value) lo hi greedy) (ap tree_of is ∙ tree_repeat t lo hi greedy)
      ∙ ap (λ v. repeated v.front lo hi greedy) (child_is (out-Info i).children.items 0 x at)

  pub front_atomic : (i : Info) (t : Box Expr Global) (x : Info) → (out-Info i).expr.now ≡ view.AtomicGroup t → slice_get (out-Info i).children.items 0 ≡ Some x →
      (W i).front ≡ atomic (first_way_of (tree_of t.value) (W x).front)
  unfolding front_of
  front_atomic i t x is at =
      front_is i (tree.atomic_group (tree_of t.value)) (ap tree_of is ∙ tree_atomic t) ∙ ap (λ v. atomic (first_way_of (tree_of t.value) v.front)) (child_is (out-Info i).children.items 0 x at)

  pub front_conditional : (i : Info) (c a b : Box Expr Global) (x y z : Info) → (out-Info i).expr.now ≡ view.Conditional c a b → slice_get (out-Info i).children.items 0 ≡ Some x →
      slice_get (out-Info i).children.items 1 ≡ Some y → slice_get (out-Info i).children.items 2 ≡ Some z → (W i).front ≡ conditional (first_way_of (tree_of c.value) (W x).front) (W y).front (W z).front
  unfolding front_of
  front_conditional i c a b x y z is one two three =
      front_is i (tree.conditional (tree_of c.value) (tree_of a.value) (tree_of b.value)) (ap tree_of is ∙ tree_conditional c a b)
      ∙ ap₂ (λ v k. conditional (first_way_of (tree_of c.value) v.front) k.front (child (map W (out-Info i).children.items) 2).front) (child_is (out-Info i).children.items 0 x one) (child_is (out-Info i).children.items 1 y two)
      ∙ ap (λ v. conditional (first_way_of (tree_of c.value) (W x).front) (W y).front v.front) (child_is (out-Info i).children.items 2 z three)

  pub front_call : (i : Info) (k : ℕ) → tree_of (out-Info i).expr.now ≡ tree.subroutine_call k → (W i).front ≡ call k
  unfolding front_of
  front_call i k is = front_is i (tree.subroutine_call k) is

  pub front_absent : (i : Info) (a : Absent) (t : Box Expr Global) (x : Info) → (out-Info i).expr.now ≡ view.Absent a → a ≡ absents.Repeater t →
      slice_get (out-Info i).children.items 0 ≡ Some x → (W i).front ≡ absent (W x).front
  unfolding front_of
  front_absent i a t x is repeats at =
      front_is i (tree.absent_repeater (tree_of t.value)) (ap tree_of (is ∙ ap view.Absent repeats) ∙ tree_absent (absents.Repeater t) ∙ tree_repeater t)
      ∙ ap (λ v. absent v.front) (child_is (out-Info i).children.items 0 x at)

  behind_fixed : (f : NodeProperties) (t : Tree) (p : CorePattern) (us : List Written) → f.size.always ≡ true → behind_of f t p us ≡ cat (back f.size.least) p
  unfolding behind_of
  behind_fixed f (tree.alt ts) p us same = ap (λ b. cond b (cat (back f.size.least) p) (alt_all (behinds us))) same
  behind_fixed f _ p us same = refl

  -- All of it is as long.
  pub behind_always : (i : Info) → (out-Info i).const_size ≡ true → (W i).behind ≡ cat (back (out-Info i).min_size) (W i).front
  behind_always i same =
      let t = tree_of (out-Info i).expr.now in
      let us = map W (out-Info i).children.items in
      ap (λ v. v.behind) (node_is i t refl)
      ∙ behind_fixed (facts_at i) t (front_of call (out-Info i).start_group t us) us same
      ∙ ap (cat (back (out-Info i).min_size)) (sym (front_leaf i))

  pub behind_alt : (i : Info) (ts : Vec Expr Global) → (out-Info i).const_size ≡ false → (out-Info i).expr.now ≡ view.Alt ts →
      (W i).behind ≡ alt_all (map (λ x. (W x).behind) (out-Info i).children.items)
  unfolding behind_of
  behind_alt i ts differs is =
      let t = tree.alt (trees (map tree_of ts.items)) in
      let us = map W (out-Info i).children.items in
      ap (λ v. v.behind) (node_is i t (ap tree_of is ∙ tree_alt ts))
      ∙ ap (λ b. cond b (cat (back (out-Info i).min_size) (front_of call (out-Info i).start_group t us)) (alt_all (behinds us))) differs
      ∙ ap alt_all (listed_behinds (out-Info i).children.items)
