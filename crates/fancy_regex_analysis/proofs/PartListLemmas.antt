-- The calls among emitted parts, tests of them, and how the parts of a node follow from those of its children.
use Rattle.std.proofs.Common.{◌≡◌, Bool, true, false, if◌then◌else◌, ◌==◌, ◌||◌, List, [], ◌∷◌, ◌++◌, flat_map, filter_map, refl, sym, ap, ◌∙◌, append_assoc}
use Rattle.std.specs.List.{list_any}
use Rattle.std.proofs.lemmas.List.{append-nil}
use Rattle.fancy_regex_tree.specs.Tree.{Tree, Trees, concat, alt, group, look_around, repeat, atomic_group, conditional, subroutine_call, absent_repeater}
use Rattle.fancy_regex_tree.specs.Tree.{absent_expression, absent_stopper, define_group, ast_group, no_trees, more_trees}
use Rattle.fancy_regex_tree.specs.Traversal.{subtrees, listed}
use Rattle.fancy_regex_analysis.specs.EmittedParts.{in_look_around, some_descendant, some_of_row, some_emitted, emitted_calls, emitted_calls_in_row}
use Rattle.fancy_regex_analysis.specs.EmittedParts.{emitted_parts, emitted_parts_in_row, call_of, inside_of_children, skips_children}
use Rattle.fancy_regex_analysis.specs.declared.emitted.Inside.{Inside}
use Rattle.fancy_regex_analysis.specs.declared.emitted.Inside.TheVariants.{Absent}
use Rattle.fancy_regex_analysis.specs.declared.emitted.EmittedCall.{EmittedCall}
use Rattle.fancy_regex_info.proofs.NodeListLemmas.{both_add}
use Rattle.fancy_regex_analysis.proofs.NodeListLemmas.{either_passes}

abbrev Part : Type 0
Part = Inside × Tree

unless_calls : (b : Bool) (cs : List EmittedCall) (ps : List Part) → cs ≡ filter_map call_of ps →
    (if b then [] else cs) ≡ filter_map call_of (if b then [] else ps)
unless_calls true cs ps h = refl
unless_calls false cs ps h = h

mutual
  unfolding emitted_calls emitted_calls_in_row emitted_parts emitted_parts_in_row

  pub calls_of_parts : (i : Inside) (t : Tree) → emitted_calls i t ≡ filter_map call_of (emitted_parts i t)
  calls_of_parts i (subroutine_call k) = refl
  calls_of_parts i (concat ts) = calls_of_row i ts
  calls_of_parts i (alt ts) = calls_of_row i ts
  calls_of_parts i (group t) = calls_of_parts i t
  calls_of_parts i (look_around t how) = calls_of_parts (in_look_around i) t
  calls_of_parts i (repeat t lo hi greedy) = unless_calls (hi == 0) (emitted_calls i t) (emitted_parts i t) (calls_of_parts i t)
  calls_of_parts i (atomic_group t) = calls_of_parts i t
  calls_of_parts i (conditional c a b) =
      both_add call_of (emitted_parts i c) (emitted_parts i a ++ emitted_parts i b) (emitted_calls i c) (emitted_calls i a ++ emitted_calls i b)
      (calls_of_parts i c)
      (both_add call_of (emitted_parts i a) (emitted_parts i b) (emitted_calls i a) (emitted_calls i b) (calls_of_parts i a) (calls_of_parts i b))
  calls_of_parts i (absent_repeater t) = calls_of_parts Absent t
  calls_of_parts i (absent_expression a t) =
      both_add call_of (emitted_parts Absent a) (emitted_parts Absent t) (emitted_calls Absent a) (emitted_calls Absent t) (calls_of_parts Absent a)
      (calls_of_parts Absent t)
  calls_of_parts i (absent_stopper t) = calls_of_parts Absent t
  calls_of_parts i (ast_group name t position) = calls_of_parts i t
  calls_of_parts i t = refl

  calls_of_row : (i : Inside) (ts : Trees) → emitted_calls_in_row i ts ≡ filter_map call_of (emitted_parts_in_row i ts)
  calls_of_row i no_trees = refl
  calls_of_row i (more_trees t ts) =
      both_add call_of (emitted_parts i t) (emitted_parts_in_row i ts) (emitted_calls i t) (emitted_calls_in_row i ts) (calls_of_parts i t) (calls_of_row i ts)

module _ (test : Inside → Tree → Bool) where
  abbrev pub passes : Part → Bool
  passes part = test part.0 part.1

  unless_some : (b c : Bool) (ps : List Part) → c ≡ list_any passes ps → (if b then false else c) ≡ list_any passes (if b then [] else ps)
  unless_some true c ps h = refl
  unless_some false c ps h = h

  mutual
    unfolding emitted_parts emitted_parts_in_row some_descendant some_of_row

    pub some_of_parts : (i : Inside) (t : Tree) → some_emitted test i t ≡ list_any passes (emitted_parts i t)
    some_of_parts i (concat ts) = ap (λ b. test i (concat ts) || b) (some_in_row i ts)
    some_of_parts i (alt ts) = ap (λ b. test i (alt ts) || b) (some_in_row i ts)
    some_of_parts i (group t) = ap (λ b. test i (group t) || b) (some_of_parts i t)
    some_of_parts i (look_around t how) = ap (λ b. test i (look_around t how) || b) (some_of_parts (in_look_around i) t)
    some_of_parts i (repeat t lo hi greedy) =
        ap (λ b. test i (repeat t lo hi greedy) || b) (unless_some (hi == 0) (some_emitted test i t) (emitted_parts i t) (some_of_parts i t))
    some_of_parts i (atomic_group t) = ap (λ b. test i (atomic_group t) || b) (some_of_parts i t)
    some_of_parts i (conditional c a b) =
        ap (λ x. test i (conditional c a b) || x)
        (either_passes passes (emitted_parts i c) (emitted_parts i a ++ emitted_parts i b) (some_emitted test i c) (some_emitted test i a || some_emitted test i b)
        (some_of_parts i c)
        (either_passes passes (emitted_parts i a) (emitted_parts i b) (some_emitted test i a) (some_emitted test i b) (some_of_parts i a) (some_of_parts i b)))
    some_of_parts i (absent_repeater t) = ap (λ b. test i (absent_repeater t) || b) (some_of_parts Absent t)
    some_of_parts i (absent_expression a t) =
        ap (λ x. test i (absent_expression a t) || x)
        (either_passes passes (emitted_parts Absent a) (emitted_parts Absent t) (some_emitted test Absent a) (some_emitted test Absent t) (some_of_parts Absent a)
        (some_of_parts Absent t))
    some_of_parts i (absent_stopper t) = ap (λ b. test i (absent_stopper t) || b) (some_of_parts Absent t)
    some_of_parts i (ast_group name t position) = ap (λ b. test i (ast_group name t position) || b) (some_of_parts i t)
    some_of_parts i t = refl

    some_in_row : (i : Inside) (ts : Trees) → some_of_row test i ts ≡ list_any passes (emitted_parts_in_row i ts)
    some_in_row i no_trees = refl
    some_in_row i (more_trees t ts) =
        either_passes passes (emitted_parts i t) (emitted_parts_in_row i ts) (some_emitted test i t) (some_of_row test i ts) (some_of_parts i t) (some_in_row i ts)

parts_of_row : (i : Inside) (ts : Trees) → emitted_parts_in_row i ts ≡ flat_map (emitted_parts i) (listed ts)
unfolding emitted_parts emitted_parts_in_row
parts_of_row i no_trees = refl
parts_of_row i (more_trees t ts) = ap (λ ps. emitted_parts i t ++ ps) (parts_of_row i ts)

-- of one child
alone : (i : Inside) (t : Tree) → emitted_parts i t ≡ flat_map (emitted_parts i) (t ∷ [])
alone i t = sym (append-nil (emitted_parts i t))

abbrev below : Inside → Tree → List Part
below i t = flat_map (emitted_parts (inside_of_children i t)) (subtrees t)

-- the parts of a node that does not skip its children
parts_is : (i : Inside) (t : Tree) → skips_children t ≡ false → emitted_parts i t ≡ (i, t) ∷ below i t
unfolding emitted_parts emitted_parts_in_row
parts_is i (concat ts) h = ap (λ ps. (i, concat ts) ∷ ps) (parts_of_row i ts)
parts_is i (alt ts) h = ap (λ ps. (i, alt ts) ∷ ps) (parts_of_row i ts)
parts_is i (group t) h = ap (λ ps. (i, group t) ∷ ps) (alone i t)
parts_is i (look_around t how) h = ap (λ ps. (i, look_around t how) ∷ ps) (alone (in_look_around i) t)
parts_is i (repeat t lo hi greedy) h =
    ap (λ ps. (i, repeat t lo hi greedy) ∷ ps) (ap (λ b. if b then [] else emitted_parts i t) h ∙ alone i t)
parts_is i (atomic_group t) h = ap (λ ps. (i, atomic_group t) ∷ ps) (alone i t)
parts_is i (conditional c a b) h = ap (λ ps. (i, conditional c a b) ∷ emitted_parts i c ++ (emitted_parts i a ++ ps)) (alone i b)
parts_is i (absent_repeater t) h = ap (λ ps. (i, absent_repeater t) ∷ ps) (alone Absent t)
parts_is i (absent_expression a t) h = ap (λ ps. (i, absent_expression a t) ∷ emitted_parts Absent a ++ ps) (alone Absent t)
parts_is i (absent_stopper t) h = ap (λ ps. (i, absent_stopper t) ∷ ps) (alone Absent t)
parts_is i (define_group t) h = cc
parts_is i (ast_group name t position) h = ap (λ ps. (i, ast_group name t position) ∷ ps) (alone i t)
parts_is i t h = refl

skipped_is : (i : Inside) (t : Tree) → skips_children t ≡ true → emitted_parts i t ≡ (i, t) ∷ []
unfolding emitted_parts emitted_parts_in_row
skipped_is i (repeat t lo hi greedy) h = ap (λ b. (i, repeat t lo hi greedy) ∷ (if b then [] else emitted_parts i t)) h
skipped_is i (define_group t) h = refl
skipped_is i t h = cc

-- a list to which a node was added, and then the parts of its children
pub node_alone : (i : Inside) (t : Tree) (old now : List Part) → skips_children t ≡ true → now ≡ old ++ (i, t) ∷ [] → now ≡ old ++ emitted_parts i t
node_alone i t old now skips added = added ∙ ap (λ ps. old ++ ps) (sym (skipped_is i t skips))

pub node_and_children : (i j : Inside) (t : Tree) (old first now : List Part) (us : List Tree) → skips_children t ≡ false → j ≡ inside_of_children i t →
    us ≡ subtrees t → first ≡ old ++ (i, t) ∷ [] → now ≡ first ++ flat_map (emitted_parts j) us → now ≡ old ++ emitted_parts i t
node_and_children i j t old first now us goes inside all added rest =
    rest
    ∙ ap (λ k. first ++ flat_map (emitted_parts k) us) inside
    ∙ ap (λ vs. first ++ flat_map (emitted_parts (inside_of_children i t)) vs) all
    ∙ ap (λ ps. ps ++ below i t) added
    ∙ append_assoc old ((i, t) ∷ []) (below i t)
    ∙ ap (λ ps. old ++ ps) (sym (parts_is i t goes))
