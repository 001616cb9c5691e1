-- A tree with lazy quantifiers has a way exactly where the tree has one.
use Rattle.std.proofs.Common.{◌≡◌, ℕ, zero, suc, ◌+◌, ◌-◌, Bool, true, false, cond, true≢false, List, [], ◌∷◌, ◌++◌, length, map, Option, Some, None, refl, sym, ap, ap₂, ◌∙◌, subst}
use Rattle.std.specs.Prelude.{◌==◌, ◌&&◌, ◌||◌, not, option_map}
use Rattle.std.specs.List.{flat_map, list_any}
use Rattle.std.proofs.lemmas.List.Folds.{list_any-append}
use mathlib.Core.Path.{fun_ext}
use Rattle.fancy_regex_tree.specs.Tree as tree
use Rattle.fancy_regex_tree.specs.Tree.{Tree, Trees, no_trees, more_trees}
use Rattle.fancy_regex_meaning.specs.Groups.{pattern_of, group_count, row_group_count}
use Rattle.fancy_regex_meaning.specs.Sizes.{bound_of}
use Rattle.fancy_regex_meaning.specs.Ways.{MatchState, Moves, Setting, with_position, keep_only_pairs, meaning}
use Rattle.fancy_regex_meaning.specs.Searches.{first_item, start_way}
use Rattle.fancy_regex_info.specs.Easy.{is_easy, all_easy}
use Rattle.fancy_regex_info.specs.References.{is_read}
use Rattle.fancy_regex_desugar.specs.Delegates.{lazily, all_lazily, is_delegated, first_end}
use Rattle.fancy_regex_desugar.specs.CoreWays.{end_ways}
use Rattle.fancy_regex_desugar.specs.Thinned.{Thinned}
use Rattle.fancy_regex_desugar.proofs.ThinnedLemmas.{thin_same, thin_repeated}
use Rattle.fancy_regex_desugar.proofs.DelegateProofs.{Ends, picked, due_ends, up_to_ends, loop_ends, repeat_ends, tree_ends, row_ends, branch_ends, ends_tree, part_of, searched_can_be, own_ways}

mutual
  unfolding group_count row_group_count lazily all_lazily

  pub lazily_groups : (t : Tree) → group_count (lazily t) ≡ group_count t
  lazily_groups (tree.concat ts) = all_lazily_groups ts
  lazily_groups (tree.alt ts) = all_lazily_groups ts
  lazily_groups (tree.group t) = λ i. lazily_groups t i + 1
  lazily_groups (tree.repeat t lo hi greedy) = lazily_groups t
  lazily_groups _ = refl

  pub all_lazily_groups : (ts : Trees) → row_group_count (all_lazily ts) ≡ row_group_count ts
  all_lazily_groups no_trees = refl
  all_lazily_groups (more_trees t ts) = λ i. lazily_groups t i + all_lazily_groups ts i

module _ (reads : ℕ → Bool) where
  mutual
    unfolding is_easy all_easy lazily all_lazily

    pub lazily_easy : (k : ℕ) (t : Tree) → is_easy reads k (lazily t) ≡ is_easy reads k t
    lazily_easy k (tree.concat ts) = all_lazily_easy k ts
    lazily_easy k (tree.alt no_trees) = refl
    lazily_easy k (tree.alt (more_trees t ts)) = all_lazily_easy k (more_trees t ts)
    lazily_easy k (tree.group t) = λ i. lazily_easy (k + 1) t i && not (reads k)
    lazily_easy k (tree.repeat t lo hi greedy) = lazily_easy k t
    lazily_easy k _ = refl

    pub all_lazily_easy : (k : ℕ) (ts : Trees) → all_easy reads k (all_lazily ts) ≡ all_easy reads k ts
    all_lazily_easy k no_trees = refl
    all_lazily_easy k (more_trees t ts) =
        ap₂ (λ a b. a && b) (lazily_easy k t)
        (ap (λ n. all_easy reads (k + n) (all_lazily ts)) (lazily_groups t) ∙ all_lazily_easy (k + group_count t) ts)

-- the same tests pass on some item of both
abbrev SameTests : List ℕ → List ℕ → Type 0
SameTests ps qs = (test : ℕ → Bool) → list_any test ps ≡ list_any test qs

abbrev SameTestsAt : Ends → Ends → Type 0
SameTestsAt ends to = (p : ℕ) → SameTests (ends p) (to p)

or_either : (a b : Bool) → (a || b) ≡ (b || a)
or_either true true = refl
or_either true false = refl
or_either false true = refl
or_either false false = refl

or_assoc : (a b c : Bool) → ((a || b) || c) ≡ (a || (b || c))
or_assoc true b c = refl
or_assoc false b c = refl

list_any-flat_map : (test : ℕ → Bool) (f : Ends) (ps : List ℕ) → list_any test (flat_map f ps) ≡ list_any (λ p. list_any test (f p)) ps
list_any-flat_map test f [] = refl
list_any-flat_map test f (p ∷ ps) = list_any-append test (f p) (flat_map f ps) ∙ ap (λ b. list_any test (f p) || b) (list_any-flat_map test f ps)

tests_over : (f g : Ends) → SameTestsAt f g → (ps qs : List ℕ) → SameTests ps qs → SameTests (flat_map f ps) (flat_map g qs)
tests_over f g h ps qs k test =
    let any_of : Ends → ℕ → Bool = λ e p. list_any test (e p) in
    list_any-flat_map test f ps ∙ ap (λ u. list_any u ps) (fun_ext {f = any_of f} {g = any_of g} (λ p. h p test))
    ∙ k (any_of g) ∙ sym (list_any-flat_map test g qs)

tests_append : (ps qs us vs : List ℕ) → SameTests ps qs → SameTests us vs → SameTests (ps ++ us) (qs ++ vs)
tests_append ps qs us vs h k test = list_any-append test ps us ∙ (λ i. h test i || k test i) ∙ sym (list_any-append test qs vs)

tests_swap : (ps qs : List ℕ) → SameTests (ps ++ qs) (qs ++ ps)
tests_swap ps qs test = list_any-append test ps qs ∙ or_either (list_any test ps) (list_any test qs) ∙ sym (list_any-append test qs ps)

tests_picked : (greedy : Bool) (on to stop : List ℕ) → SameTests on to → SameTests (picked greedy on stop) (picked false to stop)
tests_picked true on to stop h test = tests_append on to stop stop h (λ u. refl) test ∙ tests_swap to stop test
tests_picked false on to stop h test = tests_append stop stop on to (λ u. refl) h test

tests_due : (n : ℕ) (f g rest last : Ends) → SameTestsAt f g → SameTestsAt rest last → SameTestsAt (due_ends n f rest) (due_ends n g last)
tests_due zero f g rest last h k p = k p
tests_due (suc n) f g rest last h k p = tests_over (due_ends n f rest) (due_ends n g last) (tests_due n f g rest last h k) (f p) (g p) (h p)

tests_up_to : (n : ℕ) (greedy : Bool) (f g : Ends) → SameTestsAt f g → SameTestsAt (up_to_ends n greedy f) (up_to_ends n false g)
tests_up_to zero greedy f g h p = λ test. refl
tests_up_to (suc n) greedy f g h p =
    tests_picked greedy _ _ (p ∷ []) (tests_over (up_to_ends n greedy f) (up_to_ends n false g) (tests_up_to n greedy f g h) (f p) (g p) (h p))

tests_either : (b : Bool) (ps us vs : List ℕ) → SameTests us vs → SameTests (cond b ps us) (cond b ps vs)
tests_either true ps us vs h = λ test. refl
tests_either false ps us vs h = h

tests_loop : (n : ℕ) (greedy : Bool) (f g : Ends) → SameTestsAt f g → SameTestsAt (loop_ends n greedy f) (loop_ends n false g)
tests_loop zero greedy f g h p = λ test. refl
tests_loop (suc n) greedy f g h p =
    tests_picked greedy _ _ (p ∷ [])
    (tests_over (λ q. cond (q == p) (q ∷ []) (loop_ends n greedy f q)) (λ q. cond (q == p) (q ∷ []) (loop_ends n false g q))
    (λ q. tests_either (q == p) (q ∷ []) _ _ (tests_loop n greedy f g h q)) (f p) (g p) (h p))

module _ (s : Setting) where
  tests_repeat : (lo : ℕ) (hi : Option ℕ) (greedy : Bool) (f g : Ends) → SameTestsAt f g →
      SameTestsAt (repeat_ends s lo hi greedy f) (repeat_ends s lo hi false g)
  tests_repeat lo None greedy f g h = tests_due lo f g _ _ h (tests_loop (length s.text + 1) greedy f g h)
  tests_repeat lo (Some hi) greedy f g h = tests_due lo f g _ _ h (tests_up_to (hi - lo) greedy f g h)

  mutual
    unfolding lazily all_lazily

    tests_tree : (t : Tree) → SameTestsAt (tree_ends s t) (tree_ends s (lazily t))
    tests_tree (tree.concat ts) = tests_row ts
    tests_tree (tree.alt ts) = tests_branches ts
    tests_tree (tree.repeat t lo hi greedy) = tests_repeat lo (bound_of hi) greedy (tree_ends s t) (tree_ends s (lazily t)) (tests_tree t)
    tests_tree _ = λ p test. refl

    tests_row : (ts : Trees) → SameTestsAt (row_ends s ts) (row_ends s (all_lazily ts))
    tests_row no_trees = λ p test. refl
    tests_row (more_trees t ts) = λ p.
        tests_over (row_ends s ts) (row_ends s (all_lazily ts)) (tests_row ts) (tree_ends s t p) (tree_ends s (lazily t) p) (tests_tree t p)

    tests_branches : (ts : Trees) → SameTestsAt (branch_ends s ts) (branch_ends s (all_lazily ts))
    tests_branches no_trees = λ p test. refl
    tests_branches (more_trees t ts) = λ p.
        tests_append (tree_ends s t p) (tree_ends s (lazily t) p) (branch_ends s ts p) (branch_ends s (all_lazily ts) p)
        (tests_tree t p) (tests_branches ts p)

-- ways that differ only in their positions are the same once only their pairs are kept
pairs_stay : (w : MatchState) (ps : List ℕ) → keep_only_pairs w (map (with_position w) ps) ≡ map (λ p. w) ps
pairs_stay w [] = refl
pairs_stay w (p ∷ ps) = ap (λ l. w ∷ l) (pairs_stay w ps)

one_of_all : (w : MatchState) (ps qs : List ℕ) → SameTests ps qs →
    Thinned (keep_only_pairs w (map (with_position w) ps)) (keep_only_pairs w (end_ways (first_item qs) w))
one_of_all w [] [] h = thin_same []
one_of_all w [] (q ∷ qs) h = absurd (true≢false (sym (h (λ p. true))))
one_of_all w (p ∷ ps) [] h = absurd (true≢false (h (λ q. true)))
one_of_all w (p ∷ ps) (q ∷ qs) h = subst (λ l. Thinned (w ∷ l) (w ∷ [])) (sym (pairs_stay w ps)) (thin_repeated ℕ w p ps)

first_position : (w : MatchState) (ps : List ℕ) → option_map (λ v. v.position) (first_item (map (with_position w) ps)) ≡ first_item ps
first_position w [] = refl
first_position w (p ∷ ps) = refl

-- What a look-ahead leaves of the ways of a delegated body: one of them, where there is one.
pub any_way : (s : Setting) (groups : List Tree) (call : ℕ → Moves) (n : ℕ) (t : Tree) → is_delegated true t ≡ true → (w : MatchState) →
    Thinned (keep_only_pairs w ((meaning s groups call n t).from w)) (keep_only_pairs w (end_ways (first_end s (lazily t) w.position) w))
unfolding first_end
any_way s groups call n t h w =
    let found = searched_can_be true t h in
    let part = part_of (lazily t) found in
    let reads : ℕ → Bool = is_read (length (pattern_of (lazily t)).groups) (lazily t) in
    let ends : (meaning s groups call n t).from w ≡ map (with_position w) (tree_ends s t w.position) =
    ends_tree s reads groups call 1 n t (sym (lazily_easy reads 1 t) ∙ part.easy) (sym (lazily_groups t) ∙ part.groupless) w in
    let first : first_end s (lazily t) w.position ≡ first_item (tree_ends s (lazily t) w.position) =
    ap (λ l. option_map (λ v. v.position) (first_item l)) (own_ways s (lazily t) found w.position)
    ∙ first_position (start_way (pattern_of (lazily t)) w.position) (tree_ends s (lazily t) w.position) in
    subst (λ l. Thinned (keep_only_pairs w l) (keep_only_pairs w (end_ways (first_end s (lazily t) w.position) w))) (sym ends)
    (subst (λ o. Thinned (keep_only_pairs w (map (with_position w) (tree_ends s t w.position))) (keep_only_pairs w (end_ways o w))) (sym first)
    (one_of_all w (tree_ends s t w.position) (tree_ends s (lazily t) w.position) (tests_tree s t w.position)))
