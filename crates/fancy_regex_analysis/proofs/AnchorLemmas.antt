-- A tree that begins with an assertion of one place has no way at another.
use Rattle.std.proofs.Common.{◌≡◌, ℕ, zero, suc, ◌+◌, ⊎_elim, inl, inr, Bool, true, false, ◌||◌, ◌&&◌, ◌==◌, nat_lt, Option}
use Rattle.std.proofs.Common.{Some, None, List, [], ◌∷◌, ◌++◌, length, map, refl, ap, sym, ◌∙◌, arith, eqb-true}
use Rattle.std.specs.List.{flat_map}
use Rattle.regex_hir.specs.Text.{is_some_and}
use Rattle.fancy_regex_tree.specs.Tree.{Tree, Trees, tree_of, trees, assertion, concat, alt, group, look_around, repeat, atomic_group, continue, no_trees, more_trees}
use Rattle.fancy_regex_tree.specs.declared.expr.Assertion.TheVariants.{StartText}
use Rattle.fancy_regex_tree.specs.declared.expr.Expr.{Expr}
use Rattle.fancy_regex_tree.specs.declared.expr.LookAround.TheVariants.{LookAhead}
use Rattle.fancy_regex_meaning.specs.Groups.{group_count}
use Rattle.fancy_regex_meaning.specs.Sizes.{bound_of}
use Rattle.fancy_regex_meaning.specs.Ways as ways
use Rattle.fancy_regex_meaning.specs.Ways.{Setting, MatchState, Moves, Meaning, is_none_of, meaning, meanings, call_ways, max_open_calls, due, all_of, look, first_only}
use Rattle.fancy_regex_analysis.specs.Anchored.{begins_anchored, all_begin_anchored, IsAnchor, IsAnchored}
use Rattle.fancy_regex_analysis.proofs.AnalysisErrorLemmas.{and_left, and_right}
use Rattle.fancy_regex_analysis.proofs.PartErrorLemmas.{either_is}

pub none_begin : all_begin_anchored no_trees ≡ true
unfolding begins_anchored all_begin_anchored
none_begin = refl

pub more_begin : (t : Tree) (ts : Trees) → all_begin_anchored (more_trees t ts) ≡ (begins_anchored t && all_begin_anchored ts)
unfolding begins_anchored all_begin_anchored
more_begin t ts = refl

pub some_branches : (xs : List Expr) → (length xs == 0) ≡ false →
    begins_anchored (alt (trees (map tree_of xs))) ≡ all_begin_anchored (trees (map tree_of xs))
unfolding begins_anchored all_begin_anchored
some_branches [] some = cc
some_branches (x ∷ xs) some = refl

pub no_branches : (xs : List Expr) → (length xs == 0) ≡ true → begins_anchored (alt (trees (map tree_of xs))) ≡ false
unfolding begins_anchored all_begin_anchored
no_branches [] none = refl
no_branches (x ∷ xs) none = let bad : suc (length xs) ≡ 0 = eqb-true (suc (length xs)) 0 none in absurd (omega arith)

module _ (s : Setting) (groups : List Tree) (call : ℕ → Moves) (w : MatchState) where
  abbrev is_anchor : Bool
  is_anchor = (w.position == 0) || is_some_and s.continue_at (λ g. g == w.position)

  abbrev M : ℕ → Tree → Meaning
  M = meaning s groups call

  none_due : (lo : ℕ) (body rest : Moves) → nat_lt 0 lo ≡ true → body w ≡ [] → due lo body rest w ≡ []
  none_due zero body rest some none = cc
  none_due (suc lo) body rest some none = ap (flat_map (due lo body rest)) none

  none_repeated : (lo : ℕ) (hi : Option ℕ) (greedy : Bool) (body : Moves) → nat_lt 0 lo ≡ true → body w ≡ [] →
      ways.repeat s lo hi greedy body w ≡ []
  none_repeated lo None greedy body some none = none_due lo body _ some none
  none_repeated lo (Some hi) greedy body some none = none_due lo body _ some none

  module _ (elsewhere : is_anchor ≡ false) where
    not_left : (w.position == 0) ≡ false
    not_left = ⊎_elim (λ e. let bad : is_anchor ≡ true = ap (λ b. b || is_some_and s.continue_at (λ g. g == w.position)) e in cc) (λ e. e)
        (either_is (w.position == 0))

    not_right : is_some_and s.continue_at (λ g. g == w.position) ≡ false
    not_right = sym (ap (λ b. b || is_some_and s.continue_at (λ g. g == w.position)) not_left) ∙ elsewhere

    mutual
      unfolding begins_anchored all_begin_anchored meaning meanings

      none_elsewhere : (n : ℕ) (t : Tree) → begins_anchored t ≡ true → (M n t).from w ≡ []
      none_elsewhere n (assertion StartText) h = rw not_left refl
      none_elsewhere n continue h = rw not_right refl
      none_elsewhere n (concat no_trees) h = cc
      none_elsewhere n (concat (more_trees t ts)) h = ap (flat_map (all_of (meanings s groups call (n + group_count t) ts))) (none_elsewhere n t h)
      none_elsewhere n (alt no_trees) h = cc
      none_elsewhere n (alt (more_trees t ts)) h =
          ap (λ vs. vs ++ flat_map (λ m. m.from w) (meanings s groups call (n + group_count t) ts))
          (none_elsewhere n t (and_left (begins_anchored t) (all_begin_anchored ts) h))
          ∙ none_in_branches (n + group_count t) ts (and_right (begins_anchored t) (all_begin_anchored ts) h)
      none_elsewhere n (group t) h = ap (map _) (none_elsewhere (n + 1) t h)
      none_elsewhere n (atomic_group t) h = ap first_only (none_elsewhere n t h)
      none_elsewhere n (look_around t LookAhead) h = ap (map _) (none_elsewhere n t h)
      none_elsewhere n (repeat t lo hi greedy) h =
          none_repeated lo (bound_of hi) greedy (M n t).from (and_left (nat_lt 0 lo) (begins_anchored t) h)
          (none_elsewhere n t (and_right (nat_lt 0 lo) (begins_anchored t) h))
      none_elsewhere n t h = cc

      none_in_branches : (n : ℕ) (ts : Trees) → all_begin_anchored ts ≡ true → flat_map (λ m. m.from w) (meanings s groups call n ts) ≡ []
      none_in_branches n no_trees h = refl
      none_in_branches n (more_trees t ts) h =
          ap (λ vs. vs ++ flat_map (λ m. m.from w) (meanings s groups call (n + group_count t) ts))
          (none_elsewhere n t (and_left (begins_anchored t) (all_begin_anchored ts) h))
          ∙ none_in_branches (n + group_count t) ts (and_right (begins_anchored t) (all_begin_anchored ts) h)

  continues : (o : Option ℕ) (p : ℕ) → is_some_and o (λ g. g == p) ≡ true → o ≡ Some p
  continues None p h = cc
  continues (Some g) p h = ap Some (eqb-true g p h)

  anchor_is : is_anchor ≡ true → IsAnchor s w.position
  anchor_is h =
      ⊎_elim (λ e. inl (eqb-true w.position 0 e))
      (λ e. inr (continues s.continue_at w.position (sym (ap (λ b. b || is_some_and s.continue_at (λ g. g == w.position)) e) ∙ h)))
      (either_is (w.position == 0))

  pub anchored_at : (n : ℕ) (t : Tree) → begins_anchored t ≡ true → is_none_of ((M n t).from w) ≡ false → IsAnchor s w.position
  anchored_at n t h some =
      ⊎_elim (λ e. anchor_is e)
      (λ e. let none : true ≡ false = sym (ap is_none_of (none_elsewhere e n t h)) ∙ some in cc)
      (either_is is_anchor)

pub anchored : (t : Tree) → begins_anchored t ≡ true → IsAnchored t
unfolding ways.ways
anchored t h s groups n w some = anchored_at s groups (call_ways s groups (max_open_calls groups) []) w n t h some
