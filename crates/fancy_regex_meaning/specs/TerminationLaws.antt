-- Laws of what can end.
use Rattle.std.specs.Prelude.{◌≡◌, ℕ, suc, ◌≤◌, ⊤, true, false, List, length, Some}
use Rattle.fancy_regex_tree.specs.Tree.{Tree, Trees, concat, alt, group, look_around, repeat, atomic_group, conditional, absent_repeater, absent_expression, absent_stopper, define_group, ast_group, no_trees, more_trees}
use Rattle.fancy_regex_meaning.specs.Sizes.{unbounded, size, target}
use Rattle.fancy_regex_meaning.specs.Termination.{can_end_with, ends_through, can_end, Unfolding}
use Rattle.fancy_regex_meaning.specs.WayLaws.{Each}

-- it can end without any call
abbrev pub EndsAlone : Tree → Type 0
EndsAlone t = can_end_with (λ k. false) t ≡ true

-- What adds nothing to the size of the tree ends without a call: the conditions, what is looked for around a place, what
-- is absent, and what is only defined.
unfoldable mutual
  pub CallsCount : Tree → Type 0
  CallsCount (concat ts) = CallsCountInRow ts
  CallsCount (alt ts) = CallsCountInBranches ts
  CallsCount (group t) = CallsCount t
  CallsCount (repeat t lo hi greedy) = CallsCount t
  CallsCount (atomic_group t) = CallsCount t
  CallsCount (conditional c a b) = EndsAlone c × CallsCount a × CallsCount b
  CallsCount (look_around t how) = EndsAlone t
  CallsCount (absent_repeater t) = EndsAlone t
  CallsCount (absent_expression a t) = EndsAlone a × EndsAlone t
  CallsCount (absent_stopper t) = EndsAlone t
  CallsCount (define_group t) = EndsAlone t
  CallsCount (ast_group name t position) = EndsAlone t
  CallsCount _ = ⊤

  pub CallsCountInRow : Trees → Type 0
  CallsCountInRow no_trees = ⊤
  CallsCountInRow (more_trees t ts) = CallsCount t × CallsCountInRow ts

  -- an alternation has a branch
  pub CallsCountInBranches : Trees → Type 0
  CallsCountInBranches no_trees = ⊥
  CallsCountInBranches (more_trees t no_trees) = CallsCount t
  CallsCountInBranches (more_trees t (more_trees u ts)) = CallsCount t × CallsCountInBranches (more_trees u ts)

module _ (groups : List Tree) where
  -- what can end has a finite unfolding
  abbrev pub TerminatingHasUnfolding : Type 0
  TerminatingHasUnfolding = (t : Tree) → can_end groups t ≡ true → Unfolding groups t

  -- and nothing else has one
  abbrev pub NonTerminatingHasNoUnfolding : Type 0
  NonTerminatingHasNoUnfolding = (t : Tree) → can_end groups t ≡ false → Unfolding groups t → ⊥

  -- The bound on the calls is never what ends it.
  abbrev pub TerminationDepthSuffices : Type 0
  TerminationDepthSuffices = (m : ℕ) → length groups ≤ m → (t : Tree) → ends_through groups m t ≡ can_end groups t

  -- Where one call more changes nothing for any target, it is known what can end.
  abbrev pub FixpointIsReached : Type 0
  FixpointIsReached = (n : ℕ) →
      ((k : ℕ) (body : Tree) → target groups k ≡ Some body → ends_through groups (suc n) body ≡ ends_through groups n body) →
      (t : Tree) → ends_through groups (suc n) t ≡ can_end groups t

  -- What cannot end has no least size, where every call counts for it.
  abbrev pub NonTerminatingIsUnbounded : Type 0
  NonTerminatingIsUnbounded = Each CallsCount groups → (t : Tree) → CallsCount t → can_end groups t ≡ false →
      (size groups t).least ≡ unbounded
