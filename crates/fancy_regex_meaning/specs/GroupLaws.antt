-- Groups: their numbers as the meaning counts them on, and their bodies as they are listed, are the same.
use Rattle.std.specs.Prelude.{◌≡◌, ◌⊎◌, ℕ, suc, ◌+◌, List, [], ◌∷◌, length, slice_get, Some, if◌then◌else◌}
use Rattle.fancy_regex_tree.specs.Tree.{Tree, Trees, concat, alt, group, look_around, repeat, atomic_group, conditional, absent_repeater, absent_expression, absent_stopper, define_group, ast_group, no_trees, more_trees}
use Rattle.fancy_regex_meaning.specs.Groups.{bodies, group_count, pattern_of, explicit_pattern_of}
use Rattle.fancy_regex_meaning.specs.Sizes.{target}
use Rattle.fancy_regex_meaning.specs.Ways.{MatchState, Setting, meaning, call_ways, is_at_call_limit}

-- one tree is the other, and so are the numbers of the groups that open first in them
abbrev pub AreSame : ℕ → Tree → ℕ → Tree → Type 0
AreSame n t k u = (n ≡ k) × (t ≡ u)

-- In a tree whose first group has the number n, this part stands, and its first group has the number k.
unfoldable mutual
  pub OccursAt : ℕ → Tree → ℕ → Tree → Type 0
  OccursAt n (group t) k u = AreSame n (group t) k u ⊎ OccursAt (n + 1) t k u
  OccursAt n (concat ts) k u = AreSame n (concat ts) k u ⊎ OccursInRowAt n ts k u
  OccursAt n (alt ts) k u = AreSame n (alt ts) k u ⊎ OccursInRowAt n ts k u
  OccursAt n (look_around t how) k u = AreSame n (look_around t how) k u ⊎ OccursAt n t k u
  OccursAt n (repeat t lo hi greedy) k u = AreSame n (repeat t lo hi greedy) k u ⊎ OccursAt n t k u
  OccursAt n (atomic_group t) k u = AreSame n (atomic_group t) k u ⊎ OccursAt n t k u
  OccursAt n (conditional c a b) k u =
      AreSame n (conditional c a b) k u
      ⊎ (OccursAt n c k u ⊎ (OccursAt (n + group_count c) a k u ⊎ OccursAt (n + group_count c + group_count a) b k u))
  OccursAt n (absent_repeater t) k u = AreSame n (absent_repeater t) k u ⊎ OccursAt n t k u
  OccursAt n (absent_expression a t) k u =
      AreSame n (absent_expression a t) k u ⊎ (OccursAt n a k u ⊎ OccursAt (n + group_count a) t k u)
  OccursAt n (absent_stopper t) k u = AreSame n (absent_stopper t) k u ⊎ OccursAt n t k u
  OccursAt n (define_group t) k u = AreSame n (define_group t) k u ⊎ OccursAt n t k u
  OccursAt n (ast_group name t position) k u = AreSame n (ast_group name t position) k u ⊎ OccursAt n t k u
  OccursAt n t k u = AreSame n t k u

  pub OccursInRowAt : ℕ → Trees → ℕ → Tree → Type 0
  OccursInRowAt n no_trees k u = ⊥
  OccursInRowAt n (more_trees t ts) k u = OccursAt n t k u ⊎ OccursInRowAt (n + group_count t) ts k u

-- there are as many bodies as groups
abbrev pub GroupsAreCounted : Type 0
GroupsAreCounted = (t : Tree) → length (bodies t) ≡ group_count t

-- a group's number is the rank of its opening, and its body is the one that is listed there
abbrev pub NumbersAreRanks : Type 0
NumbersAreRanks = (n : ℕ) (t : Tree) (k : ℕ) (body : Tree) → OccursAt n t k (group body) →
    (i : ℕ) × (k ≡ n + i) × (slice_get (bodies t) i ≡ Some body)

-- and each body that is listed is that of a group with this number
abbrev pub BodiesOccur : Type 0
BodiesOccur = (n : ℕ) (t : Tree) (i : ℕ) (body : Tree) → slice_get (bodies t) i ≡ Some body → OccursAt n t (n + i) (group body)

-- So in a pattern the target of a group's number is its body, whether groups count from 1 or from 0.
abbrev pub TargetsAreGroups : Type 0
TargetsAreGroups = (t : Tree) (k : ℕ) (body : Tree) →
    (OccursAt 1 t k (group body) → target ((pattern_of t).groups) k ≡ Some body)
    × (OccursAt 0 t k (group body) → target ((explicit_pattern_of t).groups) k ≡ Some body)

-- and a call of it has the ways that the body has where the group stands, with one more call open
abbrev pub CallsRunGroups : Type 0
CallsRunGroups = (s : Setting) (t : Tree) (k : ℕ) (body : Tree) → OccursAt 1 t k (group body) →
    (m : ℕ) (opened : List ℕ) (w : MatchState) →
    call_ways s ((pattern_of t).groups) (suc m) opened k w
    ≡ (if is_at_call_limit opened k then [] else (meaning s ((pattern_of t).groups) (call_ways s ((pattern_of t).groups) m (k ∷ opened)) (k + 1) body).from w)
