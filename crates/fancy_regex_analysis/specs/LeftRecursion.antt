-- Left recursion: calls that are possible before any character is matched.
use Rattle.std.specs.Prelude.{◌≡◌, ℕ, Bool, true, false, ◌==◌, if◌then◌else◌, List, [], ◌∷◌, ◌++◌, Some}
use Rattle.fancy_regex_tree.specs.Tree.{Tree, Trees, concat, alt, group, look_around, repeat, atomic_group, conditional, subroutine_call}
use Rattle.fancy_regex_tree.specs.Tree.{absent_repeater, absent_expression, absent_stopper, ast_group, no_trees, more_trees}
use Rattle.fancy_regex_meaning.specs.Sizes.{Size, size, target}
use Rattle.fancy_regex_info.specs.Reachability.{has}

abbrev pub where_so : Bool → List ℕ → List ℕ
where_so true ks = ks
where_so false ks = []

-- where the sizes of trees are given
module _ (size_at : Tree → Size) where
  abbrev pub may_take_nothing : Tree → Bool
  may_take_nothing t = (size_at t).least == 0

  -- The groups that are called in the part with only parts of least size 0 before the call. Nothing is called in the body of a
  -- repeat `{0}`, nor in definitions: neither is matched where it stands.
  unfoldable mutual
    pub first_calls : Tree → List ℕ
    first_calls (subroutine_call k) = k ∷ []
    first_calls (concat ts) = first_calls_in_row ts
    first_calls (alt ts) = first_calls_in_branches ts
    first_calls (conditional c a b) = first_calls c ++ (where_so (may_take_nothing c) (first_calls a) ++ first_calls b)
    first_calls (group t) = first_calls t
    first_calls (look_around t how) = first_calls t
    first_calls (repeat t lo hi greedy) = if hi == 0 then [] else first_calls t
    first_calls (atomic_group t) = first_calls t
    first_calls (absent_repeater t) = first_calls t
    first_calls (absent_expression a t) = first_calls a ++ first_calls t
    first_calls (absent_stopper t) = first_calls t
    first_calls (ast_group name t position) = first_calls t
    first_calls _ = []

    pub first_calls_in_row : Trees → List ℕ
    first_calls_in_row no_trees = []
    first_calls_in_row (more_trees t ts) = first_calls t ++ where_so (may_take_nothing t) (first_calls_in_row ts)

    pub first_calls_in_branches : Trees → List ℕ
    first_calls_in_branches no_trees = []
    first_calls_in_branches (more_trees t ts) = first_calls t ++ first_calls_in_branches ts

-- A call of the group is reached from the start of the part, through calls too, with only parts of least size 0 before it.
pub data BeginsWithCall (groups : List Tree) : Tree → ℕ → Type 0 where
  at_once : (t : Tree) (k : ℕ) → has (first_calls (size groups) t) k ≡ true → BeginsWithCall groups t k
  through_call : (t body : Tree) (j k : ℕ) → has (first_calls (size groups) t) j ≡ true → target groups j ≡ Some body →
      BeginsWithCall groups body k → BeginsWithCall groups t k

-- a call of the group is reached from the start of its own body
abbrev pub IsLeftRecursive : List Tree → ℕ → Type 0
IsLeftRecursive groups k = (body : Tree) × (target groups k ≡ Some body) × BeginsWithCall groups body k
