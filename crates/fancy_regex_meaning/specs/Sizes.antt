-- How many characters a pattern takes, and how heavy it is.
use Rattle.std.specs.Prelude.{ℕ, zero, suc, ◌+◌, ◌-◌, ◌*◌, min, max, Bool, true, false, ◌&&◌, ◌||◌, List, [], ◌∷◌, ◌++◌, length, slice_get, Option, Some, None, ◌==◌, if◌then◌else◌}
use Rattle.std.specs.List.{list_any, flat_map}
use Rattle.fancy_regex_tree.specs.Tree.{Tree, Trees, empty, any, assertion, general_newline, literal, literal_bytes, concat, alt, group, look_around, repeat, delegate, backref, backref_with_level, atomic_group, keep_out, continue, backref_exists, conditional, subroutine_call, verb, absent_repeater, absent_expression, absent_stopper, absent_clear, define_group, ast_group, ast_backref, ast_call, ast_condition, no_trees, more_trees}

-- the last value of `usize`: no bound
abbrev pub unbounded : ℕ
unbounded = 18446744073709551615

-- the bound of a repeat, if it has one
abbrev pub bound_of : ℕ → Option ℕ
bound_of hi = if hi == unbounded then None else Some hi

-- a sum and a product that stop there
abbrev pub add : ℕ → ℕ → ℕ
add a b = min unbounded (a + b)

abbrev pub times : ℕ → ℕ → ℕ
times a b = min unbounded (a * b)

-- the least and the greatest count of characters, and whether it is always the same
pub record Size : Type 0 where
  pub least : ℕ
  pub greatest : ℕ
  pub always : Bool

abbrev pub always_size : ℕ → Size
always_size n = record { least = n; greatest = n; always = true }

abbrev pub any_size : Size
any_size = record { least = 0; greatest = unbounded; always = false }

-- what has no finite unfolding
abbrev pub endless_size : Size
endless_size = record { least = unbounded; greatest = unbounded; always = false }

-- one after another
abbrev pub both_sizes : Size → Size → Size
both_sizes a b = record {
  least = add a.least b.least;
  greatest = add a.greatest b.greatest;
  always = a.always && b.always;
}

-- one of two
abbrev pub either_size : Size → Size → Size
either_size a b = record {
  least = min a.least b.least;
  greatest = max a.greatest b.greatest;
  always = a.always && b.always && a.least == b.least;
}

abbrev pub repeated_size : Size → ℕ → ℕ → Size
repeated_size a lo hi = record {
  least = times lo a.least;
  greatest = times hi a.greatest;
  always = a.always && (lo == hi || a.least == 0);
}

-- the sizes, where those of a call's target are given
unfoldable mutual
  pub size_with : (ℕ → Size) → Tree → Size
  size_with call empty = always_size 0
  size_with call (any newline crlf) = always_size 1
  size_with call (assertion a) = always_size 0
  size_with call (general_newline unicode) = record { least = 1; greatest = 2; always = false }
  size_with call (literal val casei) = always_size 1
  size_with call (literal_bytes bytes) = always_size 1
  size_with call (concat ts) = concat_size call ts
  size_with call (alt ts) = alternation_size call ts
  size_with call (group t) = size_with call t
  size_with call (look_around t how) = always_size 0
  size_with call (repeat t lo hi greedy) = repeated_size (size_with call t) lo hi
  size_with call (delegate inner casei) = always_size 1
  size_with call (backref k casei) = any_size
  size_with call (backref_with_level k level casei) = any_size
  size_with call (atomic_group t) = size_with call t
  size_with call keep_out = always_size 0
  size_with call continue = always_size 0
  size_with call (backref_exists k level) = always_size 0
  size_with call (conditional c a b) = either_size (both_sizes (size_with call c) (size_with call a)) (size_with call b)
  size_with call (subroutine_call k) = call k
  size_with call (verb v) = always_size 0
  size_with call (absent_repeater t) = any_size
  size_with call (absent_expression a t) = any_size
  size_with call (absent_stopper t) = any_size
  size_with call absent_clear = any_size
  size_with call (define_group t) = always_size 0
  size_with call (ast_group name t position) = always_size 0
  size_with call (ast_backref target casei level position) = any_size
  size_with call (ast_call target position) = any_size
  size_with call (ast_condition target level position) = always_size 0

  pub concat_size : (ℕ → Size) → Trees → Size
  concat_size call no_trees = always_size 0
  concat_size call (more_trees t ts) = both_sizes (size_with call t) (concat_size call ts)

  pub alternation_size : (ℕ → Size) → Trees → Size
  alternation_size call no_trees = always_size 0
  alternation_size call (more_trees t no_trees) = size_with call t
  alternation_size call (more_trees t (more_trees u ts)) = either_size (size_with call t) (alternation_size call (more_trees u ts))

-- the targets of the calls that are written in the tree
unfoldable mutual
  pub calls_in : Tree → List ℕ
  calls_in (subroutine_call k) = k ∷ []
  calls_in (group t) = calls_in t
  calls_in (concat ts) = calls_in_row ts
  calls_in (alt ts) = calls_in_row ts
  calls_in (look_around t how) = calls_in t
  calls_in (repeat t lo hi greedy) = calls_in t
  calls_in (atomic_group t) = calls_in t
  calls_in (conditional c a b) = calls_in c ++ (calls_in a ++ calls_in b)
  calls_in (absent_repeater t) = calls_in t
  calls_in (absent_expression a t) = calls_in a ++ calls_in t
  calls_in (absent_stopper t) = calls_in t
  calls_in (define_group t) = calls_in t
  calls_in (ast_group name t position) = calls_in t
  calls_in _ = []

  pub calls_in_row : Trees → List ℕ
  calls_in_row no_trees = []
  calls_in_row (more_trees t ts) = calls_in t ++ calls_in_row ts

-- over the bodies of all groups, by their numbers
module _ (groups : List Tree) where
  -- what a call of the group runs, if there is that group
  abbrev pub target : ℕ → Option Tree
  target k = slice_get groups k

  -- the targets that are called from the tree, through at most n calls
  unfoldable pub calls_through : ℕ → Tree → List ℕ
  calls_through zero t = calls_in t
  calls_through (suc n) t =
      calls_in t ++ flat_map (λ k. elim (target k) [ None ↦ [] | Some body ↦ calls_through n body ]) (calls_in t)

  -- the target is called again from its own body
  unfoldable pub is_recursive : ℕ → Tree → Bool
  is_recursive k body = list_any (λ j. j == k) (calls_through (length groups) body)

  -- the sizes, where calls are followed n deep: what would go deeper has no end, so it is no least
  unfoldable pub size_through : ℕ → Tree → Size
  size_through zero = size_with (λ k. elim (target k) [ None ↦ any_size | Some body ↦ endless_size ])
  size_through (suc n) = size_with (λ k. elim (target k) [
    | None ↦ any_size
    | Some body ↦ (let s = size_through n body in
        if is_recursive k body then record { least = s.least; greatest = unbounded; always = false } else s)
  ])

  -- The least way through a recursion never calls a target that is open, so it is as deep as there are targets at most.
  unfoldable pub size : Tree → Size
  size = size_through (length groups)

  abbrev pub may_be_empty : Tree → Bool
  may_be_empty t = (size t).least == 0

  -- of a repeat whose body weighs so much, and whether the body may be empty
  abbrev pub repeat_weight : ℕ → Option ℕ → ℕ → Bool → ℕ
  repeat_weight lo (Some hi) w body_may_be_empty = max 1 (lo * w + (hi - lo) * (w + 3))
  repeat_weight lo None w true = (lo + 2) * w + 4
  repeat_weight lo None w false = max lo 1 * w + 3

  -- the weight of a node
  unfoldable mutual
    pub weight : Tree → ℕ
    weight (concat ts) = max 1 (weights ts)
    weight (alt ts) = weights ts + 3 * branch_gaps ts
    weight (group t) = weight t + 2
    weight (repeat t lo hi greedy) = repeat_weight lo (bound_of hi) (weight t) (may_be_empty t)
    weight (look_around t how) = 1 + weight t
    weight (atomic_group t) = 1 + weight t
    weight (conditional c a b) = 1 + (weight c + (weight a + weight b))
    weight (absent_repeater t) = 1 + weight t
    weight (absent_expression a t) = 1 + (weight a + weight t)
    weight (absent_stopper t) = 1 + weight t
    weight (define_group t) = 1 + weight t
    weight (ast_group name t position) = 1 + weight t
    weight _ = 1

    pub weights : Trees → ℕ
    weights no_trees = 0
    weights (more_trees t ts) = weight t + weights ts

    -- one less than there are branches
    pub branch_gaps : Trees → ℕ
    branch_gaps no_trees = 0
    branch_gaps (more_trees t no_trees) = 0
    branch_gaps (more_trees t (more_trees u ts)) = branch_gaps (more_trees u ts) + 1

  -- the weight of a whole tree
  abbrev pub tree_weight : Tree → ℕ
  tree_weight t = weight t + 2
