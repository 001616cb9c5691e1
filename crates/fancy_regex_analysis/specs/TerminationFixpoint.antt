-- Termination by fixpoint iteration: each iteration follows calls one level deeper.
use Rattle.std.specs.Prelude.{ℕ, zero, suc, Bool, true, false, not, ◌&&◌, List, [], ◌∷◌, slice_get, Option, Some, None}
use Rattle.fancy_regex_tree.specs.Tree.{Tree}
use Rattle.fancy_regex_meaning.specs.Sizes.{target, calls_in}
use Rattle.fancy_regex_meaning.specs.Termination.{can_end_with, can_end}
use Rattle.fancy_regex_info.specs.declared.error.CompileError.{CompileError}
use Rattle.fancy_regex_info.specs.declared.error.CompileError.TheVariants.{NeverEndingRecursion}

abbrev pub or_true : Option Bool → Bool
or_true None = true
or_true (Some b) = b

-- by which groups can end, whether a call can
abbrev pub ends_in : List Bool → ℕ → Bool
ends_in ends k = or_true (slice_get ends k)

abbrev pub end_of_target : (Tree → Bool) → Option Tree → Bool
end_of_target f None = true
end_of_target f (Some body) = f body

-- one call more
abbrev pub next_end : List Tree → (ℕ → Bool) → ℕ → Bool
next_end groups call k = end_of_target (can_end_with call) (target groups k)

-- whether calls can end after so many iterations
unfoldable pub iterated_end : List Tree → ℕ → ℕ → Bool
iterated_end groups zero k = end_of_target (λ body. false) (target groups k)
iterated_end groups (suc n) k = next_end groups (iterated_end groups n) k

abbrev pub is_some_list : List ℕ → Bool
is_some_list [] = false
is_some_list (k ∷ ks) = true

-- there are calls, and the tree cannot end
abbrev pub never_ends : List Tree → Tree → Bool
never_ends groups t = is_some_list (calls_in t) && not (can_end groups t)

abbrev pub is_never_ending : CompileError → Bool
is_never_ending NeverEndingRecursion = true
is_never_ending _ = false
