-- Sizes of calls by fixpoint iteration: each iteration follows calls one level deeper.
use Rattle.std.specs.Prelude.{ℕ, zero, suc, Bool, true, false, List, length, Option, Some, None}
use Rattle.fancy_regex_tree.specs.Tree.{Tree}
use Rattle.fancy_regex_meaning.specs.Sizes.{Size, unbounded, any_size, endless_size, size_with, target}
use Rattle.fancy_regex_info.specs.Reachability.{has, following, through}
use Rattle.fancy_regex_info.specs.AnalysisRelations.{mark_at}

-- the vertex is on a cycle
abbrev pub is_on_cycle : List (List ℕ) → ℕ → Bool
is_on_cycle edges k = has (through edges (length edges) (following edges k)) k

-- the size of a call: if the group is recursive, there is no upper bound
abbrev pub size_when : Bool → Size → Size
size_when true s = record { least = s.least; greatest = unbounded; always = false }
size_when false s = s

abbrev pub size_of_target : (Tree → Size) → Option Tree → Size
size_of_target f None = any_size
size_of_target f (Some body) = f body

-- one iteration
abbrev pub next_size : List Tree → List Bool → (ℕ → Size) → ℕ → Size
next_size groups recursive call k = size_of_target (λ body. size_when (mark_at recursive k) (size_with call body)) (target groups k)

-- the size of a call of group k after n iterations
unfoldable pub iterated_size : List Tree → List Bool → ℕ → ℕ → Size
iterated_size groups recursive zero k = size_of_target (λ body. endless_size) (target groups k)
iterated_size groups recursive (suc n) k = next_size groups recursive (iterated_size groups recursive n) k
