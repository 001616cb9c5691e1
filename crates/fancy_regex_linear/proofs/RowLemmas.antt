-- Rows and branches are emitted from the last to the first.
use Rattle.std.proofs.Common.{◌≡◌, ℕ, ◌+◌, ◌<◌, ◌≤◌, List, [], ◌∷◌, ◌++◌, length, take, get_or, refl, sym, ap, ap₂, ◌∙◌}
use Rattle.std.proofs.lemmas.List.{take_more, take_all, map-append}
use Rattle.fancy_regex_linear.specs.Re.{Re, cats, alts, shape, shapes}
use Rattle.fancy_regex_linear.specs.declared.node.Node.{Node}
use Rattle.fancy_regex_linear.specs.Program.{push, emitted, emitted_both, with_branch, with_branch_both, with_branches, with_branches_both}
use Rattle.fancy_regex_states.specs.declared.state.State.{State}
use Rattle.fancy_regex_states.specs.declared.state.State.TheVariants.{Split}

-- the last child of a concatenation comes first
pub last_first : (xs : List Re) (x : Re) (states : List State) (next : ℕ)
    → emitted (cats (xs ++ x ∷ [])) states next ≡ emitted (cats xs) (emitted x states next).0 (emitted x states next).1
unfolding emitted
last_first [] x states next = refl
last_first (y ∷ ys) x states next = ap (λ (m : List State × ℕ). emitted y m.0 m.1) (last_first ys x states next)

pub last_first_both : (xs : List Re) (x : Re) (states : List State) (same moved : ℕ)
    → emitted_both (cats (xs ++ x ∷ [])) states same moved
    ≡ emitted_both (cats xs) (emitted_both x states same moved).0 (emitted_both x states same moved).1 (emitted_both x states same moved).2
unfolding emitted_both
last_first_both [] x states same moved = refl
last_first_both (y ∷ ys) x states same moved =
    ap (λ (m : List State × ℕ × ℕ). emitted_both y m.0 m.1 m.2) (last_first_both ys x states same moved)

pub row_of_none : (states : List State) (next : ℕ) → emitted (cats []) states next ≡ (states, next)
unfolding emitted
row_of_none states next = refl

pub row_of_none_both : (states : List State) (same moved : ℕ) → emitted_both (cats []) states same moved ≡ (states, same, moved)
unfolding emitted_both
row_of_none_both states same moved = refl

pub no_branches : (states : List State) (next : ℕ) → emitted (alts []) states next ≡ (states, next)
unfolding emitted
no_branches states next = refl

pub no_branches_both : (states : List State) (same moved : ℕ) → emitted_both (alts []) states same moved ≡ (states, same, moved)
unfolding emitted_both
no_branches_both states same moved = refl

pub with_no_branches : (next : ℕ) (rest : List State × ℕ) → with_branches [] next rest ≡ rest
unfolding with_branches
with_no_branches next rest = refl

pub with_no_branches_both : (same moved : ℕ) (rest : List State × ℕ × ℕ) → with_branches_both [] same moved rest ≡ rest
unfolding with_branches_both
with_no_branches_both same moved rest = refl

pub with_branches_last : (xs : List Re) (x : Re) (next : ℕ) (rest : List State × ℕ)
    → with_branches (xs ++ x ∷ []) next rest ≡ with_branches xs next (with_branch x next rest)
unfolding with_branches
with_branches_last [] x next rest = refl
with_branches_last (y ∷ ys) x next rest = ap (with_branch y next) (with_branches_last ys x next rest)

pub with_branches_last_both : (xs : List Re) (x : Re) (same moved : ℕ) (rest : List State × ℕ × ℕ)
    → with_branches_both (xs ++ x ∷ []) same moved rest ≡ with_branches_both xs same moved (with_branch_both x same moved rest)
unfolding with_branches_both
with_branches_last_both [] x same moved rest = refl
with_branches_last_both (y ∷ ys) x same moved rest = ap (with_branch_both y same moved) (with_branches_last_both ys x same moved rest)

pub branches_are : (xs : List Re) (x : Re) (states : List State) (next : ℕ)
    → emitted (alts (xs ++ x ∷ [])) states next ≡ with_branches xs next (emitted x states next)
unfolding emitted with_branches with_branch
branches_are [] x states next = refl
branches_are (y ∷ []) x states next = refl
branches_are (y ∷ z ∷ zs) x states next = ap (with_branch y next) (branches_are (z ∷ zs) x states next)

pub branches_are_both : (xs : List Re) (x : Re) (states : List State) (same moved : ℕ)
    → emitted_both (alts (xs ++ x ∷ [])) states same moved ≡ with_branches_both xs same moved (emitted_both x states same moved)
unfolding emitted_both with_branches_both with_branch_both
branches_are_both [] x states same moved = refl
branches_are_both (y ∷ []) x states same moved = refl
branches_are_both (y ∷ z ∷ zs) x states same moved = ap (with_branch_both y same moved) (branches_are_both (z ∷ zs) x states same moved)

-- one more node of a row
pub shapes_last : (xs : List Node) (i : ℕ) (x : Node) → i < length xs → x ≡ get_or xs i x → shapes (take (i + 1) xs) ≡ shapes (take i xs) ++ shape x ∷ []
shapes_last xs i x h e =
    ap shapes (take_more xs i x h ∙ ap (λ y. take i xs ++ y ∷ []) (sym e)) ∙ map-append shape (take i xs) (x ∷ [])

-- all nodes of a row, the last one apart
pub shapes_split : (xs : List Node) (i : ℕ) (x : Node) → i < length xs → length xs ≤ i + 1 → x ≡ get_or xs i x → shapes xs ≡ shapes (take i xs) ++ shape x ∷ []
shapes_split xs i x h k e =
    ap shapes (sym (take_all (i + 1) xs k)) ∙ shapes_last xs i x h e

-- a branch, by what was emitted for it
pub with_branch_is : (x : Re) (next entry : ℕ) (states made after : List State) (first number : ℕ) → emitted x states next ≡ (made, first)
    → after ≡ push made (Split first entry) → number ≡ length made → with_branch x next (states, entry) ≡ (after, number)
unfolding with_branch
with_branch_is x next entry states made after first number e s n =
    ap (λ (m : List State × ℕ). let r : List State × ℕ = (push m.0 (Split m.1 entry), length m.0) in r) e
    ∙ ap₂ (λ (a : List State) (b : ℕ). let r : List State × ℕ = (a, b) in r) (sym s) (sym n)

pub with_branch_is_both : (x : Re) (same moved one two : ℕ) (states made after : List State) (a b p q : ℕ) → emitted_both x states same moved ≡ (made, a, b)
    → after ≡ push (push made (Split a one)) (Split b two) → p ≡ length made → q ≡ length (push made (Split a one))
    → with_branch_both x same moved (states, one, two) ≡ (after, p, q)
unfolding with_branch_both
with_branch_is_both x same moved one two states made after a b p q e s n k =
    ap (λ (m : List State × ℕ × ℕ). let r : List State × ℕ × ℕ = (push (push m.0 (Split m.1 one)) (Split m.2 two), length m.0, length (push m.0 (Split m.1 one))) in r) e
    ∙ ap (λ (z : List State). let r : List State × ℕ × ℕ = (z, length made, length (push made (Split a one))) in r) (sym s)
    ∙ ap₂ (λ (y z : ℕ). let r : List State × ℕ × ℕ = (after, y, z) in r) (sym n) (sym k)
