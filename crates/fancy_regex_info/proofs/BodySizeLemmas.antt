-- What one walk over a tree finds of the bodies of its groups, and the sizes of calls that are made of it.
use Rattle.std.proofs.Common.{◌≡◌, ℕ, zero, suc, ◌+◌, ◌-◌, ◌<◌, ◌≤◌, ⊎_elim, Bool, true, false, List, [], ◌∷◌, ◌++◌, Option, Some, None, map, length, drop, get_or, true≢false, Vec, Global, Result, Ok, Err, IfOk, refl, sym, ap, ap₂, ◌∙◌, arith, append_assoc, append-nil}
use Rattle.std.specs.Prelude.{slice_get}
use Rattle.std.specs.declared.alloc.AllocError.{AllocError}
use Rattle.std.proofs.lemmas.Bool.{cases_lt}
use Rattle.std.proofs.lemmas.List.{map-append}
use Rattle.fancy_regex_tree.specs.Tree.{Tree, Trees, tree_of, trees, concat, alt, group, look_around, repeat, atomic_group, conditional, absent_repeater, absent_expression, absent_stopper, define_group, ast_group, no_trees, more_trees}
use Rattle.fancy_regex_tree.specs.declared.expr.Expr.{Expr}
use Rattle.fancy_regex_meaning.specs.Groups.{bodies, row_bodies}
use Rattle.fancy_regex_meaning.specs.Sizes.{Size, any_size, size_with, target}
use Rattle.fancy_regex_info.specs.SizeFixpoint.{next_size, size_when, size_of_target}
use Rattle.fancy_regex_info.specs.AnalysisRelations.{mark_at}
use Rattle.fancy_regex_info.specs.BodySizes.{body_sizes, row_body_sizes, from_last, called}
use Rattle.fancy_regex_info.specs.Views.{size_of, size_at, pattern_in}
use Rattle.fancy_regex_info.specs.declared.size.Size as code
use Rattle.fancy_regex_info.proofs.RowLemmas.{one_before, at_end}

-- one size more
pub from_last_more : (xs : List code.Size) (y : code.Size) → from_last (xs ++ y ∷ []) ≡ size_of y ∷ from_last xs
from_last_more [] y = refl
from_last_more (x ∷ xs) y = ap (λ zs. zs ++ size_of x ∷ []) (from_last_more xs y)

-- that of a group, after those of the groups in it
pub group_found : (call : ℕ → Size) (t : Tree) (rest : List Size) (xs ys : List code.Size) (y : code.Size) → from_last xs ≡ body_sizes call t rest
    → size_of y ≡ size_with call t → ys ≡ xs ++ y ∷ [] → from_last ys ≡ body_sizes call (group t) rest
unfolding body_sizes
group_found call t rest xs ys y is one made = ap from_last made ∙ from_last_more xs y ∙ ap₂ (λ s zs. s ∷ zs) one is

-- Rows that are walked from their end: what is found of the trees so far.
module _ (call : ℕ → Size) (rest : List Size) where
  abbrev row : List Expr → List Size
  row xs = row_body_sizes call (trees (map tree_of xs)) rest

  row_of_none : row [] ≡ rest
  unfolding body_sizes row_body_sizes
  row_of_none = refl

  row_of_more : (x : Expr) (xs : List Expr) → row (x ∷ xs) ≡ body_sizes call (tree_of x) (row xs)
  unfolding body_sizes row_body_sizes
  row_of_more x xs = refl

  pub none_found : (xs : List Expr) → rest ≡ row (drop (length xs) xs)
  none_found xs = sym (at_end row xs ∙ row_of_none)

  pub one_more_found : (xs : List Expr) (i : ℕ) (x : Expr) (now next : List Size) → 0 < i → i ≤ length xs → x ≡ get_or xs (i - 1) x →
      now ≡ row (drop i xs) → next ≡ body_sizes call (tree_of x) now → next ≡ row (drop (i - 1) xs)
  one_more_found xs i x now next some inside is was made =
      made ∙ ap (body_sizes call (tree_of x)) was ∙ sym (one_before row xs i x some inside is ∙ row_of_more x (drop i xs))

  pub last_found : (xs : List Expr) (x : Expr) (next : List Size) → 0 < length xs → x ≡ get_or xs (length xs - 1) x →
      next ≡ body_sizes call (tree_of x) rest → next ≡ row (drop (length xs - 1) xs)
  last_found xs x next some is made = one_more_found xs (length xs) x rest next some (let e : length xs ≤ length xs = omega arith in e) is (none_found xs) made

-- They are the sizes of the bodies.
module _ (call : ℕ → Size) where
  abbrev of : List Tree → List Size
  of = map (size_with call)

  both_found : (xs ys : List Tree) (rest : List Size) → of xs ++ (of ys ++ rest) ≡ of (xs ++ ys) ++ rest
  both_found xs ys rest = sym (ap (λ zs. zs ++ rest) (map-append (size_with call) xs ys) ∙ append_assoc (of xs) (of ys) rest)

  mutual
    unfolding body_sizes row_body_sizes bodies row_bodies

    pub found_are : (t : Tree) (rest : List Size) → body_sizes call t rest ≡ of (bodies t) ++ rest
    found_are (group t) rest = ap (λ zs. size_with call t ∷ zs) (found_are t rest)
    found_are (concat ts) rest = row_found_are ts rest
    found_are (alt ts) rest = row_found_are ts rest
    found_are (look_around t how) rest = found_are t rest
    found_are (repeat t lo hi greedy) rest = found_are t rest
    found_are (atomic_group t) rest = found_are t rest
    found_are (conditional c a b) rest =
        found_are c (body_sizes call a (body_sizes call b rest))
        ∙ ap (λ zs. of (bodies c) ++ zs) (found_are a (body_sizes call b rest) ∙ ap (λ zs. of (bodies a) ++ zs) (found_are b rest) ∙ both_found (bodies a) (bodies b) rest)
        ∙ both_found (bodies c) (bodies a ++ bodies b) rest
    found_are (absent_repeater t) rest = found_are t rest
    found_are (absent_expression a t) rest =
        found_are a (body_sizes call t rest) ∙ ap (λ zs. of (bodies a) ++ zs) (found_are t rest) ∙ both_found (bodies a) (bodies t) rest
    found_are (absent_stopper t) rest = found_are t rest
    found_are (define_group t) rest = found_are t rest
    found_are (ast_group name t position) rest = found_are t rest
    found_are t rest = refl

    row_found_are : (ts : Trees) (rest : List Size) → row_body_sizes call ts rest ≡ of (row_bodies ts) ++ rest
    row_found_are no_trees rest = refl
    row_found_are (more_trees t ts) rest =
        found_are t (row_body_sizes call ts rest) ∙ ap (λ zs. of (bodies t) ++ zs) (row_found_are ts rest) ∙ both_found (bodies t) (row_bodies ts) rest

  -- those of all groups, where group 0 is the whole or is not
  pub explicit_found : (explicit : Bool) (t : Tree) (xs : List code.Size) → explicit ≡ true → from_last xs ≡ body_sizes call t []
      → from_last xs ≡ of (pattern_in explicit t).groups
  explicit_found true t xs own is = is ∙ found_are t [] ∙ append-nil (of (bodies t))
  explicit_found false t xs own is = absurd (true≢false (sym own))

  pub whole_found : (explicit : Bool) (t : Tree) (xs ys : List code.Size) (whole : code.Size) → explicit ≡ false → from_last xs ≡ body_sizes call t []
      → size_of whole ≡ size_with call t → ys ≡ xs ++ whole ∷ [] → from_last ys ≡ of (pattern_in explicit t).groups
  whole_found true t xs ys whole own is all made = absurd (true≢false own)
  whole_found false t xs ys whole own is all made =
      ap from_last made ∙ from_last_more xs whole ∙ ap₂ (λ s zs. s ∷ zs) all (is ∙ found_are t [] ∙ append-nil (of (bodies t)))

  called_is : (recursive : Bool) (o : Option Tree) → called recursive (elim o as (λ x. Option Size) [ None ↦ None | Some body ↦ Some (size_with call body) ])
      ≡ size_of_target (λ body. size_when recursive (size_with call body)) o
  called_is recursive None = refl
  called_is recursive (Some body) = refl

  found_at : (ts : List Tree) (k : ℕ) → slice_get (of ts) k ≡ (elim (target ts k) as (λ x. Option Size) [ None ↦ None | Some body ↦ Some (size_with call body) ])
  found_at [] k = refl
  found_at (t ∷ ts) zero = refl
  found_at (t ∷ ts) (suc k) = found_at ts k

  -- calls of these bodies
  pub next_is : (ts : List Tree) (recursive : List Bool) (found : List Size) (k : ℕ) → found ≡ of ts
      → called (mark_at recursive k) (slice_get found k) ≡ next_size ts recursive call k
  next_is ts recursive found k is =
      ap (λ xs. called (mark_at recursive k) (slice_get xs k)) is
      ∙ ap (called (mark_at recursive k)) (found_at ts k)
      ∙ called_is (mark_at recursive k) (target ts k)

  -- and where there is an error besides
  pub next_of : (ts : List Tree) (recursive : List Bool) (found : List Size) (r : Result (Vec code.Size Global) AllocError) → found ≡ of ts
      → IfOk r (λ sizes. (k : ℕ) → size_at sizes.items k ≡ called (mark_at recursive k) (slice_get found k))
      → IfOk r (λ sizes. (k : ℕ) → size_at sizes.items k ≡ next_size ts recursive call k)
  next_of ts recursive found (Err e) is h = tt
  next_of ts recursive found (Ok sizes) is h = λ k. h k ∙ next_is ts recursive found k is

-- Sizes of calls, one by one, of bodies that are listed from the last on.
get_left : (xs : List Size) (y : Size) (k : ℕ) → k < length xs → slice_get (xs ++ y ∷ []) k ≡ slice_get xs k
get_left [] y k h = absurd (omega arith)
get_left (x ∷ xs) y zero h = refl
get_left (x ∷ xs) y (suc k) h = get_left xs y k (omega arith)

get_last : (xs : List Size) (y : Size) (k : ℕ) → k ≡ length xs → slice_get (xs ++ y ∷ []) k ≡ Some y
get_last [] y zero h = refl
get_last [] y (suc k) h = absurd (omega arith)
get_last (x ∷ xs) y zero h = absurd (omega arith)
get_last (x ∷ xs) y (suc k) h = get_last xs y k (omega arith)

get_none : (xs : List Size) (k : ℕ) → length xs ≤ k → slice_get xs k ≡ None
get_none [] k h = refl
get_none (x ∷ xs) zero h = absurd (omega arith)
get_none (x ∷ xs) (suc k) h = get_none xs k (omega arith)

as_long : (xs : List code.Size) → length (from_last xs) ≡ length xs
as_long [] = refl
as_long (x ∷ xs) = longer (from_last xs) (size_of x) ∙ ap suc (as_long xs)
  where
    longer : (ys : List Size) (y : Size) → length (ys ++ y ∷ []) ≡ suc (length ys)
    longer [] y = refl
    longer (z ∷ ys) y = ap suc (longer ys y)

body_from_last : (xs : List code.Size) (k j : ℕ) → k < length xs → j + k + 1 ≡ length xs → slice_get (from_last xs) k ≡ Some (size_at xs j)
body_from_last [] k j inside from = absurd (omega arith)
body_from_last (x ∷ xs) k zero inside from = get_last (from_last xs) (size_of x) k (omega (arith, from, as_long xs))
body_from_last (x ∷ xs) k (suc j) inside from =
    get_left (from_last xs) (size_of x) k (omega (arith, from, as_long xs)) ∙ body_from_last xs k j (omega (arith, from)) (omega (arith, from))

-- one call more
pub calls_more : (bodies sizes next : List code.Size) (recursive : List Bool) (g j : ℕ) (body : Size) (y : code.Size) → length sizes ≡ g
    → g < length bodies → j + g + 1 ≡ length bodies → body ≡ size_at bodies j → size_of y ≡ size_when (mark_at recursive g) body
    → next ≡ sizes ++ y ∷ []
    → ((k : ℕ) → k < g → size_at sizes k ≡ called (mark_at recursive k) (slice_get (from_last bodies) k))
    → (k : ℕ) → k < g + 1 → size_at next k ≡ called (mark_at recursive k) (slice_get (from_last bodies) k)
calls_more bodies sizes next recursive g j body y long inside from is now made before k lt =
    ap (λ zs. size_at zs k) made
    ∙ ⊎_elim
    (λ (below : k < g). at_left sizes y k (omega arith) ∙ before k below)
    (λ (above : g ≤ k).
    let here : g ≡ k = omega arith in
    at_last sizes y k (omega arith) ∙ now ∙ ap (size_when (mark_at recursive g)) is
    ∙ ap (called (mark_at recursive g)) (sym (body_from_last bodies g j inside from))
    ∙ ap (λ n. called (mark_at recursive n) (slice_get (from_last bodies) n)) here)
    (cases_lt k g)
  where
    at_left : (xs : List code.Size) (y : code.Size) (k : ℕ) → k < length xs → size_at (xs ++ y ∷ []) k ≡ size_at xs k
    at_left [] y k h = absurd (omega arith)
    at_left (x ∷ xs) y zero h = refl
    at_left (x ∷ xs) y (suc k) h = at_left xs y k (omega arith)

    at_last : (xs : List code.Size) (y : code.Size) (k : ℕ) → k ≡ length xs → size_at (xs ++ y ∷ []) k ≡ size_of y
    at_last [] y zero h = refl
    at_last [] y (suc k) h = absurd (omega arith)
    at_last (x ∷ xs) y zero h = absurd (omega arith)
    at_last (x ∷ xs) y (suc k) h = at_last xs y k (omega arith)

-- and all
pub calls_all : (bodies sizes : List code.Size) (recursive : List Bool) (g : ℕ) → length sizes ≡ g → length bodies ≤ g
    → ((k : ℕ) → k < g → size_at sizes k ≡ called (mark_at recursive k) (slice_get (from_last bodies) k))
    → (k : ℕ) → size_at sizes k ≡ called (mark_at recursive k) (slice_get (from_last bodies) k)
calls_all bodies sizes recursive g long past before k =
    ⊎_elim
    (λ (below : k < g). before k below)
    (λ (above : g ≤ k).
    at_none sizes k (omega arith)
    ∙ sym (ap (called (mark_at recursive k)) (get_none (from_last bodies) k (omega (arith, as_long bodies)))))
    (cases_lt k g)
  where
    at_none : (xs : List code.Size) (k : ℕ) → length xs ≤ k → size_at xs k ≡ any_size
    at_none [] k h = refl
    at_none (x ∷ xs) zero h = absurd (omega arith)
    at_none (x ∷ xs) (suc k) h = at_none xs k (omega arith)
