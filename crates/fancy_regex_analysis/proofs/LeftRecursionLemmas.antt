-- Calls at the start of a part, through calls too.
use Rattle.std.proofs.Common.{◌≡◌, ℕ, zero, suc, ◌+◌, ◌<◌, ◌≤◌, ⊎_elim, Bool, true, false, ◌==◌, List, [], ◌∷◌, ◌++◌, Option, Some, None, map, length, drop, get_or}
use Rattle.std.proofs.Common.{refl, sym, ap, subst, ◌∙◌, arith, append_assoc, eq-eqb, eqb-true, Vec, Global}
use Rattle.std.proofs.lemmas.Bool.{cases_lt}
use Rattle.std.proofs.lemmas.List.{append-nil, at_drop_more}
use Rattle.std.proofs.Math.ListN.{drop_of_length-le}
use Rattle.std.specs.Prelude.{slice_get}
use Rattle.fancy_regex_tree.specs.Tree.{Tree, tree_of, trees}
use Rattle.fancy_regex_tree.specs.declared.expr.Expr.{Expr}
use Rattle.fancy_regex_meaning.specs.Sizes.{Size, size, target}
use Rattle.fancy_regex_info.specs.Reachability.{rows, has, following, through}
use Rattle.fancy_regex_info.specs.SizeFixpoint.{is_on_cycle}
use Rattle.fancy_regex_analysis.specs.LeftRecursion.{where_so, first_calls, first_calls_in_row, BeginsWithCall, at_once, through_call, IsLeftRecursive}
use Rattle.fancy_regex_info.specs.AnalysisRelations.{mark_at}
use Rattle.fancy_regex_info.proofs.ReachabilityLemmas.{has_either, flat_from, length_rows}
use Rattle.fancy_regex_info.proofs.TableLemmas.{reads_at}
use Rattle.fancy_regex_analysis.proofs.PartErrorLemmas.{either_is}
use Rattle.fancy_regex_analysis.proofs.ReachabilityLemmas.{starts_reached, follows_reached}

-- lists that belong to the bodies of groups
module _ (f : Tree → List ℕ) where
  abbrev or_list : Option Tree → List ℕ
  or_list None = []
  or_list (Some body) = f body

  pub follow_is : (ts : List Tree) (k : ℕ) → following (map f ts) k ≡ or_list (slice_get ts k)
  follow_is [] k = refl
  follow_is (t ∷ ts) zero = refl
  follow_is (t ∷ ts) (suc k) = follow_is ts k

  pub long_lists : (ts : List Tree) → length (map f ts) ≡ length ts
  long_lists [] = refl
  long_lists (t ∷ ts) = ap suc (long_lists ts)

pub none_reached : (edges : List (List ℕ)) (n k : ℕ) → has (through edges n []) k ≡ true → ⊥
unfolding through
none_reached edges zero k h = cc
none_reached edges (suc n) k h = cc

pub target_inside : (ts : List Tree) (k : ℕ) (body : Tree) → slice_get ts k ≡ Some body → k < length ts
target_inside [] k body is = cc
target_inside (t ∷ ts) zero body is = omega arith
target_inside (t ∷ ts) (suc k) body is = omega (arith, target_inside ts k body is)

module _ (groups : List Tree) where
  abbrev F : Tree → List ℕ
  F = first_calls (size groups)

  abbrev E : List (List ℕ)
  E = map F groups

  begins_later : (n : ℕ) → ((t : Tree) (j : ℕ) → has (through E n (F t)) j ≡ true → BeginsWithCall groups t j) →
      (t : Tree) (i j : ℕ) (o : Option Tree) → target groups i ≡ o → has (F t) i ≡ true →
      has (through E n (or_list F o)) j ≡ true → BeginsWithCall groups t j
  begins_later n each t i j None is here h = absurd (none_reached E n j h)
  begins_later n each t i j (Some body) is here h = through_call t body i j here is (each body j h)

  begins_from : (n : ℕ) (t : Tree) (j : ℕ) → has (through E n (F t)) j ≡ true → BeginsWithCall groups t j
  unfolding through
  begins_from zero t j h = at_once t j h
  begins_from (suc n) t j h =
      ⊎_elim (λ e. at_once t j e)
      (λ e. let way = flat_from (λ k. through E n (following E k)) (F t) j e in
      begins_later n (begins_from n) t way.0 j (target groups way.0) refl way.1
      (subst (λ s. has (through E n s) j ≡ true) (follow_is F groups way.0) way.2))
      (has_either (F t) _ j h)

  -- what is reached from some start has all that its bodies begin with
  begins_inside : (s : List ℕ) (t : Tree) (j : ℕ) → BeginsWithCall groups t j →
      ((i : ℕ) → has (F t) i ≡ true → i < length E → has (through E (length E) s) i ≡ true) →
      j < length E → has (through E (length E) s) j ≡ true
  begins_inside s x y (at_once t j here) inside below = inside j here below
  begins_inside s x y (through_call t body i j here is rest) inside below =
      let low : i < length E = omega (arith, target_inside groups i body is, long_lists F groups) in
      begins_inside s body j rest
      (λ m next lt. follows_reached E s i m (inside i here low) low
      (subst (λ ks. has ks m ≡ true) (sym (follow_is F groups i ∙ ap (or_list F) is)) next) lt)
      below

  left_recursive_at : (k : ℕ) (o : Option Tree) → target groups k ≡ o → has (through E (length E) (or_list F o)) k ≡ true →
      IsLeftRecursive groups k
  left_recursive_at k None is h = absurd (none_reached E (length E) k h)
  left_recursive_at k (Some body) is h = (body, is, begins_from (length E) body k h)

  -- A group that is reached again by first calls is left recursive, and no other.
  pub left_recursive : (k : ℕ) → is_on_cycle E k ≡ true → IsLeftRecursive groups k
  left_recursive k h =
      left_recursive_at k (target groups k) refl
      (subst (λ s. has (through E (length E) s) k ≡ true) (follow_is F groups k) h)

  pub reached_again : (k : ℕ) → IsLeftRecursive groups k → is_on_cycle E k ≡ true
  reached_again k left =
      let body : Tree = left.0 in
      let low : k < length E = omega (arith, target_inside groups k body left.1, long_lists F groups) in
      subst (λ s. has (through E (length E) s) k ≡ true) (sym (follow_is F groups k ∙ ap (or_list F) left.1))
      (begins_inside (F body) body k left.2 (λ i here lt. starts_reached E (F body) (length E) i here) low)

-- Rows that are walked from the front.
module _ (S : Tree → Size) where
  abbrev firsts : Expr → List ℕ
  firsts x = first_calls S (tree_of x)

  abbrev row_firsts : List Expr → List ℕ
  row_firsts xs = first_calls_in_row S (trees (map tree_of xs))

  no_part : row_firsts [] ≡ []
  unfolding first_calls first_calls_in_row
  no_part = refl

  more_parts : (x : Expr) (xs : List Expr) → row_firsts (x ∷ xs) ≡ firsts x ++ where_so ((S (tree_of x)).least == 0) (row_firsts xs)
  unfolding first_calls first_calls_in_row
  more_parts x xs = refl

  at_part : (xs : List Expr) (i : ℕ) (x : Expr) → i < length xs → x ≡ get_or xs i x →
      row_firsts (drop i xs) ≡ firsts x ++ where_so ((S (tree_of x)).least == 0) (row_firsts (drop (i + 1) xs))
  at_part xs i x inside is =
      at_drop_more row_firsts xs i x inside ∙ more_parts (get_or xs i x) (drop (i + 1) xs)
      ∙ ap (λ y. firsts y ++ where_so ((S (tree_of y)).least == 0) (row_firsts (drop (i + 1) xs))) (sym is)

  pub row_goes_past : (all now next : List ℕ) (xs : List Expr) (i : ℕ) (x : Expr) → i < length xs → x ≡ get_or xs i x →
      now ++ row_firsts (drop i xs) ≡ all → next ≡ now ++ firsts x → ((S (tree_of x)).least == 0) ≡ true →
      next ++ row_firsts (drop (i + 1) xs) ≡ all
  row_goes_past all now next xs i x inside is before step empty =
      ap (λ ys. ys ++ row_firsts (drop (i + 1) xs)) step ∙ append_assoc now (firsts x) (row_firsts (drop (i + 1) xs))
      ∙ sym (ap (λ ys. now ++ ys) (at_part xs i x inside is ∙ ap (λ b. firsts x ++ where_so b (row_firsts (drop (i + 1) xs))) empty))
      ∙ before

  pub row_stops : (all now next : List ℕ) (xs : List Expr) (i : ℕ) (x : Expr) → i < length xs → x ≡ get_or xs i x →
      now ++ row_firsts (drop i xs) ≡ all → next ≡ now ++ firsts x → ((S (tree_of x)).least == 0) ≡ false → next ≡ all
  row_stops all now next xs i x inside is before step some =
      step ∙ sym (ap (λ ys. now ++ ys) (at_part xs i x inside is ∙ ap (λ b. firsts x ++ where_so b (row_firsts (drop (i + 1) xs))) some
      ∙ append-nil (firsts x)))
      ∙ before

  pub row_is_over : (all now : List ℕ) (xs : List Expr) (i : ℕ) → length xs ≤ i → now ++ row_firsts (drop i xs) ≡ all → now ≡ all
  row_is_over all now xs i past before =
      sym (append-nil now) ∙ sym (ap (λ ys. now ++ ys) (ap row_firsts (drop_of_length-le xs past) ∙ no_part)) ∙ before

pub is_zero : (n : ℕ) → n ≤ 0 → (n == 0) ≡ true
is_zero n h = eq-eqb n 0 (omega arith)

pub not_zero : (n : ℕ) → 0 < n → (n == 0) ≡ false
not_zero n h = ⊎_elim (λ e. let none : n ≡ 0 = eqb-true n 0 e in absurd (omega arith)) (λ e. e) (either_is (n == 0))

past_marks : (bs : List Bool) (k : ℕ) → length bs ≤ k → get_or bs k false ≡ false
past_marks [] k h = refl
past_marks (b ∷ bs) zero h = absurd (omega arith)
past_marks (b ∷ bs) (suc k) h = past_marks bs k (omega arith)

-- a group that is marked, and one that is not
pub marked_again : (calls now : List (Vec ℕ Global)) (marks seen : List Bool) (es : List (List ℕ)) (k : ℕ) → now ≡ calls → rows calls ≡ es →
    length marks ≡ length now → seen ≡ marks →
    ((j : ℕ) → j < length now → get_or marks j false ≡ is_on_cycle (rows now) j) → mark_at seen k ≡ true → is_on_cycle es k ≡ true
marked_again calls now marks seen es k same are long shown all h =
    let here : get_or marks k false ≡ true = sym (ap (λ bs. get_or bs k false) shown) ∙ sym (reads_at seen k) ∙ h in
    ⊎_elim
    (λ (low : k < length now). sym (ap (λ vs. is_on_cycle (rows vs) k) same ∙ ap (λ e. is_on_cycle e k) are) ∙ sym (all k low) ∙ here)
    (λ (high : length now ≤ k). let none = past_marks marks k (omega arith) in cc)
    (cases_lt k (length now))

pub unmarked_never : (calls now : List (Vec ℕ Global)) (marks seen : List Bool) (es : List (List ℕ)) (k : ℕ) → now ≡ calls → rows calls ≡ es →
    seen ≡ marks → ((j : ℕ) → j < length now → get_or marks j false ≡ is_on_cycle (rows now) j) → k < length es →
    mark_at seen k ≡ false → is_on_cycle es k ≡ false
unmarked_never calls now marks seen es k same are shown all low h =
    let inside : k < length now = omega (arith, length_rows now, ap length (ap rows same ∙ are)) in
    sym (ap (λ vs. is_on_cycle (rows vs) k) same ∙ ap (λ e. is_on_cycle e k) are) ∙ sym (all k inside)
    ∙ sym (ap (λ bs. get_or bs k false) shown) ∙ sym (reads_at seen k) ∙ h
