-- Which calls can end, found in iterations.
use Rattle.std.proofs.Common.{◌≡◌, ℕ, zero, suc, ◌+◌, ◌-◌, ◌<◌, ◌≤◌, ⊎_elim, Bool, true, false, not, ◌&&◌, List, [], ◌∷◌, ◌++◌}
use Rattle.std.proofs.Common.{Option, Some, None, map, length, get_or, replicate, Bor, refl, sym, ap, ◌∙◌, arith, ◌==◌, eq-eqb}
use Rattle.std.proofs.Math.Path.{fun_ext}
use Rattle.std.proofs.lemmas.Bool.{cases_lt}
use Rattle.fancy_regex_tree.specs.Tree.{Tree}
use Rattle.fancy_regex_tree.specs.declared.expr.Expr.{Expr}
use Rattle.fancy_regex_meaning.specs.Sizes.{target}
use Rattle.fancy_regex_meaning.specs.Termination.{can_end_with, ends_through, can_end}
use Rattle.fancy_regex_analysis.specs.TerminationFixpoint.{end_of_target, next_end, iterated_end, is_some_list}
use Rattle.fancy_regex_analysis.specs.TerminationFixpoint.{ends_in}
use Rattle.fancy_regex_info.specs.Views.{body_tree}
use Rattle.fancy_regex_info.proofs.TableLemmas.{body_at, no_body}

at_left : (xs : List Bool) (y : Bool) (k : ℕ) → k < length xs → ends_in (xs ++ y ∷ []) k ≡ ends_in xs k
at_left [] y k h = absurd (omega arith)
at_left (x ∷ xs) y zero h = refl
at_left (x ∷ xs) y (suc k) h = at_left xs y k (omega arith)

at_last : (xs : List Bool) (y : Bool) (k : ℕ) → k ≡ length xs → ends_in (xs ++ y ∷ []) k ≡ y
at_last [] y zero h = refl
at_last [] y (suc k) h = absurd (omega arith)
at_last (x ∷ xs) y zero h = absurd (omega arith)
at_last (x ∷ xs) y (suc k) h = at_last xs y k (omega arith)

at_none : (xs : List Bool) (k : ℕ) → length xs ≤ k → ends_in xs k ≡ true
at_none [] k h = refl
at_none (x ∷ xs) zero h = absurd (omega arith)
at_none (x ∷ xs) (suc k) h = at_none xs k (omega arith)

-- one mark more
pub ends_more : (gs : List (Bor Expr)) (call : ℕ → Bool) (xs ys : List Bool) (g : ℕ) (e : Bor Expr) (y : Bool) →
    length xs ≡ g → g < length gs → e ≡ get_or gs g e → ys ≡ xs ++ y ∷ [] → y ≡ can_end_with call (body_tree e) →
    ((k : ℕ) → k < g → ends_in xs k ≡ next_end (map body_tree gs) call k) →
    (k : ℕ) → k < g + 1 → ends_in ys k ≡ next_end (map body_tree gs) call k
ends_more gs call xs ys g e y long inside is made now before k lt =
    ap (λ zs. ends_in zs k) made
    ∙ ⊎_elim
    (λ (below : k < g). at_left xs y k (omega arith) ∙ before k below)
    (λ (above : g ≤ k).
    let here : g ≡ k = omega arith in
    at_last xs y k (omega arith) ∙ now
    ∙ sym (ap (end_of_target (can_end_with call)) (body_at gs g e inside is))
    ∙ ap (next_end (map body_tree gs) call) here)
    (cases_lt k g)

pub ends_all : (gs : List (Bor Expr)) (call : ℕ → Bool) (xs : List Bool) (g : ℕ) → length xs ≡ g → length gs ≤ g →
    ((k : ℕ) → k < g → ends_in xs k ≡ next_end (map body_tree gs) call k) →
    (k : ℕ) → ends_in xs k ≡ next_end (map body_tree gs) call k
ends_all gs call xs g long past before k =
    ⊎_elim
    (λ (below : k < g). before k below)
    (λ (above : g ≤ k).
    at_none xs k (omega arith) ∙ sym (ap (end_of_target (can_end_with call)) (no_body gs k (omega arith))))
    (cases_lt k g)

-- before the first iteration
pub first_end_iteration : (gs : List (Bor Expr)) (n : ℕ) → n ≡ length gs →
    (k : ℕ) → ends_in (replicate n false) k ≡ iterated_end (map body_tree gs) 0 k
unfolding iterated_end
first_end_iteration [] zero same k = refl
first_end_iteration [] (suc n) same k = absurd (omega arith)
first_end_iteration (g ∷ gs) zero same k = absurd (omega arith)
first_end_iteration (g ∷ gs) (suc n) same zero = refl
first_end_iteration (g ∷ gs) (suc n) same (suc k) = first_end_iteration gs n (omega arith) k

module _ (groups : List Tree) where
  abbrev S : ℕ → ℕ → Bool
  S = iterated_end groups

  iteration_is : (n k : ℕ) → S (suc n) k ≡ next_end groups (S n) k
  unfolding iterated_end
  iteration_is n k = refl

  -- an iteration that is made from the marks so far
  pub end_goes_on : (xs ys : List Bool) (n : ℕ) → ((k : ℕ) → ends_in xs k ≡ S n k) →
      ((k : ℕ) → ends_in ys k ≡ next_end groups (ends_in xs) k) → (k : ℕ) → ends_in ys k ≡ S (n + 1) k
  end_goes_on xs ys n before made k =
      let one : suc n ≡ n + 1 = omega arith in
      made k ∙ ap (λ c. next_end groups c k) (fun_ext before) ∙ sym (iteration_is n k) ∙ ap (λ m. S m k) one

  stays : (n : ℕ) → ((k : ℕ) → S (suc n) k ≡ S n k) → (d k : ℕ) → S (d + n) k ≡ S n k
  stays n still zero k = ap (λ m. S m k) (let e : 0 + n ≡ n = omega arith in e)
  stays n still (suc d) k =
      ap (λ m. S m k) (let e : suc d + n ≡ suc (d + n) = omega arith in e)
      ∙ iteration_is (d + n) k
      ∙ ap (λ c. next_end groups c k) (fun_ext (stays n still d))
      ∙ sym (iteration_is n k) ∙ still k

  -- An iteration that changes nothing is the last.
  pub end_is_last : (xs ys : List Bool) (n m : ℕ) → n ≤ m → ((k : ℕ) → ends_in xs k ≡ S n k) →
      ((k : ℕ) → ends_in ys k ≡ next_end groups (ends_in xs) k) → ys ≡ xs → (k : ℕ) → ends_in xs k ≡ S m k
  end_is_last xs ys n m le before made same k =
      let still : (j : ℕ) → S (suc n) j ≡ S n j =
      λ j. iteration_is n j ∙ ap (λ c. next_end groups c j) (sym (fun_ext before)) ∙ sym (made j) ∙ ap (λ zs. ends_in zs j) same ∙ before j in
      before k ∙ sym (stays n still (m - n) k) ∙ ap (λ j. S j k) (let e : m - n + n ≡ m = omega arith in e)

  none_is : (o : Option Tree) → (elim o as (λ x. Bool) [ None ↦ true | Some body ↦ false ]) ≡ end_of_target (λ body. false) o
  none_is None = refl
  none_is (Some body) = refl

  next_is : (n : ℕ) → ((t : Tree) → ends_through groups n t ≡ can_end_with (S n) t) → (o : Option Tree) →
      (elim o as (λ x. Bool) [ None ↦ true | Some body ↦ ends_through groups n body ]) ≡ end_of_target (can_end_with (S n)) o
  next_is n each None = refl
  next_is n each (Some body) = each body

  iterations_end : (n : ℕ) (t : Tree) → ends_through groups n t ≡ can_end_with (S n) t
  unfolding ends_through iterated_end
  iterations_end zero t = ap (λ c. can_end_with c t) (fun_ext (λ k. none_is (target groups k)))
  iterations_end (suc n) t = ap (λ c. can_end_with c t) (fun_ext (λ k. next_is n (iterations_end n) (target groups k)))

  pub settled_ends : (ends : List Bool) (m : ℕ) → m ≡ length groups → ((k : ℕ) → ends_in ends k ≡ S m k) →
      (t : Tree) → can_end_with (ends_in ends) t ≡ can_end groups t
  unfolding can_end
  settled_ends ends m is are t =
      ap (λ c. can_end_with c t) (fun_ext are) ∙ ap (λ n. can_end_with (S n) t) is ∙ sym (iterations_end (length groups) t)

long_trees : (gs : List (Bor Expr)) → length gs ≡ length (map body_tree gs)
long_trees [] = refl
long_trees (g ∷ gs) = ap suc (long_trees gs)

pub ends_known : (gs : List (Bor Expr)) (ends now : List Bool) (t : Tree) (b : Bool) → now ≡ ends →
    ((k : ℕ) → ends_in ends k ≡ iterated_end (map body_tree gs) (length gs) k) → b ≡ can_end_with (ends_in now) t → b ≡ can_end (map body_tree gs) t
ends_known gs ends now t b same are told =
    told ∙ ap (λ es. can_end_with (ends_in es) t) same ∙ settled_ends (map body_tree gs) ends (length gs) (long_trees gs) are t

pub end_clear : (a b d : Bool) → b ≡ d → b ≡ true → (a && not d) ≡ false
end_clear true b true is h = refl
end_clear true b false is h = cc
end_clear false b d is h = refl

pub end_refused : (a b d : Bool) → a ≡ true → b ≡ d → b ≡ false → ((a && not d) && true) ≡ true
end_refused true b false some is h = refl
end_refused true b true some is h = cc
end_refused false b d some is h = cc

pub some_call : (ks : List ℕ) (n : ℕ) (b : Bool) → b ≡ (n == 0) → b ≡ false → length ks ≡ n → is_some_list ks ≡ true
some_call [] n b is h long = let none : (n == 0) ≡ true = eq-eqb n 0 (sym long) in cc
some_call (k ∷ ks) n b is h long = refl
