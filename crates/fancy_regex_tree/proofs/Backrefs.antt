-- The set of groups that back references and conditions name.
use Rattle.std.proofs.Common.{◌≡◌, ℕ, ◌+◌, ◌<◌, Bool, true, false, cond, ◌&&◌, ◌||◌, ◌==◌, nat_lt, nat_le, ◌⊎◌, inl, inr, Option, Some, None, List, [], ◌∷◌, length, take, map, get_or, Less}
use Rattle.std.proofs.Common.{Equal, Greater, refl, ap, sym, ◌∙◌, arith}
use Rattle.std.specs.Ordering.{nat_cmp, is_eq}
use Rattle.std.specs.List.{list_any}
use Rattle.std.specs.Borrow.{Bor}
use Rattle.std.proofs.Math.Bool.{or-true, or-false}
use Rattle.std.proofs.lemmas.Bool.{le-ltb}
use Rattle.std.proofs.lemmas.Bool.Decides.{eqb_tells}
use Rattle.std.proofs.lemmas.List.Folds.{list_any-append}
use Rattle.fancy_regex_tree.specs.declared.expr.Expr.{Expr}
use Rattle.fancy_regex_tree.specs.Tree.{Tree, backref, backref_with_level, backref_exists}
use Rattle.fancy_regex_tree.specs.Traversal.{tree_at}
use Rattle.fancy_regex_tree.specs.ReferenceSummary.{refers_to, back_group, up_to_total}
use Rattle.fancy_regex_tree.proofs.GroupNames.{map_next}

not_equal : (b : Bool) → is_eq (cond b Less (cond false Equal Greater)) ≡ false
not_equal true = refl
not_equal false = refl

at_cases : (g k : ℕ) → ((g == k) ≡ true) × (g ≡ k) ⊎ ((g == k) ≡ false) × (g ≡ k → ⊥) → is_eq (nat_cmp g k) ≡ (g == k)
at_cases g k (inl h) = rw (le-ltb g k (omega (arith, h.1)), h.0) refl
at_cases g k (inr h) = rw h.0 (not_equal (nat_lt g k))

abbrev refers : ℕ → Option ℕ → Bool
refers k None = false
refers k (Some g) = g == k

refers_is : (k : ℕ) (t : Tree) → refers_to k t ≡ refers k (back_group t)
refers_is k (backref g casei) = refl
refers_is k (backref_with_level g level casei) = refl
refers_is k (backref_exists g level) = refl
refers_is k _ = refl

module _ (total k g : ℕ) (any : Bool) where
  same_or_not : (m : ℕ) → nat_le m total ≡ true → m ≡ g → ((g == k) ≡ true) × (g ≡ k) ⊎ ((g == k) ≡ false) × (g ≡ k → ⊥)
      → cond (g == k) true (nat_le k total && any) ≡ (nat_le k total && (any || (m == k)))
  same_or_not m within e (inl h) =
      let here : nat_le k total ≡ true = sym (ap (λ n. nat_le n total) (e ∙ h.1)) ∙ within in
      let there : (m == k) ≡ true = ap (λ n. n == k) e ∙ h.0 in
      rw (h.0, here, there) (sym (or-true any))
  same_or_not m within e (inr h) =
      let there : (m == k) ≡ false = ap (λ n. n == k) e ∙ h.0 in
      rw (h.0, there) (ap (λ b. nat_le k total && b) (sym (or-false any)))

  within_or_not : (m : ℕ) (b : Bool) → nat_le m total ≡ b → cond b (Some m) None ≡ Some g → cond (g == k) true (nat_le k total && any) ≡ (nat_le k total && (any || (m == k)))
  within_or_not m true within h = let e : m ≡ g = cc in same_or_not m within e (eqb_tells g k)
  within_or_not m false within h = cc

  one_more : (o : Option ℕ) → Some g ≡ up_to_total total o → cond (g == k) true (nat_le k total && any) ≡ (nat_le k total && (any || refers k o))
  one_more None h = cc
  one_more (Some m) h = within_or_not m (nat_le m total) refl (sym h)

module _ (total k : ℕ) (any : Bool) where
  past_cases : (m : ℕ) → nat_le m total ≡ false → ((m == k) ≡ true) × (m ≡ k) ⊎ ((m == k) ≡ false) × (m ≡ k → ⊥) → (nat_le k total && any) ≡ (nat_le k total && (any || (m == k)))
  past_cases m outside (inl h) =
      let there : nat_le k total ≡ false = sym (ap (λ n. nat_le n total) h.1) ∙ outside in
      rw there refl
  past_cases m outside (inr h) = rw h.0 (ap (λ b. nat_le k total && b) (sym (or-false any)))

  past : (m : ℕ) (b : Bool) → nat_le m total ≡ b → cond b (Some m) None ≡ None → (nat_le k total && any) ≡ (nat_le k total && (any || (m == k)))
  past m true within h = cc
  past m false within h = past_cases m within (eqb_tells m k)

  none_more : (o : Option ℕ) → None ≡ up_to_total total o → (nat_le k total && any) ≡ (nat_le k total && (any || refers k o))
  none_more None h = ap (λ b. nat_le k total && b) (sym (or-false any))
  none_more (Some m) h = past m (nat_le m total) refl (sym h)

module _ (xs : List (Bor Expr)) (i : ℕ) (x : Bor Expr) (inside : i < length xs) (is : get_or xs i x ≡ x) (total k : ℕ) where
  following : (list_any (refers_to k) (map tree_at (take i xs)) || refers k (back_group (tree_at x))) ≡ list_any (refers_to k) (map tree_at (take (i + 1) xs))
  following =
      sym
      (ap (list_any (refers_to k)) (map_next tree_at xs i x x inside is)
      ∙ list_any-append (refers_to k) (map tree_at (take i xs)) (tree_at x ∷ [])
      ∙ ap (λ b. list_any (refers_to k) (map tree_at (take i xs)) || b) (or-false (refers_to k (tree_at x)) ∙ refers_is k (tree_at x)))

  pub backref_next : (g : ℕ) (old new : Bool) → Some g ≡ up_to_total total (back_group (tree_at x)) → old ≡ (nat_le k total && list_any (refers_to k) (map tree_at (take i xs)))
      → new ≡ cond (is_eq (nat_cmp g k)) true old → new ≡ (nat_le k total && list_any (refers_to k) (map tree_at (take (i + 1) xs)))
  backref_next g old new found h e =
      e
      ∙ ap (λ b. cond b true old) (at_cases g k (eqb_tells g k))
      ∙ ap (λ b. cond (g == k) true b) h
      ∙ one_more total k g (list_any (refers_to k) (map tree_at (take i xs))) (back_group (tree_at x)) found
      ∙ ap (λ b. nat_le k total && b) following

  pub no_backref_next : (old : Bool) → None ≡ up_to_total total (back_group (tree_at x)) → old ≡ (nat_le k total && list_any (refers_to k) (map tree_at (take i xs)))
      → old ≡ (nat_le k total && list_any (refers_to k) (map tree_at (take (i + 1) xs)))
  no_backref_next old found h =
      h
      ∙ none_more total k (list_any (refers_to k) (map tree_at (take i xs))) (back_group (tree_at x)) found
      ∙ ap (λ b. nat_le k total && b) following
