-- The groups that a tree is said to name are those that it names.
use Rattle.std.proofs.Common.{◌≡◌, ℕ, ⊎_elim, Bool, true, false, not, nat_le, Option, Some, None, List, refl, ap, ◌∙◌, eqb-true, eq-eqb}
use Rattle.std.specs.BTreeSet.{BTreeSet, contains}
use Rattle.std.specs.List.{list_any, Contains}
use Rattle.std.specs.Ordering.{nat_cmp}
use Rattle.std.proofs.lemmas.Cmp.{nat_cmp_total}
use Rattle.std.proofs.lemmas.Map.Lookups.{exact_unsigned}
use Rattle.std.proofs.lemmas.Map.Views.{btree_set_contains_iff}
use Rattle.fancy_regex_tree.specs.ReferenceSummary.{refers_to, back_group}
use Rattle.fancy_regex_tree.specs.Tree.{Tree, backref, backref_with_level, backref_exists}
use Rattle.fancy_regex_tree.specs.Traversal.{nodes}
use Rattle.fancy_regex_analysis.specs.WellFormed.{is_unlisted_reference, is_named_in}
use Rattle.fancy_regex_analysis.proofs.AnyLemmas.{any_has, any_finds}
use Rattle.fancy_regex_analysis.proofs.AnalysisErrorLemmas.{and_left, and_right, both_true}
use Rattle.fancy_regex_info.proofs.ReachabilityLemmas.{settled}
use Rattle.fancy_regex_analysis.proofs.PartErrorLemmas.{either_is}

clash : (b : Bool) → b ≡ true → b ≡ false → ⊥
clash true h g = cc
clash false h g = cc

none_is : (b : Bool) → (b ≡ true → ⊥) → b ≡ false
none_is true h = absurd (h refl)
none_is false h = refl

pub not_true : (b : Bool) → not b ≡ true → b ≡ false
not_true true h = cc
not_true false h = refl

back_group_is : (k : ℕ) (u : Tree) → refers_to k u ≡ true → back_group u ≡ Some k
back_group_is k (backref g casei) h = ap Some (eqb-true g k h)
back_group_is k (backref_with_level g level casei) h = ap Some (eqb-true g k h)
back_group_is k (backref_exists g level) h = ap Some (eqb-true g k h)
back_group_is k u h = cc

refers_to_it : (k : ℕ) (u : Tree) → back_group u ≡ Some k → refers_to k u ≡ true
refers_to_it k (backref g casei) h = let same : g ≡ k = cc in eq-eqb g k same
refers_to_it k (backref_with_level g level casei) h = let same : g ≡ k = cc in eq-eqb g k same
refers_to_it k (backref_exists g level) h = let same : g ≡ k = cc in eq-eqb g k same
refers_to_it k u h = cc

left_out_group : (total : ℕ) (set : ℕ → Bool) (o : Option ℕ) → is_unlisted_reference total set o ≡ true →
    (k : ℕ) × (o ≡ Some k) × (nat_le k total ≡ true) × (set k ≡ false)
left_out_group total set None h = cc
left_out_group total set (Some k) h = (k, refl, and_left (nat_le k total) (not (set k)) h, not_true (set k) (and_right (nat_le k total) (not (set k)) h))

module _ (t : Tree) (total : ℕ) (set : ℕ → Bool) (keys : List ℕ) (has : (k : ℕ) → set k ≡ true → Contains keys k)
    (had : (k : ℕ) → Contains keys k → set k ≡ true) where
  abbrev LeftOut : Tree → Bool
  LeftOut u = is_unlisted_reference total set (back_group u)

  abbrev Other : ℕ → Bool
  Other k = not (is_named_in total t k)

  pub all_named : list_any LeftOut (nodes t) ≡ false → list_any Other keys ≡ false → (k : ℕ) → set k ≡ is_named_in total t k
  all_named none no_other k =
      settled (set k) (is_named_in total t k)
      (λ h. ⊎_elim (λ e. e) (λ e. absurd (clash (list_any Other keys) (any_has Other keys k (has k h) (ap not e)) no_other))
      (either_is (is_named_in total t k)))
      (λ h. ⊎_elim (λ e. e)
      (λ (e : set k ≡ false).
      let found = any_finds (refers_to k) (nodes t) (and_right (nat_le k total) (list_any (refers_to k) (nodes t)) h) in
      absurd (clash (list_any LeftOut (nodes t))
      (any_has LeftOut (nodes t) found.0 found.2
      (ap (is_unlisted_reference total set) (back_group_is k found.0 found.1)
      ∙ both_true (nat_le k total) (not (set k)) (and_left (nat_le k total) (list_any (refers_to k) (nodes t)) h) (ap not e)))
      none))
      (either_is (set k)))

  module _ (named : (k : ℕ) → set k ≡ is_named_in total t k) where
    pub none_left_out : list_any LeftOut (nodes t) ≡ false
    none_left_out = none_is (list_any LeftOut (nodes t)) (λ h.
        let found = any_finds LeftOut (nodes t) h in
        let out = left_out_group total set (back_group found.0) found.1 in
        clash (set out.0)
        (named out.0 ∙ both_true (nat_le out.0 total) (list_any (refers_to out.0) (nodes t)) out.2
        (any_has (refers_to out.0) (nodes t) found.0 found.2 (refers_to_it out.0 found.0 out.1)))
        out.3)

    pub no_other : list_any Other keys ≡ false
    no_other = none_is (list_any Other keys) (λ h.
        let found = any_finds Other keys h in
        clash (set found.0) (had found.0 found.2) (named found.0 ∙ not_true (is_named_in total t found.0) found.1))

-- the groups of a set are its keys
pub has_set : (s : BTreeSet ℕ) (k : ℕ) → contains nat_cmp s k ≡ true → Contains s.keys k
has_set s k h = (btree_set_contains_iff nat_cmp_total exact_unsigned s k).0 h

pub had_set : (s : BTreeSet ℕ) (k : ℕ) → Contains s.keys k → contains nat_cmp s k ≡ true
had_set s k h = (btree_set_contains_iff nat_cmp_total exact_unsigned s k).1 h
