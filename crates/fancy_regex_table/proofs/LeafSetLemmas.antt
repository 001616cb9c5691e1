-- A leaf that is asked is among those that match a character exactly if it does.
use Rattle.std.proofs.Common.{◌≡◌, ◌⊎◌, ℕ, Bool, true, false, ◌&&◌, ◌||◌, List, Option, Some, None, refl, sym, ap, ap₂, ◌∙◌, inl, inr, ⊎_elim, eq-eqb, eqb-true, true≢false}
use Rattle.std.specs.Prelude.{if◌then◌else◌}
use Rattle.std.proofs.lemmas.Bool.{and_parts}
use Rattle.regex_hir.specs.Text.{is_some_and}
use Rattle.fancy_regex_class.specs.declared.class.CharClassMatcher.{CharClassMatcher}
use Rattle.fancy_regex_states.specs.CharTests.{leaf_matches_char}
use Rattle.fancy_regex_states.specs.declared.atom.Leaf.{Leaf}
use Rattle.fancy_regex_states.specs.declared.atom.Leaf.TheVariants.{Any, Char, Folded, Class}
use Rattle.fancy_regex_table.specs.LeafSets.{same_bool, same_leaf, is_leaf, has_leaf, HasLeaf, if_matched, matching_set}
use Rattle.fancy_regex_table.specs.declared.leaf_set.LeafSet.{LeafSet}

bool_is : (b : Bool) → same_bool b b ≡ true
bool_is true = refl
bool_is false = refl

bools_are : (a b : Bool) → same_bool a b ≡ true → a ≡ b
bools_are true true e = refl
bools_are true false e = absurd (true≢false (sym e))
bools_are false true e = absurd (true≢false (sym e))
bools_are false false e = refl

leaf_is : (leaf : Leaf) → same_leaf leaf leaf ≡ true
leaf_is (Any newline crlf) = ap₂ ◌&&◌ (bool_is newline) (bool_is crlf)
leaf_is (Char c) = eq-eqb c c refl
leaf_is (Folded c) = eq-eqb c c refl
leaf_is (Class k) = eq-eqb k k refl

pub leaves_are : (one other : Leaf) → same_leaf one other ≡ true → one ≡ other
leaves_are (Any n c) (Any m d) e = let both = and_parts _ _ e in ap₂ Any (bools_are n m both.0) (bools_are c d both.1)
leaves_are (Char c) (Char d) e = ap Char (eqb-true c d e)
leaves_are (Folded c) (Folded d) e = ap Folded (eqb-true c d e)
leaves_are (Class k) (Class l) e = ap Class (eqb-true k l e)
leaves_are (Any n c) (Char d) e = absurd (true≢false (sym e))
leaves_are (Any n c) (Folded d) e = absurd (true≢false (sym e))
leaves_are (Any n c) (Class d) e = absurd (true≢false (sym e))
leaves_are (Char c) (Any m d) e = absurd (true≢false (sym e))
leaves_are (Char c) (Folded d) e = absurd (true≢false (sym e))
leaves_are (Char c) (Class d) e = absurd (true≢false (sym e))
leaves_are (Folded c) (Any m d) e = absurd (true≢false (sym e))
leaves_are (Folded c) (Char d) e = absurd (true≢false (sym e))
leaves_are (Folded c) (Class d) e = absurd (true≢false (sym e))
leaves_are (Class c) (Any m d) e = absurd (true≢false (sym e))
leaves_are (Class c) (Char d) e = absurd (true≢false (sym e))
leaves_are (Class c) (Folded d) e = absurd (true≢false (sym e))

module _ (unicode : Bool) (matchers : List CharClassMatcher) (c : Option ℕ) (leaf : Leaf) where
  abbrev matched : Bool
  matched = is_some_and c (leaf_matches_char unicode matchers leaf)

  -- a leaf of the set is this one and was kept only if it matches
  kept : (other : Leaf) (b d : Bool) → is_some_and c (leaf_matches_char unicode matchers other) ≡ b → same_leaf other leaf ≡ d
      → (is_leaf (if b then Some other else None) leaf ≡ true → matched ≡ true)
  kept other false d is same e = absurd (true≢false (sym e))
  kept other true d is same e = ap (λ (l : Leaf). is_some_and c (leaf_matches_char unicode matchers l)) (sym (leaves_are other leaf e)) ∙ is

  only_if : (o : Option Leaf) → is_leaf (if_matched unicode matchers o c) leaf ≡ true → matched ≡ true
  only_if None e = absurd (true≢false (sym e))
  only_if (Some other) e = kept other (is_some_and c (leaf_matches_char unicode matchers other)) (same_leaf other leaf) refl refl e

  if_it_is : (o : Option Leaf) → o ≡ Some leaf → matched ≡ true → is_leaf (if_matched unicode matchers o c) leaf ≡ true
  if_it_is o is e =
      ap (λ (p : Option Leaf). is_leaf (if_matched unicode matchers p c) leaf) is
      ∙ ap (λ (b : Bool). is_leaf (if b then Some leaf else None) leaf) e ∙ leaf_is leaf

  one_of : (a b d e : Bool) → (a ≡ true → matched ≡ true) → (b ≡ true → matched ≡ true) → (d ≡ true → matched ≡ true) → (e ≡ true → matched ≡ true)
      → (a || b || d || e) ≡ true → matched ≡ true
  one_of true b d e f g h k is = f refl
  one_of false true d e f g h k is = g refl
  one_of false false true e f g h k is = h refl
  one_of false false false true f g h k is = k refl
  one_of false false false false f g h k is = absurd (true≢false (sym is))

  some_of : (a b d e : Bool) → (a ≡ true) ⊎ (b ≡ true) ⊎ (d ≡ true) ⊎ (e ≡ true) → (a || b || d || e) ≡ true
  some_of true b d e h = refl
  some_of false true d e h = refl
  some_of false false true e h = refl
  some_of false false false true h = refl
  some_of false false false false h = absurd (⊎_elim (λ e. true≢false (sym e)) (⊎_elim (λ e. true≢false (sym e)) (⊎_elim (λ e. true≢false (sym e)) (λ e. true≢false (sym e)))) h)

  same_truth : (a b : Bool) → (a ≡ true → b ≡ true) → (b ≡ true → a ≡ true) → a ≡ b
  same_truth true true f g = refl
  same_truth true false f g = sym (f refl)
  same_truth false true f g = g refl
  same_truth false false f g = refl

  module _ (set : LeafSet) where
    abbrev answered : LeafSet
    answered = matching_set unicode matchers set c

    pub matched_in : HasLeaf set leaf → matched ≡ has_leaf answered leaf
    matched_in has =
        same_truth matched (has_leaf answered leaf)
        (λ yes. some_of (is_leaf answered.first leaf) (is_leaf answered.second leaf) (is_leaf answered.third leaf) (is_leaf answered.fourth leaf)
        (⊎_elim (λ is. inl (if_it_is set.first is yes))
        (⊎_elim (λ is. inr (inl (if_it_is set.second is yes)))
        (⊎_elim (λ is. inr (inr (inl (if_it_is set.third is yes)))) (λ is. inr (inr (inr (if_it_is set.fourth is yes)))))) has))
        (one_of (is_leaf answered.first leaf) (is_leaf answered.second leaf) (is_leaf answered.third leaf) (is_leaf answered.fourth leaf)
        (only_if set.first) (only_if set.second) (only_if set.third) (only_if set.fourth))
