-- The names of groups, from a map of the numbers of each name.
use Rattle.std.proofs.Common.{◌≡◌, ℕ, zero, suc, ◌+◌, Bool, true, false, ◌||◌, nat_eq, cond, Option, Some, None, List, [], ◌∷◌, ◌++◌, refl, sym, ap, ◌∙◌, true≢false, arith, chars, IsUtf8, String, Vec, Global}
use Rattle.std.specs.Prelude.{slice_get, IfSome}
use Rattle.std.specs.List.{All, list_any}
use Rattle.std.specs.Str.{all_scalars, encode_utf8_all}
use Rattle.std.specs.Option.{option_map_or}
use Rattle.std.specs.BTreeMap.{BTreeMap, get_by_text}
use Rattle.std.proofs.lemmas.Str.{chars-encodes, scalars-chars}
use Rattle.std.proofs.lemmas.Bool.{eqb-true, eq-eqb}
use Rattle.std.proofs.lemmas.Slice.Eq.{bytes_eq-Decides}
use Rattle.std.proofs.lemmas.Map.Entries.{All-lookup}
use Rattle.fancy_regex_tree.specs.Tree.{Text}
use Rattle.fancy_regex_tree.specs.Numbering.{Names, numbers_of, numbers_under, same_text}
use Rattle.fancy_regex_meta.specs.GroupNames.{AreGroupNumbersOf, valid_name, name_at}

-- the number is among these
abbrev pub has : ℕ → List ℕ → Bool
has k xs = list_any (λ x. nat_eq x k) xs

-- where a number of a name stands, the name stands
pub record Stands (names : Names) (n k : ℕ) (name : Text) : Type 0 where
  pub index : ℕ
  pub place : k ≡ n + suc index
  pub there : slice_get names index ≡ Some (Some name)

following : (o : Option Text) (names : Names) (n k : ℕ) (name : Text) → Stands names (suc n) k name → Stands (o ∷ names) n k name
following o names n k name s = record { index = suc s.index; place = omega (arith, s.place); there = s.there }

other_of : (a b : Bool) → (a || b) ≡ true → a ≡ false → b ≡ true
other_of true b e f = absurd (true≢false f)
other_of false b e f = e

-- the first of these names has a name
named_first : (name other : Text) (names : Names) (n k : ℕ) (b c : Bool) → same_text other name ≡ b → nat_eq (suc n) k ≡ c →
    (has k (numbers_of name (suc n) names) ≡ true → Stands names (suc n) k name) →
    has k (cond b (suc n ∷ []) [] ++ numbers_of name (suc n) names) ≡ true → Stands (Some other ∷ names) n k name
named_first name other names n k true true e f rest h =
    let here : suc n ≡ k = eqb-true (suc n) k f in
    record { index = 0; place = omega arith; there = ap (λ x. Some (Some x)) ((bytes_eq-Decides other name).0 e) }
named_first name other names n k true false e f rest h = following (Some other) names n k name (rest (other_of (nat_eq (suc n) k) (has k (numbers_of name (suc n) names)) h f))
named_first name other names n k false c e f rest h = following (Some other) names n k name (rest h)

pub stands : (name : Text) (n : ℕ) (names : Names) (k : ℕ) → has k (numbers_of name n names) ≡ true → Stands names n k name
unfolding numbers_of
stands name n [] k h = absurd (true≢false (sym h))
stands name n (None ∷ names) k h = following None names n k name (stands name (suc n) names k h)
stands name n (Some other ∷ names) k h =
    named_first name other names n k (same_text other name) (nat_eq (suc n) k) refl refl (stands name (suc n) names k) h

-- one of two rows has it
has_after : (k : ℕ) (xs ys : List ℕ) → has k ys ≡ true → has k (xs ++ ys) ≡ true
has_after k [] ys h = h
has_after k (x ∷ xs) ys h = ap (λ b. nat_eq x k || b) (has_after k xs ys h) ∙ or_true (nat_eq x k) where
  or_true : (b : Bool) → (b || true) ≡ true
  or_true true = refl
  or_true false = refl

-- where a name stands, its number is among those of the name
pub is_among : (name : Text) (n : ℕ) (names : Names) (index : ℕ) → slice_get names index ≡ Some (Some name) → has (n + suc index) (numbers_of name n names) ≡ true
unfolding numbers_of
is_among name n [] index h = absurd (cc)
is_among name n (None ∷ names) zero h = absurd (cc)
is_among name n (None ∷ names) (suc index) h =
    let same : n + suc (suc index) ≡ suc n + suc index = omega arith in
    ap (λ k. has k (numbers_of name (suc n) names)) same ∙ is_among name (suc n) names index h
is_among name n (Some other ∷ names) zero h =
    let is : other ≡ name = cc in
    let e : same_text other name ≡ true = (bytes_eq-Decides other name).1 is in
    let one : n + suc 0 ≡ suc n = omega arith in
    ap (λ b. has (n + suc 0) (cond b (suc n ∷ []) [] ++ numbers_of name (suc n) names)) e
    ∙ ap (λ b. b || has (n + suc 0) (numbers_of name (suc n) names)) (eq-eqb (suc n) (n + suc 0) (sym one))
is_among name n (Some other ∷ names) (suc index) h =
    let same : n + suc (suc index) ≡ suc n + suc index = omega arith in
    ap (λ k. has k (cond (same_text other name) (suc n ∷ []) [] ++ numbers_of name (suc n) names)) same
    ∙ has_after (suc n + suc index) (cond (same_text other name) (suc n ∷ []) []) (numbers_of name (suc n) names) (is_among name (suc n) names index h)

module _ (m : BTreeMap (String Global) (Vec ℕ Global)) (names : Names) (are : AreGroupNumbersOf m names) (group : ℕ) where
  place_named : (k : ℕ) (name : Text) → all_scalars name ≡ true → Stands names 0 k name → Some name ≡ name_at names k
  place_named k name scalar s =
      let here : k ≡ suc s.index = omega (arith, s.place) in
      rw (here, s.there, scalar) refl

  -- a name that has the group among its numbers is its name
  pub name_found : (q : List ℕ) → IsUtf8 q → has group (numbers_under m q) ≡ true → Some (chars q) ≡ name_at names group
  name_found q text h = place_named group (chars q) (scalars-chars q text) (stands (chars q) 0 names group (sym (ap (has group) (are q text)) ∙ h))

  none_at : (index : ℕ) → ((q : List ℕ) → IsUtf8 q → has (suc index) (numbers_under m q) ≡ false) → (o : Option (Option Text)) → slice_get names index ≡ o → None ≡ valid_name o
  none_at index absent None e = refl
  none_at index absent (Some None) e = refl
  none_at index absent (Some (Some name)) e = scalar_case (all_scalars name) refl where
    scalar_case : (b : Bool) → all_scalars name ≡ b → None ≡ cond b (Some name) None
    scalar_case false f = refl
    scalar_case true f =
        let q : List ℕ = encode_utf8_all name in
        let text : IsUtf8 q = (name, (f, refl)) in
        let among : has (0 + suc index) (numbers_of name 0 names) ≡ true = is_among name 0 names index e in
        let one : 0 + suc index ≡ suc index = omega arith in
        absurd (true≢false (sym among ∙ ap (λ k. has k (numbers_of name 0 names)) one ∙ sym (ap (λ t. has (suc index) (numbers_of t 0 names)) (chars-encodes name f))
        ∙ sym (ap (has (suc index)) (are q text)) ∙ absent q text))

  no_name : (k : ℕ) → ((q : List ℕ) → IsUtf8 q → has k (numbers_under m q) ≡ false) → None ≡ name_at names k
  no_name zero absent = refl
  no_name (suc index) absent = none_at index absent (slice_get names index) refl

  -- where no entry has the group among its numbers, it has no name
  pub name_missing : All (λ (e : String Global × Vec ℕ Global). has group e.1.items ≡ false) m.entries → None ≡ name_at names group
  name_missing none = no_name group (λ q text. under (get_by_text m q) (All-lookup (λ (v : Vec ℕ Global). has group v.items ≡ false) _ m.entries none)) where
    under : (o : Option (Vec ℕ Global)) → IfSome o (λ v. has group v.items ≡ false) → has group (option_map_or (λ numbers. numbers.items) o []) ≡ false
    under None h = refl
    under (Some v) h = h

-- what holds of one holds of a row of it
pub All-one : {X : Type 0} (P : X → Type 0) (x : X) → P x → All P (x ∷ [])
All-one P x h zero d inside = h
All-one P x h (suc k) d inside = absurd (omega arith)
