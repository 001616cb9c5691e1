-- What a name and a signed number stand for.
use Rattle.std.proofs.Common.{◌≡◌, ℕ, zero, suc, ◌+◌, ◌-◌, ◌<◌, ◌≤◌, ◌⊎◌, inl, inr, pos, negsuc, min, Bool, true, false, cond, slice_index, List, [], ◌∷◌, ◌++◌, length, map, Option, Some}
use Rattle.std.proofs.Common.{None, refl, ap, sym, ◌∙◌, subst, arith, nat_lt}
use Rattle.std.specs.List.{Contains, filter_map}
use Rattle.std.specs.List.Sorted.{IsStrictlyIncreasing}
use Rattle.std.specs.Str.{all_scalars}
use Rattle.std.proofs.lemmas.List.{length-append}
use Rattle.std.proofs.lemmas.Option.{same_Some, none-some}
use Rattle.std.proofs.lemmas.Bool.{false≢true, le-ltb, lt-ltb}
use Rattle.std.proofs.lemmas.Slice.Eq.{bytes_eq-Decides}
use Rattle.fancy_regex_tree.specs.Tree.{Text}
use Rattle.fancy_regex_tree.specs.Numbering.{Names, counted, last_named, last_number, numbers_of, relative_number, same_text}
use Rattle.fancy_regex_tree_laws.specs.References.{HasName, IsLastWithName, IsUnusedName, itself, CountedLaw, NumbersLaw, LastNamedLaw, RelativeLaw}

all_count : (names : Names) → counted false names ≡ names
all_count [] = refl
all_count (Some name ∷ names) = ap (λ ns. Some name ∷ ns) (all_count names)
all_count (None ∷ names) = ap (λ ns. None ∷ ns) (all_count names)

named_count : (names : Names) → counted true names ≡ map Some (filter_map itself names)
named_count [] = refl
named_count (Some name ∷ names) = ap (λ ns. Some name ∷ ns) (named_count names)
named_count (None ∷ names) = named_count names

pub counted_law : CountedLaw
counted_law = record { all = all_count; named = named_count }

-- numbers of a name, step by step
data Numbers (name : Text) : ℕ → Names → List ℕ → Type 0 where
  none : {n : ℕ} → Numbers name n [] []
  pass : {n : ℕ} {other : Option Text} {names : Names} {ks : List ℕ} → (other ≡ Some name → ⊥) → Numbers name (suc n) names ks → Numbers name n (other ∷ names) ks
  next : {n : ℕ} {names : Names} {ks : List ℕ} → Numbers name (suc n) names ks → Numbers name n (Some name ∷ names) (suc n ∷ ks)

at_opening : (name other : Text) (n : ℕ) (names : Names) (ks : List ℕ) (b : Bool) → same_text other name ≡ b → Numbers name (suc n) names ks →
    Numbers name n (Some other ∷ names) (cond b (suc n ∷ []) [] ++ ks)
at_opening name other n names ks true same rest =
    subst (λ o. Numbers name n (Some o ∷ names) (suc n ∷ ks)) (sym ((bytes_eq-Decides other name).0 same)) (next rest)
at_opening name other n names ks false same rest =
    pass (λ h. false≢true (sym same ∙ (bytes_eq-Decides other name).1 (same_Some other name h))) rest

numbered : (name : Text) (n : ℕ) (names : Names) → Numbers name n names (numbers_of name n names)
unfolding numbers_of
numbered name n [] = none
numbered name n (None ∷ names) = pass (λ h. none-some name h) (numbered name (suc n) names)
numbered name n (Some other ∷ names) = at_opening name other n names (numbers_of name (suc n) names) (same_text other name) refl (numbered name (suc n) names)

inside_tail : {X : Type 0} (x y : X) (xs : List X) → Contains xs y → Contains (x ∷ xs) y
inside_tail x y xs (k, inside, is) = (suc k, omega (arith, inside), is)

inside_head : {X : Type 0} (x : X) (xs : List X) → Contains (x ∷ xs) x
inside_head x xs = (0, omega arith, refl)

inside_either : {X : Type 0} (x y : X) (xs : List X) → Contains (x ∷ xs) y → (x ≡ y) ⊎ Contains xs y
inside_either x y xs (zero, inside, is) = inl is
inside_either x y xs (suc k, inside, is) = inr (k, omega (arith, inside), is)

inside_none : {X : Type 0} (y : X) → Contains [] y → ⊥
inside_none y (k, inside, is) = omega (arith, inside)

head_same : {X : Type 0} {x y : X} {xs ys : List X} → x ∷ xs ≡ y ∷ ys → x ≡ y
head_same {x = x} h = ap (λ l. elim l [ [] ↦ x | z ∷ zs ↦ z ]) h

tail_same : {X : Type 0} {x y : X} {xs ys : List X} → x ∷ xs ≡ y ∷ ys → xs ≡ ys
tail_same {xs = xs} h = ap (λ l. elim l [ [] ↦ xs | z ∷ zs ↦ zs ]) h

-- with one opening more in front
pub further : (name : Text) (first : Option Text) (names : Names) (j : ℕ) → HasName names name j → HasName (first ∷ names) name (suc j)
further name first names j c =
    record { before = first ∷ c.before; following = c.following; parts = ap (λ ns. first ∷ ns) c.parts; place = ap (λ k. suc k) c.place }

-- a number is the rank of an opening with the name, after those before
rank_of : (name : Text) (n : ℕ) (names : Names) (ks : List ℕ) (k : ℕ) → Numbers name n names ks → Contains ks k → (j : ℕ) × HasName names name j × (k ≡ n + j)
rank_of name n names ks k none h = absurd (inside_none k h)
rank_of name n names ks k (pass {other = other} {names = rest} differs more) h =
    let found = rank_of name (suc n) rest ks k more h in
    (suc found.0, further name other rest found.0 found.1, omega (arith, found.2))
rank_of name n names ks k (next {names = rest} {ks = others} more) h = elim (inside_either (suc n) k others h) [
  | inl e ↦ (1, record { before = []; following = rest; parts = refl; place = refl }, omega (arith, e))
  | inr later ↦
      let found = rank_of name (suc n) rest others k more later in
      (suc found.0, further name (Some name) rest found.0 found.1, omega (arith, found.2))
]

-- and the rank of each is a number
number_at : (name : Text) (n : ℕ) (names : Names) (ks : List ℕ) → Numbers name n names ks → (before following : Names) → names ≡ before ++ (Some name ∷ following)
    → Contains ks (n + suc (length before))
number_at name n names ks none [] following h = cc
number_at name n names ks none (x ∷ before) following h = cc
number_at name n names ks (pass differs more) [] following h = absurd (differs (head_same h))
number_at name n names ks (pass {names = rest} differs more) (x ∷ before) following h =
    let e : suc n + suc (length before) ≡ n + suc (suc (length before)) = omega arith in
    subst (λ k. Contains ks k) e (number_at name (suc n) rest ks more before following (tail_same h))
number_at name n names ks (next {ks = others} more) [] following h =
    let e : suc n ≡ n + 1 = omega arith in subst (λ k. Contains (suc n ∷ others) k) e (inside_head (suc n) others)
number_at name n names ks (next {names = rest} {ks = others} more) (x ∷ before) following h =
    let e : suc n + suc (length before) ≡ n + suc (suc (length before)) = omega arith in
    subst (λ k. Contains (suc n ∷ others) k) e (inside_tail (suc n) _ others (number_at name (suc n) rest others more before following (tail_same h)))

number_of : (name : Text) (names : Names) (k : ℕ) → HasName names name k → Contains (numbers_of name 0 names) k
number_of name names k c =
    let e : 0 + suc (length c.before) ≡ k = omega (arith, c.place) in
    subst (λ j. Contains (numbers_of name 0 names) j) e (number_at name 0 names (numbers_of name 0 names) (numbered name 0 names) c.before c.following c.parts)

carried : (name : Text) (names : Names) (k : ℕ) → Contains (numbers_of name 0 names) k → HasName names name k
carried name names k h =
    let found = rank_of name 0 names (numbers_of name 0 names) k (numbered name 0 names) h in
    let e : found.0 ≡ k = omega (arith, found.2) in
    subst (λ j. HasName names name j) e found.1

-- above each number of those before
above : (name : Text) (n : ℕ) (names : Names) (ks : List ℕ) (k : ℕ) → Numbers name n names ks → Contains ks k → n < k
above name n names ks k numbers h =
    let found = rank_of name n names ks k numbers h in
    omega (arith, found.2, found.1.place)

-- each is below those after it
data Rising : List ℕ → Type 0 where
  no_more : Rising []
  then_above : {n : ℕ} {ns : List ℕ} → ((k : ℕ) → Contains ns k → n < k) → Rising ns → Rising (n ∷ ns)

rise : (name : Text) (n : ℕ) (names : Names) (ks : List ℕ) → Numbers name n names ks → Rising ks
rise name n names ks none = no_more
rise name n names ks (pass {names = rest} differs more) = rise name (suc n) rest ks more
rise name n names ks (next {names = rest} {ks = others} more) =
    then_above (λ k h. above name (suc n) rest others k more h) (rise name (suc n) rest others more)

increasing : (ns : List ℕ) → Rising ns → IsStrictlyIncreasing ns
increasing [] no_more k inside = absurd (omega (arith, inside))
increasing (n ∷ []) (then_above h more) k inside = absurd (omega (arith, inside))
increasing (n ∷ m ∷ ns) (then_above h more) zero inside = h m (inside_head m ns)
increasing (n ∷ m ∷ ns) (then_above h more) (suc k) inside =
    let e : suc (k + 1) ≡ suc k + 1 = omega arith in
    subst (λ j. slice_index (m ∷ ns) k < slice_index (n ∷ m ∷ ns) j) e (increasing (m ∷ ns) more k (omega (arith, inside)))

pub numbers_law : NumbersLaw
numbers_law = record {
  ranks = λ name names k. (carried name names k, number_of name names k);
  rising = λ name names. increasing (numbers_of name 0 names) (rise name 0 names (numbers_of name 0 names) (numbered name 0 names));
}

-- the last of rising numbers is among them, and none is above it
last_of : (ns : List ℕ) (k : ℕ) → Rising ns → last_number ns ≡ Some k → Contains ns k × ((j : ℕ) → Contains ns j → j ≤ k)
last_of [] k r h = absurd (none-some k h)
last_of (n ∷ []) k r h =
    let e : n ≡ k = same_Some n k h in
    ((0, omega arith, e), λ j c. elim (inside_either n j [] c) [ inl d ↦ omega (arith, d, e) | inr found ↦ absurd (inside_none j found) ])
last_of (n ∷ m ∷ ns) k (then_above low more) h =
    let rest = last_of (m ∷ ns) k more h in
    let over : n < k = low k rest.0 in
    (inside_tail n k (m ∷ ns) rest.0, λ j c. elim (inside_either n j (m ∷ ns) c) [ inl d ↦ omega (arith, d, over) | inr later ↦ rest.1 j later ])

not_none : (m : ℕ) (ns : List ℕ) → last_number (m ∷ ns) ≡ None → ⊥
not_none m [] h = none-some m (sym h)
not_none m (l ∷ ns) h = not_none l ns h

no_last : (ns : List ℕ) → last_number ns ≡ None → ns ≡ []
no_last [] h = refl
no_last (n ∷ ns) h = absurd (not_none n ns h)

module _ (names : Names) (name : Text) where
  abbrev numbers : List ℕ
  numbers = numbers_of name 0 names

  rising : Rising numbers
  rising = rise name 0 names numbers (numbered name 0 names)

  is_last : (k : ℕ) → last_number numbers ≡ Some k → IsLastWithName names name k
  is_last k h =
      let found = last_of numbers k rising h in
      record { carries = carried name names k found.0; no_later = λ j c. found.1 j (number_of name names j c) }

  none_there : last_number numbers ≡ None → IsUnusedName names name
  none_there h k c = inside_none k (subst (λ ns. Contains ns k) (no_last numbers h) (number_of name names k c))

  last_is : (k : ℕ) (o : Option ℕ) → last_number numbers ≡ o → IsLastWithName names name k → o ≡ Some k
  last_is k None h last = absurd (none_there h k last.carries)
  last_is k (Some m) h last =
      let other = is_last m h in
      let low : m ≤ k = last.no_later m other.carries in
      let high : k ≤ m = other.no_later k last.carries in
      let e : m ≡ k = omega (arith, low, high) in
      ap Some e

  nothing_is : (o : Option ℕ) → last_number numbers ≡ o → IsUnusedName names name → o ≡ None
  nothing_is None h nobody = refl
  nothing_is (Some m) h nobody = absurd (nobody m (is_last m h).carries)

  with_characters : all_scalars name ≡ true → last_named names name ≡ last_number numbers
  with_characters h = rw h refl

  without_characters : all_scalars name ≡ false → last_named names name ≡ None
  without_characters h = rw h refl

pub last_named_law : LastNamedLaw
last_named_law = record {
  some = λ names name k text. (
    λ h. is_last names name k (sym (with_characters names name text) ∙ h),
    λ last. with_characters names name text ∙ last_is names name k (last_number (numbers_of name 0 names)) refl last,
  );
  none = λ names name text. (
    λ h. none_there names name (sym (with_characters names name text) ∙ h),
    λ nobody. with_characters names name text ∙ nothing_is names name (last_number (numbers_of name 0 names)) refl nobody,
  );
  no_characters = without_characters;
}

following : (n k : ℕ) → k < n → relative_number n (negsuc k) ≡ Some (n - k)
unfolding relative_number
following n k h = let here : nat_lt k n ≡ true = lt-ltb k n h in rw here refl

too_few : (n k : ℕ) → n ≤ k → relative_number n (negsuc k) ≡ None
unfolding relative_number
too_few n k h = let past : nat_lt k n ≡ false = le-ltb k n h in rw past refl

ahead : (n k : ℕ) → relative_number n (pos (suc k)) ≡ Some (min (n + suc k) 18446744073709551615)
unfolding relative_number
ahead n k = refl

no_zero : (n : ℕ) → relative_number n (pos 0) ≡ None
unfolding relative_number
no_zero n = refl

pub relative_law : RelativeLaw
relative_law = record {
  following = λ front between this.
      let size : length (front ++ (this ∷ between)) ≡ length front + suc (length between) = length-append front (this ∷ between) in
      let e : length (front ++ (this ∷ between)) - length between ≡ suc (length front) = omega (arith, size) in
      following (length (front ++ (this ∷ between))) (length between) (omega (arith, size)) ∙ ap Some e;
  too_few = λ front k h. too_few (length front) k h;
  ahead = λ front between rest this h.
      let all = length-append front (between ++ (this ∷ [])) in
      let last = length-append between (this ∷ []) in
      let both = length-append front between in
      let e : min (length front + suc (length between)) 18446744073709551615 ≡ suc (length (front ++ between)) = omega (arith, h, all, last, both) in
      ahead (length front) (length between) ∙ ap Some e;
  too_large = λ front k h.
      let e : min (length front + suc k) 18446744073709551615 ≡ 18446744073709551615 = omega (arith, h) in
      ahead (length front) k ∙ ap Some e;
  zero = no_zero;
}
