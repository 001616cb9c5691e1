-- The calls that are open around a part of a pattern: where as many are open as may be, each group has as many open as it may have.
use Rattle.std.proofs.Common.{◌≡◌, ℕ, zero, suc, ◌+◌, ◌*◌, ◌<◌, ◌≤◌, true, false, ◌⊎◌, inl, inr, ⊎_elim, List, [], ◌∷◌, length, Some, refl, sym, ap, ◌∙◌, subst, arith, cond}
use Rattle.std.specs.Prelude.{◌==◌, count_by, nat_le}
use Rattle.std.proofs.lemmas.Bool.{cases_lt}
use Rattle.std.proofs.lemmas.Bool.Decides.{nat_tests}
use Rattle.std.proofs.lemmas.List.Sums.{sum_by-cons}
use Rattle.std.proofs.lemmas.Option.{none-some, slice_get_past}
use Rattle.fancy_regex_tree.specs.Tree.{Tree}
use Rattle.fancy_regex_meaning.specs.Sizes.{target}
use Rattle.fancy_regex_meaning.specs.Ways.{is_at_call_limit, max_open_calls_per_group}
use Rattle.fancy_regex_meaning.specs.WayLaws.{Each}

eq_self : (a : ℕ) → (a == a) ≡ true
eq_self a = grind (arith, nat_tests)

eq_other : (a b : ℕ) → (a ≡ b → ⊥) → (a == b) ≡ false
eq_other a b h = grind (arith, nat_tests)

eq_yes : (a b : ℕ) → (a == b) ≡ true → a ≡ b
eq_yes a b h = grind (arith, nat_tests)

eq_no : (a b : ℕ) → (a == b) ≡ false → a ≡ b → ⊥
eq_no a b h e = grind (arith, nat_tests)

pub same_or_not : (k j : ℕ) → (k ≡ j) ⊎ (k ≡ j → ⊥)
same_or_not k j = (elim (k == j) as (λ b. (k == j) ≡ b → (k ≡ j) ⊎ (k ≡ j → ⊥)) [ true ↦ λ e. inl (eq_yes k j e) | false ↦ λ e. inr (eq_no k j e) ]) refl

-- how many of the open calls are of the group
abbrev pub calls_of : ℕ → List ℕ → ℕ
calls_of k opened = count_by (λ j. j == k) opened

calls_cons : (k x : ℕ) (xs : List ℕ) → calls_of k (x ∷ xs) ≡ cond (x == k) 1 0 + calls_of k xs
calls_cons k x xs = sum_by-cons (λ j. cond (j == k) 1 0) x xs

pub one_call_more : (k : ℕ) (opened : List ℕ) → calls_of k (k ∷ opened) ≡ suc (calls_of k opened)
one_call_more k opened = calls_cons k k opened ∙ ap (λ b. cond b 1 0 + calls_of k opened) (eq_self k) ∙ omega arith

pub no_call_more : (k j : ℕ) (opened : List ℕ) → (k ≡ j → ⊥) → calls_of k (j ∷ opened) ≡ calls_of k opened
no_call_more k j opened ne = calls_cons k j opened ∙ ap (λ b. cond b 1 0 + calls_of k opened) (eq_other j k (λ e. ne (sym e))) ∙ omega arith

pub no_fewer : (k j : ℕ) (opened : List ℕ) → calls_of k opened ≤ calls_of k (j ∷ opened)
no_fewer k j opened =
    ⊎_elim (λ (e : k ≡ j). subst (λ i. calls_of k opened ≤ calls_of k (i ∷ opened)) e (omega (arith, one_call_more k opened)))
    (λ (ne : k ≡ j → ⊥). omega (arith, no_call_more k j opened ne)) (same_or_not k j)

-- the open calls of other groups
abbrev others : ℕ → List ℕ → List ℕ
others n [] = []
others n (x ∷ xs) = cond (x == n) (others n xs) (x ∷ others n xs)

split_length : (n : ℕ) (xs : List ℕ) → length xs ≡ calls_of n xs + length (others n xs)
split_length n [] = refl
split_length n (x ∷ xs) =
    let rest = split_length n xs in
    (elim (x == n) as (λ b. length (x ∷ xs) ≡ (cond b 1 0 + calls_of n xs) + length (cond b (others n xs) (x ∷ others n xs))) [ true ↦ omega (arith, rest) | false ↦ omega (arith, rest) ])
    ∙ ap (λ i. i + length (cond (x == n) (others n xs) (x ∷ others n xs))) (sym (calls_cons n x xs))

others_below : (n : ℕ) (xs : List ℕ) → Each (λ j. j < suc n) xs → Each (λ j. j < n) (others n xs)
others_below n [] h = tt
others_below n (x ∷ xs) h =
    let rest = others_below n xs h.1 in
    (elim (x == n) as (λ b. (x == n) ≡ b → Each (λ j. j < n) (cond b (others n xs) (x ∷ others n xs))) [
      | true ↦ λ e. rest
      | false ↦ λ e. (let ne = eq_no x n e in let lt = h.0 in (omega (arith, ne, lt), rest))
    ]) refl

others_fewer : (n k : ℕ) (xs : List ℕ) → calls_of k (others n xs) ≤ calls_of k xs
others_fewer n k [] = omega arith
others_fewer n k (x ∷ xs) =
    let rest = others_fewer n k xs in
    elim (x == n) as (λ b. calls_of k (cond b (others n xs) (x ∷ others n xs)) ≤ calls_of k (x ∷ xs)) [
      | true ↦ omega (arith, rest, calls_cons k x xs)
      | false ↦ omega (arith, rest, calls_cons k x xs, calls_cons k x (others n xs))
    ]

-- no more calls than that are open
most_calls : (n : ℕ) (xs : List ℕ) → Each (λ j. j < n) xs → ((k : ℕ) → calls_of k xs ≤ max_open_calls_per_group) → length xs ≤ max_open_calls_per_group * n
most_calls zero [] h few = omega arith
most_calls zero (x ∷ xs) h few = absurd (omega (arith, h.0))
most_calls (suc n) xs h few =
    let rest = most_calls n (others n xs) (others_below n xs h) (λ k. (let a = others_fewer n k xs in let b = few k in omega (arith, a, b))) in
    omega (arith, split_length n xs, few n, rest)

pub full_calls : (n : ℕ) (xs : List ℕ) → Each (λ j. j < n) xs → ((k : ℕ) → calls_of k xs ≤ max_open_calls_per_group) → max_open_calls_per_group * n ≤ length xs →
    (k : ℕ) → k < n → max_open_calls_per_group ≤ calls_of k xs
full_calls n xs h few full k lt =
    ⊎_elim
    (λ (less : calls_of k xs < max_open_calls_per_group). (
    let few' : (j : ℕ) → calls_of j (k ∷ xs) ≤ max_open_calls_per_group = λ j.
    ⊎_elim (λ (same : j ≡ k). subst (λ i. calls_of i (k ∷ xs) ≤ max_open_calls_per_group) (sym same) (omega (arith, one_call_more k xs, less)))
    (λ (ne : j ≡ k → ⊥). omega (arith, no_call_more j k xs ne, few j)) (same_or_not j k) in
    let too_many = most_calls n (k ∷ xs) (lt, h) few' in
    absurd (omega (arith, too_many, full))))
    (λ (enough : max_open_calls_per_group ≤ calls_of k xs). enough)
    (cases_lt (calls_of k xs) max_open_calls_per_group)

pub full_is : (opened : List ℕ) (k : ℕ) → is_at_call_limit opened k ≡ true → max_open_calls_per_group ≤ calls_of k opened
full_is opened k e = le_is max_open_calls_per_group (calls_of k opened) e
  where
    le_is : (a b : ℕ) → nat_le a b ≡ true → a ≤ b
    le_is a b h = grind (arith, nat_tests)

pub free_is : (opened : List ℕ) (k : ℕ) → is_at_call_limit opened k ≡ false → calls_of k opened < max_open_calls_per_group
free_is opened k e = le_no_is max_open_calls_per_group (calls_of k opened) e
  where
    le_no_is : (a b : ℕ) → nat_le a b ≡ false → b < a
    le_no_is a b h = grind (arith, nat_tests)

pub below_limit : (opened : List ℕ) (k : ℕ) → calls_of k opened < max_open_calls_per_group → is_at_call_limit opened k ≡ false
below_limit opened k less = no_le max_open_calls_per_group (calls_of k opened) less
  where
    no_le : (a b : ℕ) → b < a → nat_le a b ≡ false
    no_le a b h = grind (arith, nat_tests)

pub target_inside : (groups : List Tree) (k : ℕ) (t : Tree) → target groups k ≡ Some t → k < length groups
target_inside groups k t e =
    ⊎_elim (λ (lt : k < length groups). lt) (λ (ge : length groups ≤ k). absurd (none-some t (sym (slice_get_past groups k ge) ∙ e))) (cases_lt k (length groups))

-- The calls that are open around a part: each is of one of so many groups, and none is open too often. As many more may be opened as
-- can be at all.
pub record AreOpen (n : ℕ) (opened : List ℕ) (more : ℕ) : Type 0 where
  pub inside : Each (λ j. j < n) opened
  pub few : (k : ℕ) → calls_of k opened ≤ max_open_calls_per_group
  pub enough : max_open_calls_per_group * n ≤ more + length opened

pub none_open : (n : ℕ) → AreOpen n [] (max_open_calls_per_group * n)
none_open n = record { inside = tt; few = λ k. omega arith; enough = omega arith }

pub one_more_open : (n k : ℕ) (opened : List ℕ) (more : ℕ) → AreOpen n opened (suc more) → k < n → calls_of k opened < max_open_calls_per_group → AreOpen n (k ∷ opened) more
one_more_open n k opened more h lt less =
    let had = h.enough in
    record {
      inside = (lt, h.inside);
      few = λ j.
          ⊎_elim (λ (same : j ≡ k). subst (λ i. calls_of i (k ∷ opened) ≤ max_open_calls_per_group) (sym same) (omega (arith, one_call_more k opened, less)))
          (λ (ne : j ≡ k → ⊥). (let few = h.few j in omega (arith, no_call_more j k opened ne, few))) (same_or_not j k);
      enough = omega (arith, had);
    }

-- where none may be opened any more
pub none_left : (n : ℕ) (opened : List ℕ) → AreOpen n opened 0 → (k : ℕ) → k < n → max_open_calls_per_group ≤ calls_of k opened
none_left n opened h k lt = full_calls n opened h.inside h.few (let had = h.enough in omega (arith, had)) k lt
