-- The groups that references read, marked one after the other.
use Rattle.std.proofs.Common.{◌≡◌, ℕ, ◌+◌, ◌<◌, ◌≤◌, ⊎_elim, Bool, true, false, ◌&&◌, nat_eq, nat_lt, List, [], ◌∷◌}
use Rattle.std.proofs.Common.{◌++◌, length, get_or, set, take, replicate, refl, sym, ap, subst, ◌∙◌, arith, eq-eqb}
use Rattle.std.proofs.lemmas.List.{take_more, get_or_default}
use borrow.Author.Tests.{ltb-true, lt-ltb}
use Rattle.fancy_regex_info.specs.Reachability.{has}
use Rattle.fancy_regex_info.proofs.ReachabilityLemmas.{or_left, has_left, has_right, get_set, set_keeps, set_marks, settled, last_of, none_seen, length_none, length_set}

and_false : (a : Bool) → (a && false) ≡ false
and_false true = refl
and_false false = refl

both_true : (a b : Bool) → a ≡ true → b ≡ true → (a && b) ≡ true
both_true true b h g = g
both_true false b h g = cc

left_true : (a b : Bool) → (a && b) ≡ true → a ≡ true
left_true true b h = refl
left_true false b h = h

right_true : (a b : Bool) → (a && b) ≡ true → b ≡ true
right_true true b h = h
right_true false b h = cc

pub none_read : (n k : ℕ) → get_or (replicate n false) k false ≡ (nat_lt k n && has [] k)
none_read n k = none_seen n k ∙ sym (and_false (nat_lt k n))

last_has : (xs : List ℕ) (g : ℕ) → has (xs ++ g ∷ []) g ≡ true
last_has xs g = has_right xs (g ∷ []) g (or_left (nat_eq g g) false (eq-eqb g g refl))

pub reads_one : (bs : List Bool) (n : ℕ) (xs : List ℕ) (g : ℕ) → length bs ≡ n → g < n →
    ((k : ℕ) → get_or bs k false ≡ (nat_lt k n && has xs k)) → (k : ℕ) → get_or (set bs g true) k false ≡ (nat_lt k n && has (xs ++ g ∷ []) k)
reads_one bs n xs g long inside before k =
    settled (get_or (set bs g true) k false) (nat_lt k n && has (xs ++ g ∷ []) k)
    (λ h. ⊎_elim
    (λ (e : g ≡ k). subst (λ j. (nat_lt j n && has (xs ++ g ∷ []) j) ≡ true) e (both_true (nat_lt g n) (has (xs ++ g ∷ []) g) (lt-ltb g n inside) (last_has xs g)))
    (λ e. let was : (nat_lt k n && has xs k) ≡ true = sym (before k) ∙ e in
    both_true (nat_lt k n) (has (xs ++ g ∷ []) k) (left_true (nat_lt k n) (has xs k) was) (has_left xs (g ∷ []) k (right_true (nat_lt k n) (has xs k) was)))
    (get_set bs g k (omega arith) h))
    (λ h. ⊎_elim
    (λ e. set_keeps bs g k (before k ∙ both_true (nat_lt k n) (has xs k) (left_true (nat_lt k n) (has (xs ++ g ∷ []) k) h) e))
    (λ (e : g ≡ k). subst (λ j. get_or (set bs g true) j false ≡ true) e (set_marks bs g (omega arith)))
    (last_of xs g k (right_true (nat_lt k n) (has (xs ++ g ∷ []) k) h)))

pub reads_none : (bs : List Bool) (n : ℕ) (xs : List ℕ) (g : ℕ) → n ≤ g →
    ((k : ℕ) → get_or bs k false ≡ (nat_lt k n && has xs k)) → (k : ℕ) → get_or bs k false ≡ (nat_lt k n && has (xs ++ g ∷ []) k)
reads_none bs n xs g past before k =
    settled (get_or bs k false) (nat_lt k n && has (xs ++ g ∷ []) k)
    (λ h. let was : (nat_lt k n && has xs k) ≡ true = sym (before k) ∙ h in
    both_true (nat_lt k n) (has (xs ++ g ∷ []) k) (left_true (nat_lt k n) (has xs k) was) (has_left xs (g ∷ []) k (right_true (nat_lt k n) (has xs k) was)))
    (λ h. ⊎_elim
    (λ e. before k ∙ both_true (nat_lt k n) (has xs k) (left_true (nat_lt k n) (has (xs ++ g ∷ []) k) h) e)
    (λ (e : g ≡ k). let below : k < n = ltb-true k n (left_true (nat_lt k n) (has (xs ++ g ∷ []) k) h) in absurd (omega arith))
    (last_of xs g k (right_true (nat_lt k n) (has (xs ++ g ∷ []) k) h)))

pub taken : (xs : List ℕ) (i g n k : ℕ) → i < length xs → g ≡ get_or xs i g →
    (nat_lt k n && has (take i xs ++ g ∷ []) k) ≡ (nat_lt k n && has (take (i + 1) xs) k)
taken xs i g n k inside is =
    ap (λ y. nat_lt k n && has (take i xs ++ y ∷ []) k) is ∙ ap (λ ys. nat_lt k n && has ys k) (sym (take_more xs i g inside))

-- so many groups are marked as those in the list
pub record Marked (n : ℕ) (xs : List ℕ) (bs : List Bool) : Type 0 where
  pub same : length bs ≡ n
  pub marks : (k : ℕ) → get_or bs k false ≡ (nat_lt k n && has xs k)

pub none_marked : (n : ℕ) → Marked n [] (replicate n false)
none_marked n = record { same = length_none n; marks = none_read n }

pub one_marked : (n : ℕ) (items : List ℕ) (i : ℕ) (bs : List Bool) → i < length items → get_or items i 0 < n → Marked n (take i items) bs →
    Marked n (take (i + 1) items) (set bs (get_or items i 0) true)
one_marked n items i bs inside within was =
    let g : ℕ = get_or items i 0 in
    record {
      same = length_set bs g ∙ was.same;
      marks = λ k. reads_one bs n (take i items) g was.same within was.marks k ∙ taken items i g n k inside (get_or_default items i 0 g inside);
    }

pub none_more : (n : ℕ) (items : List ℕ) (i : ℕ) (bs : List Bool) → i < length items → n ≤ get_or items i 0 → Marked n (take i items) bs →
    Marked n (take (i + 1) items) bs
none_more n items i bs inside past was =
    let g : ℕ = get_or items i 0 in
    record {
      same = was.same;
      marks = λ k. reads_none bs n (take i items) g past was.marks k ∙ taken items i g n k inside (get_or_default items i 0 g inside);
    }
