-- The calls that are open: how many there are of each group, and the groups of which there are as many as may be.
use Rattle.std.proofs.Common.{◌≡◌, ℕ, zero, suc, ◌+◌, ◌-◌, ◌<◌, ◌≤◌, Bool, true, false, cond, List, [], ◌∷◌, ◌++◌, length, take, set, get_or, refl, sym, ap, ◌∙◌, subst, append_assoc, append-nil, length-append, arith}
use Rattle.std.specs.Prelude.{◌==◌}
use Rattle.std.specs.List.{Contains}
use Rattle.std.proofs.lemmas.Bool.Decides.{nat_tests}
use Rattle.std.proofs.lemmas.List.{get_or_past, get_or-set_other, take_all, take-append-le}
use Rattle.std.proofs.lemmas.List.Elements.{Contains-append_left, Contains-append_right, Contains-push}
use Rattle.std.proofs.lemmas.List.Sums.{sum_by-append, sum_by-cons, count_by-le-length}
use Rattle.std.proofs.lemmas.Grind.{get_or-set_at}
use Rattle.fancy_regex_meaning.specs.Ways.{is_at_call_limit, max_open_calls_per_group}
use Rattle.fancy_regex_compiler.specs.Opened.{calls_of, AreCounts, if_full, full_after, full_groups}

-- what a call of the group k adds to the number of those of the group j
abbrev one_of : ℕ → ℕ → ℕ
one_of j k = cond (k == j) 1 0

one_same : (j k : ℕ) → j ≡ k → one_of j k ≡ 1
one_same j k same = let is : (k == j) ≡ true = grind (arith, nat_tests, same) in ap (λ b. cond b 1 0) is

none_other : (j k : ℕ) → (j ≡ k → ⊥) → one_of j k ≡ 0
none_other j k other = let not : (k == j) ≡ false = grind (arith, nat_tests, other) in ap (λ b. cond b 1 0) not

calls_cons : (j k : ℕ) (groups : List ℕ) → calls_of j (k ∷ groups) ≡ one_of j k + calls_of j groups
calls_cons j k groups = sum_by-cons (λ i. cond (i == j) 1 0) k groups

calls_push : (j k : ℕ) (groups : List ℕ) → calls_of j (groups ++ k ∷ []) ≡ calls_of j groups + one_of j k
calls_push j k groups =
    let f : ℕ → ℕ = λ i. cond (i == j) 1 0 in
    omega (arith, sum_by-append f groups (k ∷ []), sum_by-cons f k [])

pub calls_most : (k : ℕ) (groups : List ℕ) → calls_of k groups ≤ length groups
calls_most k groups = count_by-le-length (λ j. j == k) groups

-- The counts.
pub read_at : (xs : List ℕ) (i n : ℕ) → n ≡ get_or xs i n → i < length xs → n ≡ get_or xs i 0
read_at [] i n is low = absurd (omega (arith, low))
read_at (x ∷ xs) zero n is low = is
read_at (x ∷ xs) (suc i) n is low = read_at xs i n is (omega (arith, low))

pub counts_none : (counts groups : List ℕ) → AreCounts counts groups → AreCounts (counts ++ 0 ∷ []) groups
counts_none counts groups are k = zero_added counts k ∙ are k
  where
    zero_added : (xs : List ℕ) (i : ℕ) → get_or (xs ++ 0 ∷ []) i 0 ≡ get_or xs i 0
    zero_added [] zero = refl
    zero_added [] (suc i) = refl
    zero_added (x ∷ xs) zero = refl
    zero_added (x ∷ xs) (suc i) = zero_added xs i

counts_set : (counts groups now : List ℕ) (k n : ℕ) → AreCounts counts groups → k < length counts → n ≡ calls_of k now →
    ((j : ℕ) → (j ≡ k → ⊥) → calls_of j now ≡ calls_of j groups) → AreCounts (set counts k n) now
counts_set counts groups now k n are low here there j = either (j == k) refl
  where
    either : (b : Bool) → (j == k) ≡ b → get_or (set counts k n) j 0 ≡ calls_of j now
    either true e =
        let same : j ≡ k = grind (arith, nat_tests, e) in
        get_or-set_at counts k j n 0 same low ∙ here ∙ ap (λ i. calls_of i now) (sym same)
    either false e =
        let other : j ≡ k → ⊥ = grind (arith, nat_tests, e) in
        get_or-set_other counts k j n 0 other ∙ are j ∙ sym (there j other)

pub counts_more : (counts groups now : List ℕ) (k n : ℕ) → now ≡ groups ++ k ∷ [] → AreCounts counts groups → k < length counts → n ≡ get_or counts k 0 + 1 →
    AreCounts (set counts k n) now
counts_more counts groups now k n is are low one_more =
    let push = λ (j : ℕ). ap (calls_of j) is ∙ calls_push j k groups in
    counts_set counts groups now k n are low (omega (arith, one_more, are k, push k, one_same k k refl))
    (λ j other. omega (arith, push j, none_other j k other))

pub counts_less : (counts groups now : List ℕ) (k n : ℕ) → groups ≡ now ++ k ∷ [] → AreCounts counts groups → k < length counts → n ≡ get_or counts k 0 - 1 →
    AreCounts (set counts k n) now
counts_less counts groups now k n is are low one_less =
    let push = λ (j : ℕ). ap (calls_of j) is ∙ calls_push j k now in
    counts_set counts groups now k n are low (omega (arith, one_less, are k, push k, one_same k k refl))
    (λ j other. omega (arith, push j, none_other j k other))

-- The group of the innermost call has a count.
pub some_count : (counts groups now : List ℕ) (k : ℕ) → groups ≡ now ++ k ∷ [] → AreCounts counts groups → 1 ≤ get_or counts k 0
some_count counts groups now k is are = omega (arith, are k, ap (calls_of k) is ∙ calls_push k k now, one_same k k refl)

pub has_count : (counts groups now : List ℕ) (k : ℕ) → groups ≡ now ++ k ∷ [] → AreCounts counts groups → k < length counts
has_count counts groups now k is are =
    let some = some_count counts groups now k is are in
    grind (arith, some, get_or_past counts k 0)

-- The groups of which as many calls are open as may be.
full_push : (before groups : List ℕ) (k : ℕ) →
    full_after before (groups ++ k ∷ []) ≡ full_after before groups ++ if_full k (calls_of k before + calls_of k groups + 1)
full_push before [] k = append-nil (if_full k (calls_of k before + 1)) ∙ ap (if_full k) (omega arith)
full_push before (x ∷ xs) k =
    let first = if_full x (calls_of x before + 1) in
    let number : calls_of k (x ∷ before) + calls_of k xs + 1 ≡ calls_of k before + calls_of k (x ∷ xs) + 1 =
    omega (arith, calls_cons k x before, calls_cons k x xs) in
    ap (λ l. first ++ l) (full_push (x ∷ before) xs k ∙ ap (λ n. full_after (x ∷ before) xs ++ if_full k n) number)
    ∙ sym (append_assoc first (full_after (x ∷ before) xs) (if_full k (calls_of k before + calls_of k (x ∷ xs) + 1)))

pub full_more : (counts groups now : List ℕ) (k : ℕ) → now ≡ groups ++ k ∷ [] → AreCounts counts groups →
    full_groups now ≡ full_groups groups ++ if_full k (get_or counts k 0 + 1)
full_more counts groups now k is are =
    ap full_groups is ∙ full_push [] groups k ∙ ap (λ n. full_groups groups ++ if_full k n) (omega (arith, are k))

pub full_less : (counts groups now : List ℕ) (k : ℕ) → groups ≡ now ++ k ∷ [] → AreCounts counts groups →
    full_groups groups ≡ full_groups now ++ if_full k (get_or counts k 0)
full_less counts groups now k is are =
    let number : calls_of k [] + calls_of k now + 1 ≡ get_or counts k 0 =
    omega (arith, are k, ap (calls_of k) is ∙ calls_push k k now, one_same k k refl) in
    ap full_groups is ∙ full_push [] now k ∙ ap (λ n. full_groups now ++ if_full k n) number

if_full_is : (k n : ℕ) → n ≡ max_open_calls_per_group → if_full k n ≡ k ∷ []
if_full_is k n is = ap (if_full k) is

if_full_not : (k n : ℕ) → (n ≡ max_open_calls_per_group → ⊥) → if_full k n ≡ []
if_full_not k n other =
    let not : (n == max_open_calls_per_group) ≡ false = grind (arith, nat_tests, other) in
    ap (λ b. cond b (k ∷ []) []) not

-- an innermost call that made its group full, and one that did not
take_before : (xs : List ℕ) (k : ℕ) → take (length (xs ++ k ∷ []) - 1) (xs ++ k ∷ []) ≡ xs
take_before xs k =
    ap (λ n. take n (xs ++ k ∷ [])) (omega (arith, length-append xs (k ∷ []))) ∙ take-append-le (length xs) xs (k ∷ []) (omega arith)
    ∙ take_all (length xs) xs (omega arith)

pub full_popped : (counts groups now full popped : List ℕ) (k : ℕ) → groups ≡ now ++ k ∷ [] → AreCounts counts groups → full ≡ full_groups groups →
    get_or counts k 0 ≡ max_open_calls_per_group → popped ≡ take (length full - 1) full → popped ≡ full_groups now
full_popped counts groups now full popped k is are full_is most popped_is =
    let pushed : full ≡ full_groups now ++ k ∷ [] =
    full_is ∙ full_less counts groups now k is are ∙ ap (λ l. full_groups now ++ l) (if_full_is k (get_or counts k 0) most) in
    popped_is ∙ ap (λ l. take (length l - 1) l) pushed ∙ take_before (full_groups now) k

pub full_kept : (counts groups now full : List ℕ) (k : ℕ) → groups ≡ now ++ k ∷ [] → AreCounts counts groups → full ≡ full_groups groups →
    (get_or counts k 0 ≡ max_open_calls_per_group → ⊥) → full ≡ full_groups now
full_kept counts groups now full k is are full_is other =
    full_is ∙ full_less counts groups now k is are ∙ ap (λ l. full_groups now ++ l) (if_full_not k (get_or counts k 0) other)
    ∙ append-nil (full_groups now)

full_or_later : (before xs : List ℕ) (x k : ℕ) → calls_of k before < max_open_calls_per_group →
    max_open_calls_per_group ≤ calls_of k before + calls_of k (x ∷ xs) →
    (calls_of k (x ∷ before) < max_open_calls_per_group → max_open_calls_per_group ≤ calls_of k (x ∷ before) + calls_of k xs →
    Contains (full_after (x ∷ before) xs) k) → Contains (full_after before (x ∷ xs)) k
full_or_later before xs x k few many inner = either (x == k) refl (calls_of x before + 1 == max_open_calls_per_group) refl
  where
    first : List ℕ
    first = if_full x (calls_of x before + 1)

    later : calls_of k (x ∷ before) < max_open_calls_per_group → Contains (first ++ full_after (x ∷ before) xs) k
    later low =
        Contains-append_right first (full_after (x ∷ before) xs) k
        (inner low (omega (arith, many, calls_cons k x before, calls_cons k x xs)))

    either : (b : Bool) → (x == k) ≡ b → (full : Bool) → (calls_of x before + 1 == max_open_calls_per_group) ≡ full →
        Contains (first ++ full_after (x ∷ before) xs) k
    either true e true full =
        let same : x ≡ k = grind (arith, nat_tests, e) in
        let one : x ∷ [] ≡ first = ap (λ b. cond b (x ∷ []) []) (sym full) in
        subst (λ j. Contains (first ++ full_after (x ∷ before) xs) j) same
        (Contains-append_left first (full_after (x ∷ before) xs) x (subst (λ l. Contains l x) one (Contains-push [] x)))
    either true e false full =
        let same : x ≡ k = grind (arith, nat_tests, e) in
        let other : calls_of x before + 1 ≡ max_open_calls_per_group → ⊥ = grind (arith, nat_tests, full) in
        let differs : calls_of k before + 1 ≡ max_open_calls_per_group → ⊥ = λ is. other (ap (λ j. calls_of j before + 1) same ∙ is) in
        later (omega (arith, few, differs, calls_cons k x before, one_same k x (sym same)))
    either false e full_or_not full =
        let other : k ≡ x → ⊥ = grind (arith, nat_tests, e) in
        later (omega (arith, few, calls_cons k x before, none_other k x other))

full_there : (before groups : List ℕ) (k : ℕ) → calls_of k before < max_open_calls_per_group →
    max_open_calls_per_group ≤ calls_of k before + calls_of k groups → Contains (full_after before groups) k
full_there before [] k few many = absurd (omega (arith, few, many))
full_there before (x ∷ xs) k few many = full_or_later before xs x k few many (full_there (x ∷ before) xs k)

pub is_full_group : (groups : List ℕ) (k : ℕ) → is_at_call_limit groups k ≡ true → Contains (full_groups groups) k
is_full_group groups k full =
    let many : max_open_calls_per_group ≤ calls_of k groups = grind (arith, nat_tests, full) in
    full_there [] groups k (omega arith) (omega (arith, many))
