-- What is reachable by edges, and how a worklist finds it.
use Rattle.std.proofs.Common.{◌≡◌, ℕ, zero, suc, ◌+◌, ◌-◌, ◌<◌, ◌≤◌, ◌⊎◌, ⊎_elim, inl, inr, Bool, true, false, cond, ◌||◌, nat_eq, List, []}
use Rattle.std.proofs.Common.{◌∷◌, ◌++◌, Vec, Global, length, get_or, set, replicate, refl, sym, ap, subst, ◌∙◌, arith, eqb-true, eq-eqb}
use Rattle.std.specs.Prelude.{slice_get}
use Rattle.std.specs.List.{flat_map}
use Rattle.std.proofs.lemmas.Bool.{cases_lt}
use Rattle.fancy_regex_info.specs.Reachability.{rows, has, or_none, following, through}

pub or_left : (a b : Bool) → a ≡ true → (a || b) ≡ true
or_left true b h = refl
or_left false b h = cc

pub or_right : (a b : Bool) → b ≡ true → (a || b) ≡ true
or_right true b h = refl
or_right false b h = h

pub or_cases : (a b : Bool) → (a || b) ≡ true → (a ≡ true) ⊎ (b ≡ true)
or_cases true b h = inl refl
or_cases false b h = inr h

pub has_left : (xs ys : List ℕ) (k : ℕ) → has xs k ≡ true → has (xs ++ ys) k ≡ true
has_left [] ys k h = cc
has_left (x ∷ xs) ys k h =
    ⊎_elim (λ e. or_left (nat_eq x k) (has (xs ++ ys) k) e) (λ e. or_right (nat_eq x k) (has (xs ++ ys) k) (has_left xs ys k e))
    (or_cases (nat_eq x k) (has xs k) h)

pub has_right : (xs ys : List ℕ) (k : ℕ) → has ys k ≡ true → has (xs ++ ys) k ≡ true
has_right [] ys k h = h
has_right (x ∷ xs) ys k h = or_right (nat_eq x k) (has (xs ++ ys) k) (has_right xs ys k h)

pub has_either : (xs ys : List ℕ) (k : ℕ) → has (xs ++ ys) k ≡ true → (has xs k ≡ true) ⊎ (has ys k ≡ true)
has_either [] ys k h = inr h
has_either (x ∷ xs) ys k h =
    ⊎_elim (λ e. inl (or_left (nat_eq x k) (has xs k) e))
    (λ e. ⊎_elim (λ f. inl (or_right (nat_eq x k) (has xs k) f)) (λ f. inr f) (has_either xs ys k e))
    (or_cases (nat_eq x k) (has (xs ++ ys) k) h)

pub flat_has : (f : ℕ → List ℕ) (xs : List ℕ) (x y : ℕ) → has xs x ≡ true → has (f x) y ≡ true → has (flat_map f xs) y ≡ true
flat_has f [] x y h g = cc
flat_has f (z ∷ xs) x y h g =
    ⊎_elim
    (λ (e : nat_eq z x ≡ true). has_left (f z) (flat_map f xs) y (subst (λ w. has (f w) y ≡ true) (sym (eqb-true z x e)) g))
    (λ e. has_right (f z) (flat_map f xs) y (flat_has f xs x y e g))
    (or_cases (nat_eq z x) (has xs x) h)

pub flat_from : (f : ℕ → List ℕ) (xs : List ℕ) (y : ℕ) → has (flat_map f xs) y ≡ true → (x : ℕ) × (has xs x ≡ true) × (has (f x) y ≡ true)
flat_from f [] y h = cc
flat_from f (z ∷ xs) y h =
    ⊎_elim
    (λ e. (z, or_left (nat_eq z z) (has xs z) (eq-eqb z z refl), e))
    (λ e. let rest = flat_from f xs y e in (rest.0, or_right (nat_eq z rest.0) (has xs rest.0) rest.1, rest.2))
    (has_either (f z) (flat_map f xs) y h)

module _ (edges : List (List ℕ)) where
  abbrev R : ℕ → List ℕ → List ℕ
  R = through edges

  abbrev inner : ℕ → ℕ → List ℕ
  inner n k = R n (following edges k)

  rises : (n : ℕ) (s : List ℕ) (k : ℕ) → has (R n s) k ≡ true → has (R (suc n) s) k ≡ true
  unfolding through
  rises zero s k h = has_left s _ k h
  rises (suc n) s k h =
      ⊎_elim (λ e. has_left s _ k e)
      (λ e. let way = flat_from (inner n) s k e in
      has_right s _ k (flat_has (inner (suc n)) s way.0 k way.1 (rises n (following edges way.0) k way.2)))
      (has_either s (flat_map (inner n) s) k h)

  rises_by : (d n : ℕ) (s : List ℕ) (k : ℕ) → has (R n s) k ≡ true → has (R (d + n) s) k ≡ true
  rises_by zero n s k h = subst (λ m. has (R m s) k ≡ true) (let e : n ≡ 0 + n = omega arith in e) h
  rises_by (suc d) n s k h =
      subst (λ m. has (R m s) k ≡ true) (let e : suc (d + n) ≡ suc d + n = omega arith in e) (rises (d + n) s k (rises_by d n s k h))

  pub rises_to : (n m : ℕ) (s : List ℕ) (k : ℕ) → n ≤ m → has (R n s) k ≡ true → has (R m s) k ≡ true
  rises_to n m s k le h = subst (λ j. has (R j s) k ≡ true) (let e : m - n + n ≡ m = omega arith in e) (rises_by (m - n) n s k h)

  extends : (n : ℕ) (s : List ℕ) (k j : ℕ) → has (R n s) k ≡ true → has (following edges k) j ≡ true → has (R (suc n) s) j ≡ true
  unfolding through
  extends zero s k j h g = has_right s _ j (flat_has (inner 0) s k j h g)
  extends (suc n) s k j h g =
      ⊎_elim
      (λ e. has_right s _ j (flat_has (inner (suc n)) s k j e (has_left (following edges k) _ j g)))
      (λ e. let way = flat_from (inner n) s k e in
      has_right s _ j (flat_has (inner (suc n)) s way.0 j way.1 (extends n (following edges way.0) k j way.2 g)))
      (has_either s (flat_map (inner n) s) k h)

  none_follow : (es : List (List ℕ)) (k : ℕ) → length es ≤ k → or_none (slice_get es k) ≡ []
  none_follow [] k h = refl
  none_follow (e ∷ es) zero h = absurd (omega arith)
  none_follow (e ∷ es) (suc k) h = none_follow es k (omega arith)

  -- a set that has the starts and what follows each of its places has all that is reachable
  module _ (S : ℕ → Bool)
      (closed : (k : ℕ) → S k ≡ true → k < length edges → (j : ℕ) → has (following edges k) j ≡ true → j < length edges → S j ≡ true) where
    pub all_reached : (n : ℕ) (s : List ℕ) → ((k : ℕ) → has s k ≡ true → k < length edges → S k ≡ true) →
        (k : ℕ) → has (R n s) k ≡ true → k < length edges → S k ≡ true
    unfolding through
    all_reached zero s begun k h lt = begun k h lt
    all_reached (suc n) s begun k h lt =
        ⊎_elim (λ e. begun k e lt)
        (λ e. let way = flat_from (inner n) s k e in
        all_reached n (following edges way.0)
        (λ j g below.
        ⊎_elim
        (λ (inside : way.0 < length edges). closed way.0 (begun way.0 way.1 inside) inside j g below)
        (λ (past : length edges ≤ way.0). let none : has [] j ≡ true = subst (λ js. has js j ≡ true) (none_follow edges way.0 past) g in cc)
        (cases_lt way.0 (length edges)))
        k way.2 lt)
        (has_either s (flat_map (inner n) s) k h)

-- how many are marked
unfoldable pub marked : List Bool → ℕ
marked [] = 0
marked (b ∷ bs) = cond b 1 0 + marked bs

pub marked_within : (bs : List Bool) → marked bs ≤ length bs
unfolding marked
marked_within [] = omega arith
marked_within (true ∷ bs) = omega (arith, marked_within bs)
marked_within (false ∷ bs) = omega (arith, marked_within bs)

marked_more : (bs : List Bool) (k : ℕ) → k < length bs → get_or bs k false ≡ false → marked (set bs k true) ≡ suc (marked bs)
unfolding marked
marked_more [] k inside fails = absurd (omega arith)
marked_more (b ∷ bs) zero inside fails = rw fails (omega arith)
marked_more (b ∷ bs) (suc k) inside fails = omega (arith, marked_more bs k (omega arith) fails)

-- how far a worklist has come
pub record Progress (edges : List (List ℕ)) (starts : List ℕ) (seen : List Bool) (todo : List ℕ) : Type 0 where
  pub same : length seen ≡ length edges
  pub seen_is_reached : (k : ℕ) → get_or seen k false ≡ true → has (through edges (marked seen) starts) k ≡ true
  pub todo_is_reached : (k : ℕ) → has todo k ≡ true → has (through edges (marked seen) starts) k ≡ true
  pub begun : (k : ℕ) → has starts k ≡ true → k < length edges → (get_or seen k false ≡ true) ⊎ (has todo k ≡ true)
  pub closed : (k : ℕ) → get_or seen k false ≡ true → (j : ℕ) → has (following edges k) j ≡ true → j < length edges →
      (get_or seen j false ≡ true) ⊎ (has todo j ≡ true)

pub none_seen : (n k : ℕ) → get_or (replicate n false) k false ≡ false
none_seen zero k = refl
none_seen (suc n) zero = refl
none_seen (suc n) (suc k) = none_seen n k

pub length_none : (n : ℕ) → length (replicate n false) ≡ n
length_none zero = refl
length_none (suc n) = omega (arith, length_none n)

marked_none : (n : ℕ) → marked (replicate n false) ≡ 0
unfolding marked
marked_none zero = refl
marked_none (suc n) = omega (arith, marked_none n)

pub begins : (edges : List (List ℕ)) (starts : List ℕ) (n : ℕ) → n ≡ length edges → Progress edges starts (replicate n false) starts
unfolding through
begins edges starts n is = record {
  same = length_none n ∙ is;
  seen_is_reached = λ k h. let no_one = none_seen n k in cc;
  todo_is_reached = λ k h. rises_to edges 0 (marked (replicate n false)) starts k (omega arith) h;
  begun = λ k h lt. inr h;
  closed = λ k h j g lt. let no_one = none_seen n k in cc;
}

pub last_of : (rest : List ℕ) (p k : ℕ) → has (rest ++ p ∷ []) k ≡ true → (has rest k ≡ true) ⊎ (p ≡ k)
last_of rest p k h =
    ⊎_elim (λ e. inl e) (λ e. ⊎_elim (λ f. inr (eqb-true p k f)) (λ f. cc) (or_cases (nat_eq p k) false e)) (has_either rest (p ∷ []) k h)

-- a place that is none, or is marked, is passed over
pub passes_over : (edges : List (List ℕ)) (starts : List ℕ) (seen : List Bool) (todo rest : List ℕ) (p : ℕ) → Progress edges starts seen todo →
    todo ≡ rest ++ p ∷ [] → (length edges ≤ p) ⊎ (get_or seen p false ≡ true) → Progress edges starts seen rest
passes_over edges starts seen todo rest p was is why =
    let settle : (k : ℕ) → k < length edges → (get_or seen k false ≡ true) ⊎ (has todo k ≡ true) → (get_or seen k false ≡ true) ⊎ (has rest k ≡ true) =
    λ k lt now.
    ⊎_elim (λ e. inl e)
    (λ e. ⊎_elim (λ f. inr f)
    (λ (f : p ≡ k). inl (subst (λ j. get_or seen j false ≡ true) f
    (⊎_elim (λ past. absurd (omega arith)) (λ yes_seen. yes_seen) why)))
    (last_of rest p k (subst (λ xs. has xs k ≡ true) is e)))
    now in
    record {
      same = was.same;
      seen_is_reached = was.seen_is_reached;
      todo_is_reached = λ k h. was.todo_is_reached k (subst (λ xs. has xs k ≡ true) (sym is) (has_left rest (p ∷ []) k h));
      begun = λ k h lt. settle k lt (was.begun k h lt);
      closed = λ k h j g lt. settle j lt (was.closed k h j g lt);
    }

pub get_set : (bs : List Bool) (p k : ℕ) → p < length bs → (get_or (set bs p true) k false ≡ true) → (p ≡ k) ⊎ (get_or bs k false ≡ true)
get_set [] p k inside h = absurd (omega arith)
get_set (b ∷ bs) zero zero inside h = inl refl
get_set (b ∷ bs) zero (suc k) inside h = inr h
get_set (b ∷ bs) (suc p) zero inside h = inr h
get_set (b ∷ bs) (suc p) (suc k) inside h = ⊎_elim (λ e. inl (ap suc e)) (λ e. inr e) (get_set bs p k (omega arith) h)

pub set_keeps : (bs : List Bool) (p k : ℕ) → get_or bs k false ≡ true → get_or (set bs p true) k false ≡ true
set_keeps [] p k h = h
set_keeps (b ∷ bs) zero zero h = refl
set_keeps (b ∷ bs) zero (suc k) h = h
set_keeps (b ∷ bs) (suc p) zero h = h
set_keeps (b ∷ bs) (suc p) (suc k) h = set_keeps bs p k h

pub set_marks : (bs : List Bool) (p : ℕ) → p < length bs → get_or (set bs p true) p false ≡ true
set_marks [] p inside = absurd (omega arith)
set_marks (b ∷ bs) zero inside = refl
set_marks (b ∷ bs) (suc p) inside = set_marks bs p (omega arith)

pub length_set : (bs : List Bool) (p : ℕ) → length (set bs p true) ≡ length bs
length_set [] p = refl
length_set (b ∷ bs) zero = refl
length_set (b ∷ bs) (suc p) = ap suc (length_set bs p)

-- a place that is marked puts those after it on the list
pub marks : (edges : List (List ℕ)) (starts : List ℕ) (seen : List Bool) (todo rest more : List ℕ) (p : ℕ) → Progress edges starts seen todo →
    todo ≡ rest ++ p ∷ [] → p < length seen → get_or seen p false ≡ false → more ≡ rest ++ following edges p →
    Progress edges starts (set seen p true) more
marks edges starts seen todo rest more p was is inside fresh made =
    let prepend_part : marked (set seen p true) ≡ suc (marked seen) = marked_more seen p inside fresh in
    let higher : (k : ℕ) → has (through edges (marked seen) starts) k ≡ true → has (through edges (marked (set seen p true)) starts) k ≡ true =
    λ k h. rises_to edges (marked seen) (marked (set seen p true)) starts k (omega (arith, prepend_part)) h in
    let here : has (through edges (marked seen) starts) p ≡ true =
    was.todo_is_reached p (subst (λ xs. has xs p ≡ true) (sym is) (has_right rest (p ∷ []) p (or_left (nat_eq p p) false (eq-eqb p p refl)))) in
    let settle : (k : ℕ) → (get_or seen k false ≡ true) ⊎ (has todo k ≡ true) → (get_or (set seen p true) k false ≡ true) ⊎ (has more k ≡ true) =
    λ k now.
    ⊎_elim (λ e. inl (set_keeps seen p k e))
    (λ e. ⊎_elim (λ f. inr (subst (λ xs. has xs k ≡ true) (sym made) (has_left rest (following edges p) k f)))
    (λ (f : p ≡ k). inl (subst (λ j. get_or (set seen p true) j false ≡ true) f (set_marks seen p inside)))
    (last_of rest p k (subst (λ xs. has xs k ≡ true) is e)))
    now in
    record {
      same = length_set seen p ∙ was.same;
      seen_is_reached = λ k h.
          ⊎_elim (λ (e : p ≡ k). higher k (subst (λ j. has (through edges (marked seen) starts) j ≡ true) e here))
          (λ e. higher k (was.seen_is_reached k e)) (get_set seen p k inside h);
      todo_is_reached = λ k h.
          ⊎_elim
          (λ e. higher k (was.todo_is_reached k (subst (λ xs. has xs k ≡ true) (sym is) (has_left rest (p ∷ []) k e))))
          (λ e. subst (λ m. has (through edges m starts) k ≡ true) (sym prepend_part) (extends edges (marked seen) starts p k here e))
          (has_either rest (following edges p) k (subst (λ xs. has xs k ≡ true) made h));
      begun = λ k h lt. settle k (was.begun k h lt);
      closed = λ k h j g lt.
          ⊎_elim
          (λ (e : p ≡ k). inr (subst (λ xs. has xs j ≡ true) (sym made)
          (has_right rest (following edges p) j (subst (λ i. has (following edges i) j ≡ true) (sym e) g))))
          (λ e. settle j (was.closed k e j g lt)) (get_set seen p k inside h);
    }

pub settled : (a b : Bool) → (a ≡ true → b ≡ true) → (b ≡ true → a ≡ true) → a ≡ b
settled true b f g = sym (f refl)
settled false true f g = g refl
settled false false f g = refl

-- When nothing is left, all that is reachable is marked, and nothing else.
pub finished : (edges : List (List ℕ)) (starts : List ℕ) (seen : List Bool) → Progress edges starts seen [] →
    (k : ℕ) → k < length edges → get_or seen k false ≡ has (through edges (length edges) starts) k
finished edges starts seen was k lt =
    let left_over : (j : ℕ) → (get_or seen j false ≡ true) ⊎ (has [] j ≡ true) → get_or seen j false ≡ true =
    λ j now. ⊎_elim (λ e. e) (λ e. cc) now in
    settled (get_or seen k false) (has (through edges (length edges) starts) k)
    (λ h. rises_to edges (marked seen) (length edges) starts k (omega (arith, marked_within seen, was.same)) (was.seen_is_reached k h))
    (λ h. all_reached edges (λ j. get_or seen j false)
    (λ i now below j g lt2. left_over j (was.closed i now j g lt2))
    (length edges) starts (λ j g lt2. left_over j (was.begun j g lt2)) k h lt)

pub row_at : (es : List (Vec ℕ Global)) (p : ℕ) (v : Vec ℕ Global) → p < length es → v ≡ get_or es p v → following (rows es) p ≡ v.items
row_at [] p v inside is = absurd (omega arith)
row_at (e ∷ es) zero v inside is = ap (λ w. w.items) (sym is)
row_at (e ∷ es) (suc p) v inside is = row_at es p v (omega arith) is

pub length_rows : (es : List (Vec ℕ Global)) → length (rows es) ≡ length es
length_rows [] = refl
length_rows (e ∷ es) = ap suc (length_rows es)
