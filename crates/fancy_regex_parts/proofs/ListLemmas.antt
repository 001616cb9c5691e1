-- Lists of writes that share their ends.
use Rattle.std.proofs.Common.{◌≡◌, ◌∙◌, ℕ, ◌+◌, ◌-◌, ◌^◌, ◌<◌, ◌≤◌, ◌⊎◌, List, [], ◌∷◌, ◌++◌, length, get_or, take, drop, refl, sym, ap, subst, inl, inr, arith, append_assoc, take-append-drop, length-append, length-set, length-take, set, set-set, take_all, min}
use Rattle.std.proofs.lemmas.Bool.{cases_eq, cases_lt}
use Rattle.std.proofs.lemmas.List.{get_or_append_left, get_or_push, get_or_past, length_push, set_comm, set_past, take_more}
use Rattle.fancy_regex_parts.specs.Writes.{apply, list_of, pair_of, pairs_of, tabled, IsExtended, IsWritten, SameWrites}
use Rattle.fancy_regex_parts.specs.declared.writes.Write.{Write}

abbrev Lists : Type 0
Lists = List (List (ℕ × ℕ))

-- the lists by their numbers
long : (lists : Lists) (ws : List Write) → length (tabled lists ws) ≡ length lists + length ws
unfolding tabled
long lists [] = omega arith
long lists (w ∷ ws) = omega (arith, long (lists ++ (pair_of w ∷ get_or lists w.rest []) ∷ []) ws, length_push lists (pair_of w ∷ get_or lists w.rest []))

stays : (lists : Lists) (ws : List Write) (k : ℕ) → k < length lists → get_or (tabled lists ws) k [] ≡ get_or lists k []
unfolding tabled
stays lists [] k low = refl
stays lists (w ∷ ws) k low =
    let list : List (ℕ × ℕ) = pair_of w ∷ get_or lists w.rest [] in
    stays (lists ++ list ∷ []) ws k (omega (arith, low, length_push lists list)) ∙ get_or_append_left lists (list ∷ []) [] k low

tabled_both : (lists : Lists) (xs ys : List Write) → tabled lists (xs ++ ys) ≡ tabled (tabled lists xs) ys
unfolding tabled
tabled_both lists [] ys = refl
tabled_both lists (w ∷ xs) ys = tabled_both (lists ++ (pair_of w ∷ get_or lists w.rest []) ∷ []) xs ys

abbrev all : List Write → Lists
all writes = tabled ([] ∷ []) writes

all_long : (writes : List Write) → length (all writes) ≡ length writes + 1
all_long writes = omega (arith, long ([] ∷ []) writes)

-- the list of no write
pub list_none : (writes : List Write) → list_of writes 0 ≡ []
unfolding list_of
list_none writes = stays ([] ∷ []) writes 0 (omega arith)

-- a number that no list has
pub list_past : (writes : List Write) (k : ℕ) → length writes < k → list_of writes k ≡ []
unfolding list_of
list_past writes k high = get_or_past (all writes) k [] (omega (arith, high, all_long writes))

-- more writes leave the lists as they are
pub extended_by : (writes more : List Write) → IsExtended writes (writes ++ more)
unfolding list_of
extended_by writes more = record {
  more = omega (arith, length-append writes more);
  same = λ k le.
      ap (λ (l : Lists). get_or l k []) (tabled_both ([] ∷ []) writes more)
      ∙ stays (all writes) more k (omega (arith, le, all_long writes));
}

pub extended_none : (writes : List Write) → IsExtended writes writes
extended_none writes = record { more = omega arith; same = λ k le. refl }

pub extended_on : {a b c : List Write} → IsExtended a b → IsExtended b c → IsExtended a c
extended_on one two = record {
  more = omega (arith, one.more, two.more);
  same = λ k le. two.same k (omega (arith, le, one.more)) ∙ one.same k le;
}

-- a new write begins a list
pub list_pushed : (writes : List Write) (w : Write) (k : ℕ) → length writes + 1 ≡ k → list_of (writes ++ w ∷ []) k ≡ pair_of w ∷ list_of writes w.rest
unfolding list_of tabled
list_pushed writes w k is =
    ap (λ (l : Lists). get_or l k []) (tabled_both ([] ∷ []) writes (w ∷ []))
    ∙ get_or_push (all writes) (pair_of w ∷ get_or (all writes) w.rest []) [] k (omega (arith, is, all_long writes))

-- the list that a write begins
module _ (writes : List Write) (k : ℕ) (d : Write) (low : k < length writes) where
  abbrev here : Write
  here = get_or writes k d

  length_before : length (take k writes) ≡ k
  length_before = omega (arith, length-take k writes, low)

  parts : take k writes ++ ((here ∷ []) ++ drop (k + 1) writes) ≡ writes
  parts = sym (append_assoc (take k writes) (here ∷ []) (drop (k + 1) writes)) ∙ ap (λ (l : List Write). l ++ drop (k + 1) writes) (sym (take_more writes k d low)) ∙ take-append-drop (k + 1) writes

  before : IsExtended (take k writes) writes
  before = subst (IsExtended (take k writes)) parts (extended_by (take k writes) ((here ∷ []) ++ drop (k + 1) writes))

  with_it : IsExtended (take k writes ++ (here ∷ [])) writes
  with_it =
      subst (IsExtended (take k writes ++ (here ∷ [])))
      (append_assoc (take k writes) (here ∷ []) (drop (k + 1) writes) ∙ parts)
      (extended_by (take k writes ++ (here ∷ [])) (drop (k + 1) writes))

  begins : list_of writes (k + 1) ≡ pair_of here ∷ list_of (take k writes) here.rest
  begins =
      with_it.same (k + 1) (omega (arith, length_push (take k writes) here, length_before))
      ∙ list_pushed (take k writes) here (k + 1) (omega (arith, length_before))

  pub first_low : here.rest < k + 1 → list_of writes (k + 1) ≡ pair_of here ∷ list_of writes here.rest
  first_low le = begins ∙ ap (λ (l : List (ℕ × ℕ)). pair_of here ∷ l) (sym (before.same here.rest (omega (arith, le, length_before))))

  pub first_high : k + 1 ≤ here.rest → list_of writes (k + 1) ≡ pair_of here ∷ list_of writes 0
  first_high high =
      begins
      ∙ ap (λ (l : List (ℕ × ℕ)). pair_of here ∷ l)
      (list_past (take k writes) here.rest (omega (arith, high, length_before)) ∙ sym (list_none writes))

-- where the first write of a list was looked up
pub first_at : (writes : List Write) (list rest : ℕ) (d : Write) → 1 ≤ list → list ≤ length writes
    → ((get_or writes (list - 1) d).rest < list → rest ≡ (get_or writes (list - 1) d).rest) → (list ≤ (get_or writes (list - 1) d).rest → rest ≡ 0)
    → (rest < list) × (list_of writes list ≡ pair_of (get_or writes (list - 1) d) ∷ list_of writes rest)
first_at writes list rest d some low at_low at_high =
    let w : Write = get_or writes (list - 1) d in
    let number : list - 1 + 1 ≡ list = omega (arith, some) in
    elim (cases_lt w.rest list) [
      | inl less ↦ (
        omega (arith, less, at_low less),
        ap (list_of writes) (sym number) ∙ first_low writes (list - 1) d (omega (arith, some, low)) (omega (arith, some, less))
            ∙ ap (λ (n : ℕ). pair_of w ∷ list_of writes n) (sym (at_low less)),
      )
      | inr high ↦ (
        omega (arith, some, at_high high),
        ap (list_of writes) (sym number) ∙ first_high writes (list - 1) d (omega (arith, some, low)) (omega (arith, some, high))
            ∙ ap (λ (n : ℕ). pair_of w ∷ list_of writes n) (sym (at_high high)),
      )
    ]

-- a number that some list has
pub written_low : (writes : List Write) (slot k : ℕ) → IsWritten slot (list_of writes k) → k ≤ length writes
written_low writes slot k written =
    elim (cases_lt (length writes) k) [
      | inl high ↦ absurd (subst (IsWritten slot) (list_past writes k high) written)
      | inr low ↦ low
    ]

-- a number that was looked up
pub known_list : (writes : List Write) (list known : ℕ) → (list ≤ length writes → known ≡ list) → (length writes < list → known ≡ 0)
    → (known ≤ length writes) × (list_of writes known ≡ list_of writes list)
known_list writes list known low high =
    elim (cases_lt (length writes) list) [
      | inl past ↦ (omega (arith, high past), ap (list_of writes) (high past) ∙ list_none writes ∙ sym (list_past writes list past))
      | inr there ↦ (omega (arith, low (omega (arith, there)), there), ap (list_of writes) (low (omega (arith, there))))
    ]

-- fewer writes
pub list_taken : (writes : List Write) (n k : ℕ) → k ≤ n → list_of (take n writes) k ≡ list_of writes k
list_taken writes n k le =
    elim (cases_lt (length writes) n) [
      | inl high ↦ ap (λ (l : List Write). list_of l k) (take_all n writes (omega (arith, high)))
      | inr low ↦
          sym ((subst (IsExtended (take n writes)) (take-append-drop n writes) (extended_by (take n writes) (drop n writes))).same k
          (omega (arith, le, low, length-take n writes)))
    ]

-- the slots after writes in turn
pub apply_both : (xs ys : List (ℕ × ℕ)) (slots : List ℕ) → apply (xs ++ ys) slots ≡ apply ys (apply xs slots)
unfolding apply
apply_both [] ys slots = refl
apply_both (x ∷ xs) ys slots = apply_both xs ys (set slots x.0 x.1)

pub apply_none : (slots : List ℕ) → apply [] slots ≡ slots
unfolding apply
apply_none slots = refl

pub apply_first : (w : ℕ × ℕ) (ws : List (ℕ × ℕ)) (slots : List ℕ) → apply (w ∷ ws) slots ≡ apply ws (set slots w.0 w.1)
unfolding apply
apply_first w ws slots = refl

length_applied : (ws : List (ℕ × ℕ)) (slots : List ℕ) → length (apply ws slots) ≡ length slots
unfolding apply
length_applied [] slots = refl
length_applied (w ∷ ws) slots = length_applied ws (set slots w.0 w.1) ∙ length-set slots w.0 w.1

pub same_by : (ws vs : List (ℕ × ℕ)) → ws ≡ vs → SameWrites ws vs
same_by ws vs is slots small = ap (λ (l : List (ℕ × ℕ)). apply l slots) is

pub same_on : (us vs ws : List (ℕ × ℕ)) → SameWrites us vs → SameWrites vs ws → SameWrites us ws
same_on us vs ws one two slots small = one slots small ∙ two slots small

pub same_back : (us vs : List (ℕ × ℕ)) → SameWrites us vs → SameWrites vs us
same_back us vs one slots small = sym (one slots small)

pub same_after : (xs us vs : List (ℕ × ℕ)) → SameWrites us vs → SameWrites (xs ++ us) (xs ++ vs)
same_after xs us vs same slots small =
    apply_both xs us slots ∙ same (apply xs slots) (omega (arith, small, length_applied xs slots)) ∙ sym (apply_both xs vs slots)

pub same_before : (xs us vs : List (ℕ × ℕ)) → SameWrites us vs → SameWrites (us ++ xs) (vs ++ xs)
same_before xs us vs same slots small =
    apply_both us xs slots ∙ ap (apply xs) (same slots small) ∙ sym (apply_both vs xs slots)

-- a write of a slot that is written later does not count
pub written_over : (slot at : ℕ) (ws : List (ℕ × ℕ)) (slots : List ℕ) → IsWritten slot ws → apply ws slots ≡ apply ws (set slots slot at)
unfolding apply
written_over slot at [] slots written = absurd written
written_over slot at (w ∷ ws) slots written =
    elim (cases_eq w.0 slot) [
      | inl same ↦
          ap (apply ws)
          (sym (set-set slots w.0 at w.1) ∙ ap (λ (n : ℕ). set (set slots n at) w.0 w.1) same)
      | inr other ↦ elim written [
        | inl same ↦ absurd (other same)
        | inr later ↦
            written_over slot at ws (set slots w.0 w.1) later
            ∙ ap (apply ws) (set_comm slots w.0 slot w.1 at other)
      ]
    ]

-- a slot of a number past all of a `usize`
capped : (real slot at : ℕ) (ws : List (ℕ × ℕ)) → (slot ≡ real) ⊎ ((2 ^ 63 ≤ slot) × (2 ^ 63 ≤ real)) → SameWrites ((slot, at) ∷ ws) ((real, at) ∷ ws)
unfolding apply
capped real slot at ws (inl same) slots small = ap (λ (n : ℕ). apply ws (set slots n at)) same
capped real slot at ws (inr high) slots small =
    ap (apply ws) (set_past slots slot at (omega (arith, small, high.0)) ∙ sym (set_past slots real at (omega (arith, small, high.1))))

pub capped_min : (real slot at : ℕ) (ws : List (ℕ × ℕ)) → slot ≡ min real 18446744073709551615 → SameWrites ((slot, at) ∷ ws) ((real, at) ∷ ws)
capped_min real slot at ws is =
    capped real slot at ws
    (elim (cases_lt real 18446744073709551615) [
      | inl low ↦ inl (omega (arith, is, low))
      | inr high ↦ inr (omega (arith, is, high), omega (arith, high))
    ])

pub pairs_none : pairs_of [] ≡ []
unfolding pairs_of
pairs_none = refl

pub pairs_pushed : (ws : List Write) (w : Write) → pairs_of (ws ++ w ∷ []) ≡ pairs_of ws ++ pair_of w ∷ []
unfolding pairs_of
pairs_pushed [] w = refl
pairs_pushed (x ∷ ws) w = ap (λ (l : List (ℕ × ℕ)). pair_of x ∷ l) (pairs_pushed ws w)
