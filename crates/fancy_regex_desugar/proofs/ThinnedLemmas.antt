-- What a list of ways and a thinned one have in common, and what keeps ways thinned.
use Rattle.std.proofs.Common.{◌≡◌, ℕ, zero, suc, ◌<◌, ◌≤◌, Bool, true, false, cond, List, [], ◌∷◌, ◌++◌, map, Option, Some, None, refl, sym, ap, ◌∙◌, subst, arith}
use Rattle.std.specs.Prelude.{◌==◌, ◌&&◌, not, nat_le, nat_lt, is_some, option_map, sum_by}
use Rattle.std.specs.Option.{option_or}
use Rattle.std.specs.List.{find, flat_map, filter, list_all}
use Rattle.std.proofs.lemmas.Bool.Decides.{nat_tests}
use Rattle.std.proofs.lemmas.List.Folds.{find-append}
use Rattle.std.proofs.lemmas.List.Sums.{sum_by-cons}
use mathlib.Core.Path.{fun_ext}
use Rattle.fancy_regex_meaning.specs.Ways.{MatchState, Moves, first_only, is_none_of, prefer, due, up_to, loop}
use Rattle.fancy_regex_meaning.specs.Searches.{first_item, first_some, first_longest, farther, chosen}
use Rattle.fancy_regex_desugar.specs.Thinned.{IsSublist, at_end, kept, left_out, Thinned}

-- at each state
abbrev pub Thins : Moves → Moves → Type 0
Thins f g = (w : MatchState) → Thinned (f w) (g w)

-- sub-lists
sub_same : {A : Type 0} (xs : List A) → IsSublist xs xs
sub_same [] = at_end
sub_same (x ∷ xs) = kept (sub_same xs)

sub_none : {A : Type 0} (xs : List A) → IsSublist xs []
sub_none [] = at_end
sub_none (x ∷ xs) = left_out (sub_none xs)

sub_append : {A : Type 0} {ps qs us vs : List A} → IsSublist ps qs → IsSublist us vs → IsSublist (ps ++ us) (qs ++ vs)
sub_append at_end k = k
sub_append (kept h) k = kept (sub_append h k)
sub_append (left_out h) k = left_out (sub_append h k)

sub_flat_map : {A B : Type 0} (f g : A → List B) → ((x : A) → IsSublist (f x) (g x)) → {xs ys : List A} → IsSublist xs ys →
    IsSublist (flat_map f xs) (flat_map g ys)
sub_flat_map f g h at_end = at_end
sub_flat_map f g h (kept {x = x} k) = sub_append (h x) (sub_flat_map f g h k)
sub_flat_map f g h (left_out {x = x} k) = sub_append (sub_none (f x)) (sub_flat_map f g h k)

sub_map : {A B : Type 0} (f : A → B) {xs ys : List A} → IsSublist xs ys → IsSublist (map f xs) (map f ys)
sub_map f at_end = at_end
sub_map f (kept h) = kept (sub_map f h)
sub_map f (left_out h) = left_out (sub_map f h)

sub_fewer : {A : Type 0} (weight : A → ℕ) {xs ys : List A} → IsSublist xs ys → sum_by weight ys ≤ sum_by weight xs
sub_fewer weight at_end = omega arith
sub_fewer weight (kept {x = x} {all = xs} {some = ys} h) = omega (arith, sum_by-cons weight x xs, sum_by-cons weight x ys, sub_fewer weight h)
sub_fewer weight (left_out {x = x} {all = xs} h) = omega (arith, sum_by-cons weight x xs, sub_fewer weight h)

-- a sum over a thinned list is at most that over the whole one
pub thin_fewer : (weight : MatchState → ℕ) (vs ws : List MatchState) → Thinned vs ws → sum_by weight ws ≤ sum_by weight vs
thin_fewer weight vs ws h = sub_fewer weight h.in_order

pub thin_same : (ws : List MatchState) → Thinned ws ws
thin_same ws = record { in_order = sub_same ws; firsts = λ test. refl }

pub thin_equal : (vs ws : List MatchState) → vs ≡ ws → Thinned vs ws
thin_equal vs ws e = subst (λ us. Thinned vs us) e (thin_same vs)

pub thin_append : (ps qs us vs : List MatchState) → Thinned ps qs → Thinned us vs → Thinned (ps ++ us) (qs ++ vs)
thin_append ps qs us vs h k = record {
  in_order = sub_append h.in_order k.in_order;
  firsts = λ test. find-append test ps us ∙ (λ i. option_or (h.firsts test i) (k.firsts test i)) ∙ sym (find-append test qs vs);
}

pub thin_prefer : (greedy : Bool) (ps qs us vs : List MatchState) → Thinned ps qs → Thinned us vs → Thinned (prefer greedy ps us) (prefer greedy qs vs)
thin_prefer true ps qs us vs h k = thin_append ps qs us vs h k
thin_prefer false ps qs us vs h k = thin_append us vs ps qs k h

-- the value at what was found
abbrev value_at : (MatchState → Option MatchState) → Option MatchState → Option MatchState
value_at h None = None
value_at h (Some w) = h w

first_is_found : (h : MatchState → Option MatchState) (ws : List MatchState) → first_some h ws ≡ value_at h (find (λ w. is_some (h w)) ws)
first_is_found h [] = refl
first_is_found h (w ∷ ws) = by_value (h w) (first_is_found h ws) refl
  where
    by_value : (o : Option MatchState) → first_some h ws ≡ value_at h (find (λ v. is_some (h v)) ws) → h w ≡ o →
        (elim o [ None ↦ first_some h ws | Some v ↦ Some v ]) ≡ value_at h (cond (is_some o) (Some w) (find (λ v. is_some (h v)) ws))
    by_value None later e = later
    by_value (Some v) later e = sym e

find-flat_map : (test : MatchState → Bool) (f : Moves) (ws : List MatchState) → find test (flat_map f ws) ≡ first_some (λ w. find test (f w)) ws
find-flat_map test f [] = refl
find-flat_map test f (w ∷ ws) =
    find-append test (f w) (flat_map f ws) ∙ ap (option_or (find test (f w))) (find-flat_map test f ws) ∙ by_value (find test (f w))
  where
    by_value : (o : Option MatchState) →
        option_or o (first_some (λ v. find test (f v)) ws) ≡ (elim o [ None ↦ first_some (λ v. find test (f v)) ws | Some v ↦ Some v ])
    by_value None = refl
    by_value (Some v) = refl

-- what is found after the ways of a thinned list, where the same is found after each way
pub same_found : (test : MatchState → Bool) (f g : Moves) → ((w : MatchState) → find test (f w) ≡ find test (g w)) → (vs ws : List MatchState) → Thinned vs ws →
    find test (flat_map f vs) ≡ find test (flat_map g ws)
same_found test f g h vs ws k =
    let first : Moves → MatchState → Option MatchState = λ m w. find test (m w) in
    find-flat_map test f vs ∙ ap (λ v. first_some v vs) (fun_ext {f = first f} {g = first g} h)
    ∙ first_is_found (first g) vs ∙ ap (value_at (first g)) (k.firsts (λ w. is_some (first g w)))
    ∙ sym (first_is_found (first g) ws) ∙ sym (find-flat_map test g ws)

pub thin_flat_map : (f g : Moves) → Thins f g → (vs ws : List MatchState) → Thinned vs ws → Thinned (flat_map f vs) (flat_map g ws)
thin_flat_map f g h vs ws k = record {
  in_order = sub_flat_map f g (λ w. (h w).in_order) k.in_order;
  firsts = λ test. same_found test f g (λ w. (h w).firsts test) vs ws k;
}

find-map : (test : MatchState → Bool) (f : MatchState → MatchState) (ws : List MatchState) →
    find test (map f ws) ≡ option_map f (find (λ w. test (f w)) ws)
find-map test f [] = refl
find-map test f (w ∷ ws) = by_test (test (f w)) (find-map test f ws)
  where
    by_test : (b : Bool) → find test (map f ws) ≡ option_map f (find (λ v. test (f v)) ws) →
        cond b (Some (f w)) (find test (map f ws)) ≡ option_map f (cond b (Some w) (find (λ v. test (f v)) ws))
    by_test true later = refl
    by_test false later = later

pub thin_map : (f : MatchState → MatchState) (vs ws : List MatchState) → Thinned vs ws → Thinned (map f vs) (map f ws)
thin_map f vs ws h = record {
  in_order = sub_map f h.in_order;
  firsts = λ test. find-map test f vs ∙ ap (option_map f) (h.firsts (λ w. test (f w))) ∙ sym (find-map test f ws);
}

-- any number of the same way, and one of it
pub thin_repeated : (X : Type 0) (w : MatchState) (x : X) (xs : List X) → Thinned (map (λ y. w) (x ∷ xs)) (w ∷ [])
thin_repeated X w x xs = record {
  in_order = kept (sub_none (map (λ y. w) xs));
  firsts = λ test. by_test test (test w) refl;
}
  where
    others : (test : MatchState → Bool) → test w ≡ false → (ys : List X) → find test (map (λ y. w) ys) ≡ None
    others test e [] = refl
    others test e (y ∷ ys) = ap (λ b. cond b (Some w) (find test (map (λ z. w) ys))) e ∙ others test e ys

    by_test : (test : MatchState → Bool) (b : Bool) → test w ≡ b → cond b (Some w) (find test (map (λ y. w) xs)) ≡ cond b (Some w) None
    by_test test true e = refl
    by_test test false e = others test e xs

-- whether there is a way, and the first one
abbrev listed : Option MatchState → List MatchState
listed None = []
listed (Some w) = w ∷ []

pub same_first : (vs ws : List MatchState) → Thinned vs ws → first_only vs ≡ first_only ws
same_first vs ws h = found vs ∙ ap listed (h.firsts (λ w. true)) ∙ sym (found ws)
  where
    found : (us : List MatchState) → first_only us ≡ listed (find (λ w. true) us)
    found [] = refl
    found (u ∷ us) = refl

pub same_none : (vs ws : List MatchState) → Thinned vs ws → is_none_of vs ≡ is_none_of ws
same_none vs ws h = found vs ∙ ap (λ o. not (is_some o)) (h.firsts (λ w. true)) ∙ sym (found ws)
  where
    found : (us : List MatchState) → is_none_of us ≡ not (is_some (find (λ w. true) us))
    found [] = refl
    found (u ∷ us) = refl

all_pass : (test : MatchState → Bool) (ws : List MatchState) → list_all test ws ≡ not (is_some (find (λ w. not (test w)) ws))
all_pass test [] = refl
all_pass test (w ∷ ws) = by_test (test w) (all_pass test ws)
  where
    by_test : (b : Bool) → list_all test ws ≡ not (is_some (find (λ v. not (test v)) ws)) →
        (b && list_all test ws) ≡ not (is_some (cond (not b) (Some w) (find (λ v. not (test v)) ws)))
    by_test true later = later
    by_test false later = refl

pub same_all_pass : (test : MatchState → Bool) (vs ws : List MatchState) → Thinned vs ws → list_all test vs ≡ list_all test ws
same_all_pass test vs ws h = all_pass test vs ∙ ap (λ o. not (is_some o)) (h.firsts (λ w. not (test w))) ∙ sym (all_pass test ws)

pub thin_due : (n : ℕ) (f g rest last : Moves) → Thins f g → Thins rest last → Thins (due n f rest) (due n g last)
thin_due zero f g rest last h k w = k w
thin_due (suc n) f g rest last h k w = thin_flat_map (due n f rest) (due n g last) (thin_due n f g rest last h k) (f w) (g w) (h w)

pub thin_up_to : (n : ℕ) (greedy : Bool) (f g : Moves) → Thins f g → Thins (up_to n greedy f) (up_to n greedy g)
thin_up_to zero greedy f g h w = thin_same (w ∷ [])
thin_up_to (suc n) greedy f g h w =
    thin_prefer greedy _ _ (w ∷ []) (w ∷ [])
    (thin_flat_map (up_to n greedy f) (up_to n greedy g) (thin_up_to n greedy f g h) (f w) (g w) (h w)) (thin_same (w ∷ []))

thin_either : (b : Bool) (ps qs us vs : List MatchState) → Thinned ps qs → Thinned us vs → Thinned (cond b ps us) (cond b qs vs)
thin_either true ps qs us vs h k = h
thin_either false ps qs us vs h k = k

pub thin_loop : (n : ℕ) (greedy : Bool) (f g : Moves) → Thins f g → Thins (loop n greedy f) (loop n greedy g)
thin_loop zero greedy f g h w = thin_same []
thin_loop (suc n) greedy f g h w =
    thin_prefer greedy _ _ (w ∷ []) (w ∷ [])
    (thin_flat_map (λ v. cond (v.position == w.position) (v ∷ []) (loop n greedy f v)) (λ v. cond (v.position == w.position) (v ∷ []) (loop n greedy g v))
    (λ v. thin_either (v.position == w.position) (v ∷ []) (v ∷ []) _ _ (thin_same (v ∷ [])) (thin_loop n greedy f g h v)) (f w) (g w) (h w))
    (thin_same (w ∷ []))

-- The first of those that end last is the first that ends where it does or later, and none ends later.
abbrev IsLongest : List MatchState → Option MatchState → Type 0
IsLongest ws None = (test : MatchState → Bool) → find test ws ≡ None
IsLongest ws (Some v) = (find (λ w. nat_le v.position w.position) ws ≡ Some v) × (find (λ w. nat_lt v.position w.position) ws ≡ None)

-- what passes the second test passes the first one
none_pass : (first second : MatchState → Bool) → ((w : MatchState) → first w ≡ false → second w ≡ false) → (ws : List MatchState) →
    find first ws ≡ None → find second ws ≡ None
none_pass first second h [] e = refl
none_pass first second h (w ∷ ws) e = by_test (none_pass first second h ws) (first w) refl e
  where
    by_test : (find first ws ≡ None → find second ws ≡ None) → (b : Bool) → first w ≡ b → cond b (Some w) (find first ws) ≡ None →
        cond (second w) (Some w) (find second ws) ≡ None
    by_test later true is none = cc
    by_test later false is none = ap (λ b. cond b (Some w) (find second ws)) (h w is) ∙ later none

is_longest : (ws : List MatchState) → IsLongest ws (first_longest ws)
is_longest [] = λ test. refl
is_longest (w ∷ ws) = with_first (first_longest ws) (is_longest ws)
  where
    here : nat_le w.position w.position ≡ true
    here = grind (arith, nat_tests)

    not_later : nat_lt w.position w.position ≡ false
    not_later = grind (arith, nat_tests)

    by_test : (v : MatchState) (b : Bool) → nat_lt w.position v.position ≡ b → IsLongest ws (Some v) → IsLongest (w ∷ ws) (Some (cond b v w))
    by_test v true is h =
        let before : nat_le v.position w.position ≡ false = grind (arith, nat_tests) in
        let below : nat_lt v.position w.position ≡ false = grind (arith, nat_tests) in (
          ap (λ b. cond b (Some w) (find (λ u. nat_le v.position u.position) ws)) before ∙ h.0,
          ap (λ b. cond b (Some w) (find (λ u. nat_lt v.position u.position) ws)) below ∙ h.1,
        )
    by_test v false is h = (
      ap (λ b. cond b (Some w) (find (λ u. nat_le w.position u.position) ws)) here,
      ap (λ b. cond b (Some w) (find (λ u. nat_lt w.position u.position) ws)) not_later
          ∙ none_pass (λ u. nat_lt v.position u.position) (λ u. nat_lt w.position u.position) (λ u e. grind (arith, nat_tests)) ws h.1,
    )

    with_first : (o : Option MatchState) → IsLongest ws o → IsLongest (w ∷ ws) (Some (farther w o))
    with_first None h = (
      ap (λ b. cond b (Some w) (find (λ u. nat_le w.position u.position) ws)) here,
      ap (λ b. cond b (Some w) (find (λ u. nat_lt w.position u.position) ws)) not_later ∙ h (λ u. nat_lt w.position u.position),
    )
    with_first (Some v) h = by_test v (nat_lt w.position v.position) refl h

module _ (vs ws : List MatchState) (same : (test : MatchState → Bool) → find test vs ≡ find test ws) where
  -- a way that ends later than all of one list is not in the other
  later_is_none : (u v : MatchState) → u.position < v.position → (us : List MatchState) → find (λ w. nat_lt u.position w.position) us ≡ None →
      find (λ w. nat_le v.position w.position) us ≡ None
  later_is_none u v lt us none = none_pass (λ w. nat_lt u.position w.position) (λ w. nat_le v.position w.position) (λ w e. grind (arith, nat_tests)) us none

  one_longest : (o p : Option MatchState) → IsLongest vs o → IsLongest ws p → o ≡ p
  one_longest None None h k = refl
  one_longest None (Some v) h k = sym (h (λ w. nat_le v.position w.position)) ∙ same (λ w. nat_le v.position w.position) ∙ k.0
  one_longest (Some u) None h k = sym h.0 ∙ same (λ w. nat_le u.position w.position) ∙ k (λ w. nat_le u.position w.position)
  one_longest (Some u) (Some v) h k = by_order (nat_lt u.position v.position) (nat_lt v.position u.position) refl refl
    where
      by_order : (b c : Bool) → nat_lt u.position v.position ≡ b → nat_lt v.position u.position ≡ c → Some u ≡ Some v
      by_order true c before is =
          let lt : u.position < v.position = grind (arith, nat_tests) in
          let none : find (λ w. nat_le v.position w.position) vs ≡ None = later_is_none u v lt vs h.1 in
          let some : find (λ w. nat_le v.position w.position) vs ≡ Some v = same (λ w. nat_le v.position w.position) ∙ k.0 in
          cc
      by_order false true before is =
          let lt : v.position < u.position = grind (arith, nat_tests) in
          let none : find (λ w. nat_le u.position w.position) ws ≡ None = later_is_none v u lt ws k.1 in
          let some : find (λ w. nat_le u.position w.position) ws ≡ Some u = sym (same (λ w. nat_le u.position w.position)) ∙ h.0 in
          cc
      by_order false false before is =
          let e : u.position ≡ v.position = grind (arith, nat_tests) in
          sym h.0 ∙ same (λ w. nat_le u.position w.position) ∙ ap (λ p. find (λ w. nat_le p w.position) ws) e ∙ k.0

  one_chosen : (longest : Bool) → chosen longest vs ≡ chosen longest ws
  one_chosen true = one_longest (first_longest vs) (first_longest ws) (is_longest vs) (is_longest ws)
  one_chosen false = found vs ∙ same (λ w. true) ∙ sym (found ws)
    where
      found : (us : List MatchState) → first_item us ≡ find (λ w. true) us
      found [] = refl
      found (u ∷ us) = refl

find-filter : (test keeps : MatchState → Bool) (ws : List MatchState) → find test (filter keeps ws) ≡ find (λ w. keeps w && test w) ws
find-filter test keeps [] = refl
find-filter test keeps (w ∷ ws) = by_test (keeps w) (find-filter test keeps ws)
  where
    by_test : (b : Bool) → find test (filter keeps ws) ≡ find (λ v. keeps v && test v) ws →
        find test (cond b (w ∷ filter keeps ws) (filter keeps ws)) ≡ cond (b && test w) (Some w) (find (λ v. keeps v && test v) ws)
    by_test true later = ap (cond (test w) (Some w)) later
    by_test false later = later

-- the same way is chosen among those that are kept
pub same_choice : (longest : Bool) (keeps : MatchState → Bool) (vs ws : List MatchState) → Thinned vs ws →
    chosen longest (filter keeps vs) ≡ chosen longest (filter keeps ws)
same_choice longest keeps vs ws h =
    one_chosen (filter keeps vs) (filter keeps ws)
    (λ test. find-filter test keeps vs ∙ h.firsts (λ w. keeps w && test w) ∙ sym (find-filter test keeps ws)) longest
