-- Where the ways of a pattern end depends on the place that it is tried from, and not on the slots.
use Rattle.std.proofs.Common.{◌≡◌, ℕ, zero, suc, ◌*◌, ◌-◌, Bool, true, false, List, [], ◌∷◌, ◌++◌, map, Option, Some, None, if◌then◌else◌, nat_lt, set, refl, sym, ap, ap₂, ◌∙◌}
use Rattle.std.proofs.lemmas.List.{map-append}
use Rattle.std.proofs.lemmas.Option.{same_Some}
use Rattle.fancy_regex_states.specs.Attempts.{View, reads}
use Rattle.fancy_regex_linear.specs.Re.{Re, nothing, read, test, cat, alt, group, repeat, ask, atomic, conditional}
use Rattle.fancy_regex_linear.specs.Meaning.{Spot, each, in_order, after_iteration, loop_ways, times_ways, upto_ways, tail_ways, is_unbounded, asked_ways, first_way, place_before, ways_at, ways}

-- where these ways end
abbrev pub ends : List Spot → List ℕ
ends = map (λ w. w.at)

-- from spots at one place, the ways of both end at the same places
abbrev pub EndAlike : (Spot → List Spot) → (Spot → List Spot) → Type 0
EndAlike one two = (s u : Spot) → s.at ≡ u.at → ends (one s) ≡ ends (two u)

abbrev pub GoesByPlace : (Spot → List Spot) → Type 0
GoesByPlace list = EndAlike list list

heads : (x y : ℕ) (xs ys : List ℕ) → (x ∷ xs) ≡ (y ∷ ys) → (x ≡ y) × (xs ≡ ys)
heads x y xs ys e = (cc, cc)

each_alike : (one two : Spot → List Spot) → EndAlike one two → (us ws : List Spot) → ends us ≡ ends ws → ends (each one us) ≡ ends (each two ws)
each_alike one two h [] [] e = refl
each_alike one two h [] (w ∷ ws) e = cc
each_alike one two h (u ∷ us) [] e = cc
each_alike one two h (u ∷ us) (w ∷ ws) e =
    let both = heads u.at w.at (ends us) (ends ws) e in
    map-append (λ v. v.at) (one u) (each one us)
    ∙ ap₂ ◌++◌ (h u w both.0) (each_alike one two h us ws both.1)
    ∙ sym (map-append (λ v. v.at) (two w) (each two ws))

append_alike : (us vs ws xs : List Spot) → ends us ≡ ends ws → ends vs ≡ ends xs → ends (us ++ vs) ≡ ends (ws ++ xs)
append_alike us vs ws xs e f = map-append (λ w. w.at) us vs ∙ ap₂ ◌++◌ e f ∙ sym (map-append (λ w. w.at) ws xs)

order_alike : (g : Bool) (us vs ws xs : List Spot) → ends us ≡ ends ws → ends vs ≡ ends xs → ends (in_order g us vs) ≡ ends (in_order g ws xs)
order_alike true us vs ws xs e f = append_alike us vs ws xs e f
order_alike false us vs ws xs e f = append_alike vs us xs ws f e

if_alike : (b c : Bool) (us vs ws xs : List Spot) → b ≡ c → ends us ≡ ends ws → ends vs ≡ ends xs → ends (if b then us else vs) ≡ ends (if c then ws else xs)
if_alike true true us vs ws xs e f g = f
if_alike true false us vs ws xs e f g = cc
if_alike false true us vs ws xs e f g = cc
if_alike false false us vs ws xs e f g = g

seq_alike : (one two : Spot → List Spot) → GoesByPlace one → GoesByPlace two → GoesByPlace (λ s. each two (one s))
seq_alike one two a b s u e = each_alike two two b (one s) (one u) (a s u e)

-- after an iteration from spots at one place
pub after_alike : (again : Spot → List Spot) → GoesByPlace again → (s u : Spot) → s.at ≡ u.at → EndAlike (after_iteration again s) (after_iteration again u)
unfolding after_iteration
after_alike again h s u e v w f =
    if_alike (nat_lt s.at v.at) (nat_lt u.at w.at) (again v) (v ∷ []) (again w) (w ∷ []) (ap₂ nat_lt e f) (h v w f) (ap (λ p. p ∷ []) f)

turn_alike : (g : Bool) (list again : Spot → List Spot) → GoesByPlace list → GoesByPlace again → GoesByPlace (λ s. in_order g (each (after_iteration again s) (list s)) (s ∷ []))
turn_alike g list again a b s u e =
    order_alike g _ (s ∷ []) _ (u ∷ []) (each_alike _ _ (after_alike again b s u e) (list s) (list u) (a s u e)) (ap (λ p. p ∷ []) e)

pub loop_alike : (g : Bool) (list : Spot → List Spot) → GoesByPlace list → (n : ℕ) → GoesByPlace (loop_ways g list n)
unfolding loop_ways
loop_alike g list a zero s u e = turn_alike g list (λ _. []) a (λ v w f. refl) s u e
loop_alike g list a (suc n) s u e = turn_alike g list (loop_ways g list n) a (loop_alike g list a n) s u e

pub times_alike : (list rest : Spot → List Spot) → GoesByPlace list → GoesByPlace rest → (n : ℕ) → GoesByPlace (times_ways list n rest)
unfolding times_ways
times_alike list rest a b zero s u e = b s u e
times_alike list rest a b (suc n) s u e = seq_alike list (times_ways list n rest) a (times_alike list rest a b n) s u e

pub upto_alike : (g : Bool) (list : Spot → List Spot) → GoesByPlace list → (n : ℕ) → GoesByPlace (upto_ways g list n)
unfolding upto_ways
upto_alike g list a zero s u e = ap (λ p. p ∷ []) e
upto_alike g list a (suc n) s u e =
    order_alike g _ (s ∷ []) _ (u ∷ []) (seq_alike list (upto_ways g list n) a (upto_alike g list a n) s u e) (ap (λ p. p ∷ []) e)

pub tail_alike : (unbounded : Bool) (stop : ℕ) (g : Bool) (list : Spot → List Spot) → GoesByPlace list → (n : ℕ) → GoesByPlace (tail_ways unbounded stop g list n)
unfolding tail_ways
tail_alike true stop g list a n s u e = ap (λ p. ends (loop_ways g list (stop - p) s)) e ∙ loop_alike g list a (stop - u.at) s u e
tail_alike false stop g list a n s u e = upto_alike g list a n s u e

asked_alike : (negated : Bool) (s u : Spot) (us ws : List Spot) → s.at ≡ u.at → ends us ≡ ends ws → ends (asked_ways negated s us) ≡ ends (asked_ways negated u ws)
asked_alike negated s u [] (w ∷ ws) e f = cc
asked_alike negated s u (v ∷ us) [] e f = cc
asked_alike false s u [] [] e f = refl
asked_alike false s u (v ∷ us) (w ∷ ws) e f = ap (λ p. p ∷ []) e
asked_alike true s u [] [] e f = ap (λ p. p ∷ []) e
asked_alike true s u (v ∷ us) (w ∷ ws) e f = refl

at_alike : (list : Spot → List Spot) → GoesByPlace list → (s u : Spot) (o p : Option ℕ) → o ≡ p → ends (ways_at list s o) ≡ ends (ways_at list u p)
at_alike list h s u None None e = refl
at_alike list h s u None (Some j) e = cc
at_alike list h s u (Some i) None e = cc
at_alike list h s u (Some i) (Some j) e = h _ _ (same_Some i j e)

first_alike : (us ws : List Spot) → ends us ≡ ends ws → ends (first_way us) ≡ ends (first_way ws)
first_alike [] [] e = refl
first_alike [] (w ∷ ws) e = cc
first_alike (u ∷ us) [] e = cc
first_alike (u ∷ us) (w ∷ ws) e = ap (λ p. p ∷ []) (heads u.at w.at (ends us) (ends ws) e).0

-- writes of slots change no end
map_ends : (f : Spot → Spot) → ((w : Spot) → (f w).at ≡ w.at) → (ws : List Spot) → ends (map f ws) ≡ ends ws
map_ends f h [] = refl
map_ends f h (w ∷ ws) = ap₂ ◌∷◌ (h w) (map_ends f h ws)

module _ (view : View) (stop : ℕ) where
  pub ways_alike : (t : Re) → GoesByPlace (ways view stop t)
  unfolding ways
  ways_alike nothing s u e = ap (λ p. p ∷ []) e
  ways_alike (read leaf) s u e =
      if_alike _ _ _ _ _ _ (ap (reads view stop leaf) e) (ap (λ p. view.next p ∷ []) e) refl
  ways_alike (test check) s u e = if_alike _ _ _ _ _ _ (ap (view.holds check) e) (ap (λ p. p ∷ []) e) refl
  ways_alike (cat a b) s u e = seq_alike (ways view stop a) (ways view stop b) (ways_alike a) (ways_alike b) s u e
  ways_alike (alt a b) s u e = append_alike _ _ _ _ (ways_alike a s u e) (ways_alike b s u e)
  ways_alike (group k a) s u e =
      map_ends _ (λ w. refl) _
      ∙ ways_alike a (record { at = s.at; slots = set s.slots (2 * k) s.at }) (record { at = u.at; slots = set u.slots (2 * k) u.at }) e
      ∙ sym (map_ends _ (λ w. refl) _)
  ways_alike (repeat lo hi g strict a) s u e =
      times_alike (ways view stop a) (tail_ways (is_unbounded hi) stop g (ways view stop a) (hi - lo)) (ways_alike a)
      (tail_alike (is_unbounded hi) stop g (ways view stop a) (ways_alike a) (hi - lo)) lo s u e
  ways_alike (ask negated back a) s u e = asked_alike negated s u _ _ e
      (at_alike (ways view stop a) (ways_alike a) s u _ _ (ap (place_before view back) e))
  ways_alike (atomic a) s u e = first_alike (ways view stop a s) (ways view stop a u) (ways_alike a s u e)
  ways_alike (conditional c a b) s u e =
      let same = ways_alike c s u e in
      append_alike _ _ _ _
      (each_alike (ways view stop a) (ways view stop a) (ways_alike a) (first_way (ways view stop c s)) (first_way (ways view stop c u))
      (first_alike (ways view stop c s) (ways view stop c u) same))
      (each_alike (ways view stop b) (ways view stop b) (ways_alike b) (asked_ways true s (ways view stop c s)) (asked_ways true u (ways view stop c u))
      (asked_alike true s u (ways view stop c s) (ways view stop c u) e same))
