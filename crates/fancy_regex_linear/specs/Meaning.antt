-- What a pattern matches in a range: the list of its matches in the order of preference (the ways).
use Rattle.std.specs.Prelude.{ℕ, zero, suc, ◌+◌, ◌-◌, ◌*◌, Bool, true, false, List, [], ◌∷◌, ◌++◌, map, Option, Some, None, if◌then◌else◌, nat_lt, nat_le, nat_eq, slice_set}
use Rattle.fancy_regex_linear.specs.Re.{Re, nothing, read, test, cat, alt, group, repeat, ask, atomic, conditional}
use Rattle.fancy_regex_states.specs.Attempts.{View, reads}

-- where a match of a node ends (a byte offset), and the slots then
pub record Spot : Type 0 where
  pub at : ℕ
  pub slots : List ℕ

abbrev pub each : {A B : Type 0} → (A → List B) → List A → List B
each f [] = []
each f (x ∷ xs) = f x ++ each f xs

-- a greedy loop prefers another iteration, a lazy one the exit
abbrev pub in_order : Bool → List Spot → List Spot → List Spot
in_order greedy iteration exit = if greedy then iteration ++ exit else exit ++ iteration

-- After an iteration from s to w: one that matched the empty string ends the loop, with its slots.
unfoldable pub after_iteration : (Spot → List Spot) → Spot → Spot → List Spot
after_iteration again s w = if nat_lt s.at w.at then again w else w ∷ []

-- The ways of a loop with room for n nonempty iterations, where `body` lists the ways of one iteration.
unfoldable pub loop_ways : Bool → (Spot → List Spot) → ℕ → Spot → List Spot
loop_ways greedy body zero s = in_order greedy (each (after_iteration (λ _. []) s) (body s)) (s ∷ [])
loop_ways greedy body (suc n) s = in_order greedy (each (after_iteration (loop_ways greedy body n) s) (body s)) (s ∷ [])

-- n mandatory iterations, and then the rest
unfoldable pub times_ways : (Spot → List Spot) → ℕ → (Spot → List Spot) → Spot → List Spot
times_ways body zero rest s = rest s
times_ways body (suc n) rest s = each (times_ways body n rest) (body s)

-- at most n optional iterations
unfoldable pub upto_ways : Bool → (Spot → List Spot) → ℕ → Spot → List Spot
upto_ways greedy body zero s = s ∷ []
upto_ways greedy body (suc n) s = in_order greedy (each (upto_ways greedy body n) (body s)) (s ∷ [])

-- the last value of `usize` is no bound
abbrev pub is_unbounded : ℕ → Bool
is_unbounded hi = nat_eq hi 18446744073709551615

-- the iterations past the least count: unbounded, or at most n
unfoldable pub tail_ways : Bool → ℕ → Bool → (Spot → List Spot) → ℕ → Spot → List Spot
tail_ways true stop greedy body n s = loop_ways greedy body (stop - s.at) s
tail_ways false stop greedy body n s = upto_ways greedy body n s

-- where the body has a way, here with the slots of the first; or, negated, where it has none
abbrev pub asked_ways : Bool → Spot → List Spot → List Spot
asked_ways false s [] = []
asked_ways false s (w ∷ ws) = record { at = s.at; slots = w.slots } ∷ []
asked_ways true s [] = s ∷ []
asked_ways true s (w ∷ ws) = []

abbrev pub first_way : List Spot → List Spot
first_way [] = []
first_way (w ∷ ws) = w ∷ []

-- the offset so many bytes before, if there is one
abbrev pub at_bytes_before : (ℕ → Option ℕ) → ℕ → Option ℕ → Option ℕ
at_bytes_before place i None = None
at_bytes_before place i (Some bytes) = place (i - bytes)

-- the ways from this offset, if there is one
abbrev pub ways_at : (Spot → List Spot) → Spot → Option ℕ → List Spot
ways_at list s None = []
ways_at list s (Some i) = list (record { at = i; slots = s.slots })

-- the offset so many characters before this one, if there are so many
unfoldable pub place_before : View → ℕ → ℕ → Option ℕ
place_before view zero i = Some i
place_before view (suc n) i = at_bytes_before (place_before view n) i (view.back i)

module _ (view : View) (stop : ℕ) where
  -- the ways of a pattern from an offset, in the order of preference
  unfoldable pub ways : Re → Spot → List Spot
  ways nothing s = s ∷ []
  ways (read leaf) s = if reads view stop leaf s.at then record { at = view.next s.at; slots = s.slots } ∷ [] else []
  ways (test check) s = if view.holds check s.at then s ∷ [] else []
  ways (cat a b) s = each (ways b) (ways a s)
  ways (alt a b) s = ways a s ++ ways b s
  ways (group k a) s =
      map (λ w. record { at = w.at; slots = slice_set w.slots (2 * k + 1) w.at })
      (ways a (record { at = s.at; slots = slice_set s.slots (2 * k) s.at }))
  ways (repeat lo hi greedy strict a) s =
      times_ways (ways a) lo (tail_ways (is_unbounded hi) stop greedy (ways a) (hi - lo)) s
  ways (ask negated back a) s = asked_ways negated s (ways_at (ways a) s (place_before view back s.at))
  ways (atomic a) s = first_way (ways a s)
  ways (conditional c a b) s = each (ways a) (first_way (ways c s)) ++ each (ways b) (asked_ways true s (ways c s))

-- the ways that end by `stop`
unfoldable pub ending_by : ℕ → List Spot → List Spot
ending_by stop [] = []
ending_by stop (w ∷ ws) = if nat_le w.at stop then w ∷ ending_by stop ws else ending_by stop ws
