-- A write to the slot of a group that a pattern lacks may come before its ways or after them.
use Rattle.std.proofs.Common.{◌≡◌, ℕ, zero, suc, ◌+◌, ◌*◌, ◌-◌, Bool, true, false, List, [], ◌∷◌, ◌++◌, map, Option, Some, None, if◌then◌else◌, nat_lt, set, refl, sym, ap, ap₂, ◌∙◌, arith}
use Rattle.std.proofs.lemmas.List.{set_comm}
use Rattle.fancy_regex_linear.specs.Re.{Re, nothing, read, test, cat, alt, group, repeat, ask, atomic, conditional}
use Rattle.fancy_regex_states.specs.Attempts.{View, reads}
use Rattle.fancy_regex_linear.specs.Meaning.{Spot, each, in_order, after_iteration, loop_ways, times_ways, upto_ways, tail_ways, is_unbounded, asked_ways, first_way, place_before, ways_at, ways}

-- the group k is not in the pattern
abbrev pub Lacks : ℕ → Re → Type 0
Lacks k nothing = Unit {0}
Lacks k (read leaf) = Unit {0}
Lacks k (test check) = Unit {0}
Lacks k (cat a b) = Lacks k a × Lacks k b
Lacks k (alt a b) = Lacks k a × Lacks k b
Lacks k (group g a) = (k ≡ g → ⊥) × Lacks k a
Lacks k (repeat lo hi greedy strict a) = Lacks k a
Lacks k (ask negated back a) = Lacks k a
Lacks k (atomic a) = Lacks k a
Lacks k (conditional c a b) = Lacks k c × (Lacks k a × Lacks k b)

each_same : (f g : Spot → List Spot) (ws : List Spot) → ((w : Spot) → f w ≡ g w) → each f ws ≡ each g ws
each_same f g [] h = refl
each_same f g (w ∷ ws) h = ap₂ ◌++◌ (h w) (each_same f g ws h)

pub map_same : (f g : Spot → Spot) (ws : List Spot) → ((w : Spot) → f w ≡ g w) → map f ws ≡ map g ws
map_same f g [] h = refl
map_same f g (w ∷ ws) h = ap₂ ◌∷◌ (h w) (map_same f g ws h)

pub map_twice : (f g : Spot → Spot) (ws : List Spot) → map f (map g ws) ≡ map (λ w. f (g w)) ws
map_twice f g [] = refl
map_twice f g (w ∷ ws) = ap (λ vs. f (g w) ∷ vs) (map_twice f g ws)

pub map_both : (f : Spot → Spot) (us ws : List Spot) → map f (us ++ ws) ≡ map f us ++ map f ws
map_both f [] ws = refl
map_both f (u ∷ us) ws = ap (λ vs. f u ∷ vs) (map_both f us ws)

pub map_order : (f : Spot → Spot) (g : Bool) (us ws : List Spot) → map f (in_order g us ws) ≡ in_order g (map f us) (map f ws)
map_order f true us ws = map_both f us ws
map_order f false us ws = map_both f ws us

if_map : (b : Bool) (f : Spot → Spot) (w : Spot) → (if b then f w ∷ [] else []) ≡ map f (if b then w ∷ [] else [])
if_map true f w = refl
if_map false f w = refl

apart : (xs : List ℕ) (j i v u : ℕ) → (j ≡ i → ⊥) → set (set xs j v) i u ≡ set (set xs i u) j v
apart xs j i v u h = set_comm xs j i v u h

-- a write to slot j
module _ (j v : ℕ) where
  abbrev pub put : Spot → Spot
  put s = record { at = s.at; slots = set s.slots j v }

  -- the write may come before or after
  abbrev pub Carries : (Spot → List Spot) → Type 0
  Carries list = (s : Spot) → list (put s) ≡ map put (list s)

  each_carries : (f : Spot → List Spot) → Carries f → (ws : List Spot) → each f (map put ws) ≡ map put (each f ws)
  each_carries f h [] = refl
  each_carries f h (w ∷ ws) = ap₂ ◌++◌ (h w) (each_carries f h ws) ∙ sym (map_both put (f w) (each f ws))

  seq_carries : (one two : Spot → List Spot) → Carries one → Carries two → Carries (λ s. each two (one s))
  seq_carries one two a b s = ap (each two) (a s) ∙ each_carries two b (one s)

  if_carries : (b : Bool) (us ws : List Spot) (w : Spot) → us ≡ map put ws → (if b then us else put w ∷ []) ≡ map put (if b then ws else w ∷ [])
  if_carries true us ws w h = h
  if_carries false us ws w h = refl

  iteration_carries : (again : Spot → List Spot) (s : Spot) → Carries again → (w : Spot) → after_iteration again (put s) (put w) ≡ map put (after_iteration again s w)
  unfolding after_iteration
  iteration_carries again s h w = if_carries (nat_lt s.at w.at) (again (put w)) (again w) w (h w)

  iterations_carry : (again : Spot → List Spot) (s : Spot) → Carries again → (ws : List Spot)
      → each (after_iteration again (put s)) (map put ws) ≡ map put (each (after_iteration again s) ws)
  iterations_carry again s h [] = refl
  iterations_carry again s h (w ∷ ws) =
      ap₂ ◌++◌ (iteration_carries again s h w) (iterations_carry again s h ws) ∙ sym (map_both put (after_iteration again s w) (each (after_iteration again s) ws))

  order_carries : (g : Bool) (list again : Spot → List Spot) (s : Spot) → Carries list → Carries again
      → in_order g (each (after_iteration again (put s)) (list (put s))) (put s ∷ []) ≡ map put (in_order g (each (after_iteration again s) (list s)) (s ∷ []))
  order_carries g list again s a b =
      ap (λ ws. in_order g ws (put s ∷ [])) (ap (each (after_iteration again (put s))) (a s) ∙ iterations_carry again s b (list s))
      ∙ sym (map_order put g (each (after_iteration again s) (list s)) (s ∷ []))

  loop_carries : (g : Bool) (list : Spot → List Spot) → Carries list → (n : ℕ) → Carries (loop_ways g list n)
  unfolding loop_ways
  loop_carries g list h zero s = order_carries g list (λ _. []) s h (λ w. refl)
  loop_carries g list h (suc n) s = order_carries g list (loop_ways g list n) s h (loop_carries g list h n)

  times_carries : (list rest : Spot → List Spot) → Carries list → Carries rest → (n : ℕ) → Carries (times_ways list n rest)
  unfolding times_ways
  times_carries list rest a b zero s = b s
  times_carries list rest a b (suc n) s = seq_carries list (times_ways list n rest) a (times_carries list rest a b n) s

  upto_carries : (g : Bool) (list : Spot → List Spot) → Carries list → (n : ℕ) → Carries (upto_ways g list n)
  unfolding upto_ways
  upto_carries g list h zero s = refl
  upto_carries g list h (suc n) s =
      ap (λ ws. in_order g ws (put s ∷ [])) (seq_carries list (upto_ways g list n) h (upto_carries g list h n) s)
      ∙ sym (map_order put g (each (upto_ways g list n) (list s)) (s ∷ []))

  tail_carries : (u : Bool) (stop : ℕ) (g : Bool) (list : Spot → List Spot) → Carries list → (n : ℕ) → Carries (tail_ways u stop g list n)
  unfolding tail_ways
  tail_carries true stop g list h n s = loop_carries g list h (stop - s.at) s
  tail_carries false stop g list h n s = upto_carries g list h n s

  asked_carries : (negated : Bool) (s : Spot) (ws : List Spot) → asked_ways negated (put s) (map put ws) ≡ map put (asked_ways negated s ws)
  asked_carries false s [] = refl
  asked_carries false s (w ∷ ws) = refl
  asked_carries true s [] = refl
  asked_carries true s (w ∷ ws) = refl

  at_carries : (list : Spot → List Spot) → Carries list → (s : Spot) (o : Option ℕ) → ways_at list (put s) o ≡ map put (ways_at list s o)
  at_carries list h s None = refl
  at_carries list h s (Some i) = h (record { at = i; slots = s.slots })

  first_carries : (ws : List Spot) → first_way (map put ws) ≡ map put (first_way ws)
  first_carries [] = refl
  first_carries (w ∷ ws) = refl

-- a write to the slot of a group that the pattern lacks may come before or after
pub ways_carry : (view : View) (stop k v : ℕ) (t : Re) → Lacks k t → Carries (2 * k) v (ways view stop t)
unfolding ways
ways_carry view stop k v nothing l s = refl
ways_carry view stop k v (read leaf) l s = if_map (reads view stop leaf s.at) (put (2 * k) v) (record { at = view.next s.at; slots = s.slots })
ways_carry view stop k v (test check) l s = if_map (view.holds check s.at) (put (2 * k) v) s
ways_carry view stop k v (cat a b) l s = seq_carries (2 * k) v (ways view stop a) (ways view stop b) (ways_carry view stop k v a l.0) (ways_carry view stop k v b l.1) s
ways_carry view stop k v (alt a b) l s = ap₂ ◌++◌ (ways_carry view stop k v a l.0 s) (ways_carry view stop k v b l.1 s) ∙ sym (map_both (put (2 * k) v) _ _)
ways_carry view stop k v (group g a) l s =
    let close : Spot → Spot = λ w. record { at = w.at; slots = set w.slots (2 * g + 1) w.at } in
    let open_spot : Spot = record { at = s.at; slots = set s.slots (2 * g) s.at } in
    let swap : (xs : List ℕ) → set (set xs (2 * k) v) (2 * g) s.at ≡ set (set xs (2 * g) s.at) (2 * k) v =
    λ xs. apart xs (2 * k) (2 * g) v s.at (λ e. l.0 (omega arith)) in
    ap (λ (xs : List ℕ). map close (ways view stop a (record { at = s.at; slots = xs }))) (swap s.slots)
    ∙ ap (map close) (ways_carry view stop k v a l.1 open_spot)
    ∙ map_twice close (put (2 * k) v) (ways view stop a open_spot)
    ∙ map_same _ _ (ways view stop a open_spot) (λ w. ap (λ (xs : List ℕ). let r : Spot = record { at = w.at; slots = xs } in r)
    (apart w.slots (2 * k) (2 * g + 1) v w.at (λ e. omega arith)))
    ∙ sym (map_twice (put (2 * k) v) close (ways view stop a open_spot))
ways_carry view stop k v (repeat lo hi g strict a) l s =
    times_carries (2 * k) v (ways view stop a) (tail_ways (is_unbounded hi) stop g (ways view stop a) (hi - lo)) (ways_carry view stop k v a l)
    (tail_carries (2 * k) v (is_unbounded hi) stop g (ways view stop a) (ways_carry view stop k v a l) (hi - lo)) lo s
ways_carry view stop k v (ask negated back a) l s =
    ap (asked_ways negated (put (2 * k) v s)) (at_carries (2 * k) v (ways view stop a) (ways_carry view stop k v a l) s (place_before view back s.at))
    ∙ asked_carries (2 * k) v negated s (ways_at (ways view stop a) s (place_before view back s.at))
ways_carry view stop k v (atomic a) l s = ap first_way (ways_carry view stop k v a l s) ∙ first_carries (2 * k) v (ways view stop a s)
ways_carry view stop k v (conditional c a b) l s =
    let asked = ways view stop c s in
    ap₂ ◌++◌
    (ap (each (ways view stop a)) (ap first_way (ways_carry view stop k v c l.0 s) ∙ first_carries (2 * k) v asked)
    ∙ each_carries (2 * k) v (ways view stop a) (ways_carry view stop k v a l.1.0) (first_way asked))
    (ap (each (ways view stop b)) (ap (asked_ways true (put (2 * k) v s)) (ways_carry view stop k v c l.0 s) ∙ asked_carries (2 * k) v true s asked)
    ∙ each_carries (2 * k) v (ways view stop b) (ways_carry view stop k v b l.1.1) (asked_ways true s asked))
    ∙ sym (map_both (put (2 * k) v) _ _)
