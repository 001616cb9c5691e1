-- Where ways end: the equation of a loop, and what a range admits.
use Rattle.std.proofs.Common.{◌≡◌, true≢false, ℕ, zero, suc, ◌*◌, ◌-◌, ◌<◌, ◌≤◌, Bool, true, false, ◌&&◌, List, [], ◌∷◌, ◌++◌, map, if◌then◌else◌, nat_lt, nat_le, set, refl, sym, ap, ap₂, ◌∙◌, ⊎_elim, arith, lt-ltb, le-ltb, le-leb, leb-true, ltb-true}
use Rattle.std.proofs.lemmas.Bool.{cases_lt, lt-leb, and_parts}
use Rattle.fancy_regex_states.specs.Attempts.{View, reads}
use Rattle.fancy_regex_linear.specs.Meaning.{Spot, each, in_order, after_iteration, loop_ways, times_ways, upto_ways, tail_ways, is_unbounded, asked_ways, first_way, place_before, ways_at, ways, ending_by}
use Rattle.fancy_regex_linear.specs.Program.{MayAskIn}
use Rattle.fancy_regex_linear.specs.Re.{Re, nothing, read, test, cat, alt, group, repeat, ask, atomic, conditional}
use Rattle.fancy_regex_states.specs.declared.atom.Leaf.{Leaf}

abbrev pub AllOf : (Spot → Type 0) → List Spot → Type 0
AllOf P [] = Unit {0}
AllOf P (w ∷ ws) = P w × AllOf P ws

abbrev pub Between : ℕ → ℕ → Spot → Type 0
Between low stop w = (low ≤ w.at) × (w.at ≤ stop)

all_append : (P : Spot → Type 0) (us ws : List Spot) → AllOf P us → AllOf P ws → AllOf P (us ++ ws)
all_append P [] ws h k = k
all_append P (u ∷ us) ws h k = (h.0, all_append P us ws h.1 k)

all_each : (P Q : Spot → Type 0) (f : Spot → List Spot) (ws : List Spot) → AllOf P ws → ((w : Spot) → P w → AllOf Q (f w)) → AllOf Q (each f ws)
all_each P Q f [] h k = tt
all_each P Q f (w ∷ ws) h k = all_append Q (f w) (each f ws) (k w h.0) (all_each P Q f ws h.1 k)

all_map : (P Q : Spot → Type 0) (f : Spot → Spot) (ws : List Spot) → AllOf P ws → ((w : Spot) → P w → Q (f w)) → AllOf Q (map f ws)
all_map P Q f [] h k = tt
all_map P Q f (w ∷ ws) h k = (k w h.0, all_map P Q f ws h.1 k)

all_order : (P : Spot → Type 0) (g : Bool) (us ws : List Spot) → AllOf P us → AllOf P ws → AllOf P (in_order g us ws)
all_order P true us ws h k = all_append P us ws h k
all_order P false us ws h k = all_append P ws us k h

each_cong : (P : Spot → Type 0) (f g : Spot → List Spot) (ws : List Spot) → AllOf P ws → ((w : Spot) → P w → f w ≡ g w) → each f ws ≡ each g ws
each_cong P f g [] h k = refl
each_cong P f g (w ∷ ws) h k = ap₂ ◌++◌ (k w h.0) (each_cong P f g ws h.1 k)

-- the ways of a body end between its start and `stop`
abbrev pub Ends : ℕ → (Spot → List Spot) → Type 0
Ends stop list = (s : Spot) → s.at ≤ stop → AllOf (Between s.at stop) (list s)

after_moved : (again : Spot → List Spot) (s w : Spot) → s.at < w.at → after_iteration again s w ≡ again w
unfolding after_iteration
after_moved again s w h = rw (lt-ltb s.at w.at h)

after_same : (again : Spot → List Spot) (s w : Spot) → w.at ≤ s.at → after_iteration again s w ≡ w ∷ []
unfolding after_iteration
after_same again s w h = rw (le-ltb s.at w.at h)

weaker : (ws : List Spot) (a b stop : ℕ) → b ≤ a → AllOf (Between a stop) ws → AllOf (Between b stop) ws
weaker [] a b stop h k = tt
weaker (w ∷ ws) a b stop h k = ((omega (arith, k.0.0), k.0.1), weaker ws a b stop h k.1)

iteration_ends : (stop : ℕ) (g : Bool) (list again : Spot → List Spot) (s : Spot) → s.at ≤ stop → Ends stop list → Ends stop again
    → AllOf (Between s.at stop) (in_order g (each (after_iteration again s) (list s)) (s ∷ []))
iteration_ends stop g list again s p ends next =
    all_order (Between s.at stop) g _ _
    (all_each (Between s.at stop) (Between s.at stop) (after_iteration again s) (list s) (ends s p)
    (λ w b.
    ⊎_elim
    (λ (lt : s.at < w.at). rw (after_moved again s w lt) (weaker (again w) w.at s.at stop (omega arith) (next w b.1)))
    (λ (ge : w.at ≤ s.at). rw (after_same again s w ge) (b, tt))
    (cases_lt s.at w.at)))
    ((omega arith, p), tt)

pub loop_ends : (stop : ℕ) (g : Bool) (list : Spot → List Spot) → Ends stop list → (n : ℕ) → Ends stop (loop_ways g list n)
unfolding loop_ways
loop_ends stop g list ends zero s p = iteration_ends stop g list (λ _. []) s p ends (λ w q. tt)
loop_ends stop g list ends (suc n) s p = iteration_ends stop g list (loop_ways g list n) s p ends (loop_ends stop g list ends n)

seq_ends : (stop : ℕ) (one two : Spot → List Spot) → Ends stop one → Ends stop two → Ends stop (λ s. each two (one s))
seq_ends stop one two a b s p =
    all_each (Between s.at stop) (Between s.at stop) two (one s) (a s p) (λ w h. weaker (two w) w.at s.at stop h.0 (b w h.1))

pub times_ends : (stop : ℕ) (list rest : Spot → List Spot) → Ends stop list → Ends stop rest → (n : ℕ) → Ends stop (times_ways list n rest)
unfolding times_ways
times_ends stop list rest a b zero s p = b s p
times_ends stop list rest a b (suc n) s p = seq_ends stop list (times_ways list n rest) a (times_ends stop list rest a b n) s p

pub upto_ends : (stop : ℕ) (g : Bool) (list : Spot → List Spot) → Ends stop list → (n : ℕ) → Ends stop (upto_ways g list n)
unfolding upto_ways
upto_ends stop g list a zero s p = ((omega arith, p), tt)
upto_ends stop g list a (suc n) s p =
    all_order (Between s.at stop) g _ _ (seq_ends stop list (upto_ways g list n) a (upto_ends stop g list a n) s p) ((omega arith, p), tt)

pub tail_ends : (u : Bool) (stop : ℕ) (g : Bool) (list : Spot → List Spot) → Ends stop list → (n : ℕ) → Ends stop (tail_ways u stop g list n)
unfolding tail_ways
tail_ends true stop g list a n s p = loop_ends stop g list a (stop - s.at) s p
tail_ends false stop g list a n s p = upto_ends stop g list a n s p

module _ (view : View) (stop : ℕ) where
  mark_at : (leaf : Leaf) (i : ℕ) → reads view stop leaf i ≡ true → (i < view.next i) × (view.next i ≤ stop)
  unfolding reads
  mark_at leaf i e =
      let both = and_parts _ _ (and_parts _ _ e).1 in
      (ltb-true i (view.next i) both.0, leb-true (view.next i) stop both.1)

  read_ends : (b : Bool) (s : Spot) (next : ℕ) → s.at ≤ stop → (b ≡ true → (s.at < next) × (next ≤ stop))
      → AllOf (Between s.at stop) (if b then record { at = next; slots = s.slots } ∷ [] else [])
  read_ends true s next p h = let lt = h refl in ((omega (arith, lt.0), lt.1), tt)
  read_ends false s next p h = tt

  look_ends : (b : Bool) (s : Spot) → s.at ≤ stop → AllOf (Between s.at stop) (if b then s ∷ [] else [])
  look_ends true s p = ((omega arith, p), tt)
  look_ends false s p = tt

  ask_ends : (negated : Bool) (s : Spot) (ws : List Spot) → s.at ≤ stop → AllOf (Between s.at stop) (asked_ways negated s ws)
  ask_ends false s [] p = tt
  ask_ends false s (w ∷ ws) p = ((omega arith, p), tt)
  ask_ends true s [] p = ((omega arith, p), tt)
  ask_ends true s (w ∷ ws) p = tt

  first_ends : (P : Spot → Type 0) (ws : List Spot) → AllOf P ws → AllOf P (first_way ws)
  first_ends P [] h = tt
  first_ends P (w ∷ ws) h = (h.0, tt)

  pub ways_end : (t : Re) → Ends stop (ways view stop t)
  unfolding ways
  ways_end nothing s p = ((omega arith, p), tt)
  ways_end (read leaf) s p = read_ends (reads view stop leaf s.at) s (view.next s.at) p (λ e. mark_at leaf s.at e)
  ways_end (test check) s p = look_ends (view.holds check s.at) s p
  ways_end (cat a b) s p = seq_ends stop (ways view stop a) (ways view stop b) (ways_end a) (ways_end b) s p
  ways_end (alt a b) s p = all_append (Between s.at stop) _ _ (ways_end a s p) (ways_end b s p)
  ways_end (group k a) s p =
      all_map (Between s.at stop) (Between s.at stop) _ _ (ways_end a (record { at = s.at; slots = set s.slots (2 * k) s.at }) p) (λ w h. h)
  ways_end (repeat lo hi g strict a) s p =
      times_ends stop (ways view stop a) (tail_ways (is_unbounded hi) stop g (ways view stop a) (hi - lo)) (ways_end a)
      (tail_ends (is_unbounded hi) stop g (ways view stop a) (ways_end a) (hi - lo)) lo s p
  ways_end (ask negated back a) s p = ask_ends negated s (ways_at (ways view stop a) s (place_before view back s.at)) p
  ways_end (atomic a) s p = first_ends (Between s.at stop) (ways view stop a s) (ways_end a s p)
  ways_end (conditional c a b) s p =
      all_append (Between s.at stop) _ _
      (seq_ends stop (λ u. first_way (ways view stop c u)) (ways view stop a) (λ u q. first_ends (Between u.at stop) (ways view stop c u) (ways_end c u q)) (ways_end a) s p)
      (seq_ends stop (λ u. asked_ways true u (ways view stop c u)) (ways view stop b) (λ u q. ask_ends true u (ways view stop c u) q) (ways_end b) s p)

-- more room than there is text adds no ways
iteration_same : (stop : ℕ) (g : Bool) (list again more : Spot → List Spot) (s : Spot) → s.at ≤ stop → Ends stop list
    → ((w : Spot) → s.at < w.at → w.at ≤ stop → again w ≡ more w)
    → in_order g (each (after_iteration again s) (list s)) (s ∷ []) ≡ in_order g (each (after_iteration more s) (list s)) (s ∷ [])
iteration_same stop g list again more s p ends same =
    ap (λ ws. in_order g ws (s ∷ []))
    (each_cong (Between s.at stop) _ _ (list s) (ends s p)
    (λ w b.
    ⊎_elim
    (λ (lt : s.at < w.at). after_moved again s w lt ∙ same w lt b.1 ∙ sym (after_moved more s w lt))
    (λ (ge : w.at ≤ s.at). after_same again s w ge ∙ sym (after_same more s w ge))
    (cases_lt s.at w.at)))

loop_fuel : (stop : ℕ) (g : Bool) (list : Spot → List Spot) → Ends stop list → (n m : ℕ) (s : Spot) → s.at ≤ stop → stop - s.at ≤ n → stop - s.at ≤ m
    → loop_ways g list n s ≡ loop_ways g list m s
unfolding loop_ways
loop_fuel stop g list ends zero zero s p a b = refl
loop_fuel stop g list ends zero (suc m) s p a b = iteration_same stop g list _ _ s p ends (λ w lt q. absurd {0} (omega arith))
loop_fuel stop g list ends (suc n) zero s p a b = iteration_same stop g list _ _ s p ends (λ w lt q. absurd {0} (omega arith))
loop_fuel stop g list ends (suc n) (suc m) s p a b =
    iteration_same stop g list _ _ s p ends (λ w lt q. loop_fuel stop g list ends n m w q (omega arith) (omega arith))

loop_open : (stop : ℕ) (g : Bool) (list : Spot → List Spot) → Ends stop list → (n : ℕ) (s : Spot) → s.at ≤ stop → stop - s.at ≤ n
    → loop_ways g list n s ≡ in_order g (each (after_iteration (λ w. loop_ways g list (stop - w.at) w) s) (list s)) (s ∷ [])
unfolding loop_ways
loop_open stop g list ends zero s p a = iteration_same stop g list _ _ s p ends (λ w lt q. absurd {0} (omega arith))
loop_open stop g list ends (suc n) s p a =
    iteration_same stop g list _ _ s p ends (λ w lt q. loop_fuel stop g list ends n (stop - w.at) w q (omega arith) (omega arith))

-- A loop with all the room of the text: another iteration, after which the loop goes on where it moved and ends where it did not, and leaving.
pub loop_equation : (stop : ℕ) (g : Bool) (list : Spot → List Spot) → Ends stop list → (s : Spot) → s.at ≤ stop
    → loop_ways g list (stop - s.at) s ≡ in_order g (each (after_iteration (λ w. loop_ways g list (stop - w.at) w) s) (list s)) (s ∷ [])
loop_equation stop g list ends s p = loop_open stop g list ends (stop - s.at) s p (omega arith)

-- What ends by `stop` is ending_by.
ending_by_in : (stop : ℕ) (w : Spot) (ws : List Spot) → w.at ≤ stop → ending_by stop (w ∷ ws) ≡ w ∷ ending_by stop ws
unfolding ending_by
ending_by_in stop w ws h = rw (le-leb w.at stop h)

ending_by_out : (stop : ℕ) (w : Spot) (ws : List Spot) → stop < w.at → ending_by stop (w ∷ ws) ≡ ending_by stop ws
unfolding ending_by
ending_by_out stop w ws h = rw (lt-leb w.at stop h)

ending_by_none : (stop : ℕ) → ending_by stop [] ≡ []
unfolding ending_by
ending_by_none stop = refl

ending_by_one : (stop : ℕ) (w : Spot) → w.at ≤ stop → ending_by stop (w ∷ []) ≡ w ∷ []
ending_by_one stop w h = ending_by_in stop w [] h ∙ ap (λ ws. w ∷ ws) (ending_by_none stop)

ending_by_append : (stop : ℕ) (us ws : List Spot) → ending_by stop (us ++ ws) ≡ ending_by stop us ++ ending_by stop ws
unfolding ending_by
ending_by_append stop [] ws = refl
ending_by_append stop (u ∷ us) ws =
    ⊎_elim
    (λ (out : stop < u.at). ending_by_out stop u (us ++ ws) out ∙ ending_by_append stop us ws ∙ ap (λ vs. vs ++ ending_by stop ws) (sym (ending_by_out stop u us out)))
    (λ (inside : u.at ≤ stop).
    ending_by_in stop u (us ++ ws) inside ∙ ap (λ vs. u ∷ vs) (ending_by_append stop us ws) ∙ ap (λ vs. vs ++ ending_by stop ws) (sym (ending_by_in stop u us inside)))
    (cases_lt stop u.at)

ending_by_order : (stop : ℕ) (g : Bool) (us ws : List Spot) → ending_by stop (in_order g us ws) ≡ in_order g (ending_by stop us) (ending_by stop ws)
ending_by_order stop true us ws = ending_by_append stop us ws
ending_by_order stop false us ws = ending_by_append stop ws us

-- nothing is ending_by of what ends past `stop`
ending_by_past : (stop low len : ℕ) (ws : List Spot) → stop < low → AllOf (Between low len) ws → ending_by stop ws ≡ []
ending_by_past stop low len [] h k = ending_by_none stop
ending_by_past stop low len (w ∷ ws) h k = ending_by_out stop w ws (omega (arith, k.0.0)) ∙ ending_by_past stop low len ws h k.1

ending_by_map : (stop : ℕ) (f : Spot → Spot) → ((w : Spot) → (f w).at ≡ w.at) → (ws : List Spot) → ending_by stop (map f ws) ≡ map f (ending_by stop ws)
ending_by_map stop f same [] = ending_by_none stop ∙ ap (map f) (sym (ending_by_none stop))
ending_by_map stop f same (w ∷ ws) =
    let at = same w in
    ⊎_elim
    (λ (out : stop < w.at). ending_by_out stop (f w) (map f ws) (omega arith) ∙ ending_by_map stop f same ws ∙ ap (map f) (sym (ending_by_out stop w ws out)))
    (λ (inside : w.at ≤ stop).
    ending_by_in stop (f w) (map f ws) (omega arith) ∙ ap (λ vs. f w ∷ vs) (ending_by_map stop f same ws) ∙ ap (map f) (sym (ending_by_in stop w ws inside)))
    (cases_lt stop w.at)

ending_by_each : (stop : ℕ) (P : Spot → Type 0) (f g : Spot → List Spot) (ws : List Spot) → AllOf P ws
    → ((w : Spot) → P w → w.at ≤ stop → ending_by stop (f w) ≡ g w) → ((w : Spot) → P w → stop < w.at → ending_by stop (f w) ≡ [])
    → ending_by stop (each f ws) ≡ each g (ending_by stop ws)
ending_by_each stop P f g [] all a b = ending_by_none stop ∙ ap (each g) (sym (ending_by_none stop))
ending_by_each stop P f g (w ∷ ws) all a b =
    ending_by_append stop (f w) (each f ws)
    ∙ (⊎_elim
    (λ (out : stop < w.at).
    ap₂ ◌++◌ (b w all.0 out) (ending_by_each stop P f g ws all.1 a b) ∙ ap (each g) (sym (ending_by_out stop w ws out)))
    (λ (inside : w.at ≤ stop).
    ap₂ ◌++◌ (a w all.0 inside) (ending_by_each stop P f g ws all.1 a b) ∙ ap (each g) (sym (ending_by_in stop w ws inside)))
    (cases_lt stop w.at))

if_kept : (stop : ℕ) (b : Bool) (w : Spot) → w.at ≤ stop → ending_by stop (if b then w ∷ [] else []) ≡ (if b then w ∷ [] else [])
if_kept stop true w h = ending_by_one stop w h
if_kept stop false w h = ending_by_none stop

if_past : (stop : ℕ) (b : Bool) (w : Spot) → stop < w.at → ending_by stop (if b then w ∷ [] else []) ≡ []
if_past stop true w h = ending_by_out stop w [] h ∙ ending_by_none stop
if_past stop false w h = ending_by_none stop

never : (a b : Bool) (w : Spot) → (if a && (b && false) then w ∷ [] else []) ≡ []
never true true w = refl
never true false w = refl
never false b w = refl

-- a list over the whole text, and the same in a range
module _ (len stop : ℕ) (fits : stop ≤ len) where
  abbrev Keeps : (Spot → List Spot) → (Spot → List Spot) → Type 0
  Keeps whole translated = (s : Spot) → s.at ≤ stop → ending_by stop (whole s) ≡ translated s

  past : (list : Spot → List Spot) → Ends len list → (w : Spot) → w.at ≤ len → stop < w.at → ending_by stop (list w) ≡ []
  past list ends w inside out = ending_by_past stop w.at len (list w) out (ends w inside)

  seq_keeps : (one two one2 two2 : Spot → List Spot) → Ends len one → Ends len two → Keeps one one2 → Keeps two two2
      → Keeps (λ s. each two (one s)) (λ s. each two2 (one2 s))
  seq_keeps one two one2 two2 e f a b s p =
      ending_by_each stop (Between s.at len) two two2 (one s) (e s (omega arith)) (λ w q h. b w h) (λ w q h. past two f w q.1 h)
      ∙ ap (each two2) (a s p)

  times_keeps : (list rest list2 rest2 : Spot → List Spot) → Ends len list → Ends len rest → Keeps list list2 → Keeps rest rest2 → (n : ℕ)
      → Keeps (times_ways list n rest) (times_ways list2 n rest2)
  unfolding times_ways
  times_keeps list rest list2 rest2 e f a b zero s p = b s p
  times_keeps list rest list2 rest2 e f a b (suc n) s p =
      seq_keeps list (times_ways list n rest) list2 (times_ways list2 n rest2) e (times_ends len list rest e f n) a (times_keeps list rest list2 rest2 e f a b n) s p

  upto_keeps : (g : Bool) (list list2 : Spot → List Spot) → Ends len list → Keeps list list2 → (n : ℕ) → Keeps (upto_ways g list n) (upto_ways g list2 n)
  unfolding upto_ways
  upto_keeps g list list2 e a zero s p = ending_by_one stop s p
  upto_keeps g list list2 e a (suc n) s p =
      ending_by_order stop g _ _
      ∙ ap₂ (in_order g) (seq_keeps list (upto_ways g list n) list2 (upto_ways g list2 n) e (upto_ends len g list e n) a (upto_keeps g list list2 e a n) s p) (ending_by_one stop s p)

  iteration_keeps : (g : Bool) (list again list2 again2 : Spot → List Spot) → Ends len list → Keeps list list2 → (s : Spot) → s.at ≤ stop
      → ((w : Spot) → s.at < w.at → w.at ≤ stop → ending_by stop (again w) ≡ again2 w) → ((w : Spot) → stop < w.at → w.at ≤ len → ending_by stop (again w) ≡ [])
      → ending_by stop (in_order g (each (after_iteration again s) (list s)) (s ∷ [])) ≡ in_order g (each (after_iteration again2 s) (list2 s)) (s ∷ [])
  iteration_keeps g list again list2 again2 e a s p inner outer =
      ending_by_order stop g _ _
      ∙ ap₂ (in_order g)
      (ending_by_each stop (Between s.at len) (after_iteration again s) (after_iteration again2 s) (list s) (e s (omega arith))
      (λ w q h.
      ⊎_elim
      (λ (lt : s.at < w.at). ap (ending_by stop) (after_moved again s w lt) ∙ inner w lt h ∙ sym (after_moved again2 s w lt))
      (λ (ge : w.at ≤ s.at). ap (ending_by stop) (after_same again s w ge) ∙ ending_by_one stop w h ∙ sym (after_same again2 s w ge))
      (cases_lt s.at w.at))
      (λ w q h. ap (ending_by stop) (after_moved again s w (omega arith)) ∙ outer w h q.1)
      ∙ ap (each (after_iteration again2 s)) (a s p))
      (ending_by_one stop s p)

  loop_keeps : (g : Bool) (list list2 : Spot → List Spot) → Ends len list → Keeps list list2 → (n m : ℕ) (s : Spot) → s.at ≤ stop → len - s.at ≤ n → stop - s.at ≤ m
      → ending_by stop (loop_ways g list n s) ≡ loop_ways g list2 m s
  unfolding loop_ways
  loop_keeps g list list2 e a zero zero s p x y =
      iteration_keeps g list _ list2 _ e a s p (λ w lt q. ending_by_none stop) (λ w lt q. ending_by_none stop)
  loop_keeps g list list2 e a zero (suc m) s p x y =
      iteration_keeps g list _ list2 _ e a s p (λ w lt q. absurd {0} (omega arith)) (λ w lt q. ending_by_none stop)
  loop_keeps g list list2 e a (suc n) zero s p x y =
      iteration_keeps g list _ list2 _ e a s p (λ w lt q. absurd {0} (omega arith)) (λ w lt q. past (loop_ways g list n) (loop_ends len g list e n) w q lt)
  loop_keeps g list list2 e a (suc n) (suc m) s p x y =
      iteration_keeps g list _ list2 _ e a s p (λ w lt q. loop_keeps g list list2 e a n m w q (omega arith) (omega arith))
      (λ w lt q. past (loop_ways g list n) (loop_ends len g list e n) w q lt)

  tail_keeps : (u g : Bool) (list list2 : Spot → List Spot) → Ends len list → Keeps list list2 → (n : ℕ) → Keeps (tail_ways u len g list n) (tail_ways u stop g list2 n)
  unfolding tail_ways
  tail_keeps true g list list2 e a n s p = loop_keeps g list list2 e a (len - s.at) (stop - s.at) s p (omega arith) (omega arith)
  tail_keeps false g list list2 e a n s p = upto_keeps g list list2 e a n s p

  module _ (view : View) where
    read_keeps : (leaf : Leaf) (s : Spot) → s.at ≤ stop
        → ending_by stop (if reads view len leaf s.at then record { at = view.next s.at; slots = s.slots } ∷ [] else [])
        ≡ (if reads view stop leaf s.at then record { at = view.next s.at; slots = s.slots } ∷ [] else [])
    unfolding reads
    read_keeps leaf s p =
        let next : Spot = record { at = view.next s.at; slots = s.slots } in
        ⊎_elim
        (λ (past : stop < view.next s.at).
        rw (lt-leb (view.next s.at) stop past)
        (if_past stop (view.has leaf s.at && (nat_lt s.at (view.next s.at) && nat_le (view.next s.at) len)) next past
        ∙ sym (never (view.has leaf s.at) (nat_lt s.at (view.next s.at)) next)))
        (λ (inside : view.next s.at ≤ stop).
        rw (le-leb (view.next s.at) stop inside, le-leb (view.next s.at) len (omega arith))
        (if_kept stop (view.has leaf s.at && (nat_lt s.at (view.next s.at) && true)) next inside))
        (cases_lt stop (view.next s.at))

    -- The ways of a range are the ways over the whole text that end in it. (A part may end past the range.)
    pub ways_ending_by : (t : Re) → MayAskIn false t → Keeps (ways view len t) (ways view stop t)
    unfolding ways
    ways_ending_by nothing may s p = ending_by_one stop s p
    ways_ending_by (read leaf) may s p = read_keeps leaf s p
    ways_ending_by (test check) may s p = if_kept stop (view.holds check s.at) s p
    ways_ending_by (cat a b) may s p =
        seq_keeps (ways view len a) (ways view len b) (ways view stop a) (ways view stop b) (ways_end view len a) (ways_end view len b)
        (ways_ending_by a may.0) (ways_ending_by b may.1) s p
    ways_ending_by (alt a b) may s p = ending_by_append stop _ _ ∙ ap₂ ◌++◌ (ways_ending_by a may.0 s p) (ways_ending_by b may.1 s p)
    ways_ending_by (group k a) may s p =
        ending_by_map stop _ (λ w. refl) _ ∙ ap (map _) (ways_ending_by a may (record { at = s.at; slots = set s.slots (2 * k) s.at }) p)
    ways_ending_by (repeat lo hi g strict a) may s p =
        times_keeps (ways view len a) (tail_ways (is_unbounded hi) len g (ways view len a) (hi - lo)) (ways view stop a) (tail_ways (is_unbounded hi) stop g (ways view stop a) (hi - lo))
        (ways_end view len a) (tail_ends (is_unbounded hi) len g (ways view len a) (ways_end view len a) (hi - lo)) (ways_ending_by a may)
        (tail_keeps (is_unbounded hi) g (ways view len a) (ways view stop a) (ways_end view len a) (ways_ending_by a may) (hi - lo)) lo s p
    ways_ending_by (ask negated back a) may s p = absurd (true≢false (sym may.0))
    ways_ending_by (atomic a) may s p = absurd (true≢false (sym may.0))
    ways_ending_by (conditional c a b) may s p = absurd (true≢false (sym may.0))
