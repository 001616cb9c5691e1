-- Trying a tree finds the first of its ways from which the rest goes on.
use Rattle.std.proofs.Common.{◌≡◌, ℕ, zero, suc, ◌+◌, ◌*◌, ◌-◌, ◌<◌, ◌≤◌, Bool, true, false, List, [], ◌∷◌, ◌++◌, map, Option, Some, None, if◌then◌else◌, nat_lt, arith, set, refl, sym, ap, ap₂, ◌∙◌, ⊎_elim, lt-ltb, le-ltb}
use Rattle.std.proofs.lemmas.Bool.{cases_lt}
use Rattle.std.proofs.lemmas.Option.{none-some, same_Some}
use Rattle.fancy_regex_states.specs.Attempts.{View, reads, Trace, AttemptResult, Continuation, score, better, better_trace, failed, accept, guard, write, save, after_writes, asked_answer, passed_answer, pick, stepped}
use Rattle.fancy_regex_linear.specs.Meaning.{Spot, each, in_order, after_iteration, loop_ways, times_ways, upto_ways, tail_ways, is_unbounded, asked_ways, first_way, at_bytes_before, place_before, ways_at, ways}
use Rattle.fancy_regex_linear.specs.Attempt.{apply, trace_end}
use Rattle.fancy_regex_linear.specs.Attempt.{better_spot, prefer, iterations, times_try, upto_try, tail_try, behind, attempt}
use Rattle.fancy_regex_linear.specs.Program.{MayAskIn}
use Rattle.fancy_regex_linear.specs.Re.{Re, nothing, read, test, cat, alt, group, repeat, ask, atomic, conditional}
use Rattle.fancy_regex_linear.proofs.AgreeLemmas.{pick_same, pick_moved}

pub better-None : {A : Type 0} (rank : A → ℕ) (a : Option A) → better rank a None ≡ a
better-None rank None = refl
better-None rank (Some x) = refl

-- the one that stays
pub better_stays : {A : Type 0} (rank : A → ℕ) (x y : A) → rank y ≤ rank x → better rank (Some x) (Some y) ≡ Some x
better_stays rank x y h = ap (λ t. if t then Some y else Some x) (le-ltb (rank x) (rank y) h)

-- the one that gives way
pub better_goes : {A : Type 0} (rank : A → ℕ) (x y : A) → rank x < rank y → better rank (Some x) (Some y) ≡ Some y
better_goes rank x y h = ap (λ t. if t then Some y else Some x) (lt-ltb (rank x) (rank y) h)

some_assoc : {A : Type 0} (rank : A → ℕ) (x y z : A)
    → better rank (better rank (Some x) (Some y)) (Some z) ≡ better rank (Some x) (better rank (Some y) (Some z))
some_assoc rank x y z =
    ⊎_elim
    (λ (xy : rank x < rank y).
    ap (λ o. better rank o (Some z)) (better_goes rank x y xy)
    ∙ ⊎_elim
    (λ (yz : rank y < rank z).
    better_goes rank y z yz ∙ sym (ap (better rank (Some x)) (better_goes rank y z yz) ∙ better_goes rank x z (omega arith)))
    (λ (zy : rank z ≤ rank y).
    better_stays rank y z zy ∙ sym (ap (better rank (Some x)) (better_stays rank y z zy) ∙ better_goes rank x y xy))
    (cases_lt (rank y) (rank z)))
    (λ (yx : rank y ≤ rank x).
    ap (λ o. better rank o (Some z)) (better_stays rank x y yx)
    ∙ ⊎_elim
    (λ (yz : rank y < rank z). sym (ap (better rank (Some x)) (better_goes rank y z yz)))
    (λ (zy : rank z ≤ rank y).
    better_stays rank x z (omega arith) ∙ sym (ap (better rank (Some x)) (better_stays rank y z zy) ∙ better_stays rank x y yx))
    (cases_lt (rank y) (rank z)))
    (cases_lt (rank x) (rank y))

pub better_assoc : {A : Type 0} (rank : A → ℕ) (a b c : Option A) → better rank (better rank a b) c ≡ better rank a (better rank b c)
better_assoc rank None b c = refl
better_assoc rank (Some x) None c = refl
better_assoc rank (Some x) (Some y) None = better-None rank (better rank (Some x) (Some y))
better_assoc rank (Some x) (Some y) (Some z) = some_assoc rank x y z

if_land : (slots : List ℕ) (test : Bool) (s t : Trace) → trace_end slots (if test then Some s else Some t) ≡ (if test then trace_end slots (Some s) else trace_end slots (Some t))
if_land slots true s t = refl
if_land slots false s t = refl

pub trace_end_better : (longest : Bool) (slots : List ℕ) (a b : Option Trace)
    → trace_end slots (better_trace longest a b) ≡ better_spot longest (trace_end slots a) (trace_end slots b)
unfolding trace_end
trace_end_better longest slots None b = refl
trace_end_better longest slots (Some s) None = refl
trace_end_better longest slots (Some s) (Some t) = if_land slots (nat_lt (score longest s.end) (score longest t.end)) t s

pub trace_end_write : (slots : List ℕ) (slot i : ℕ) (o : Option Trace) → trace_end slots (write slot i o) ≡ trace_end (set slots slot i) o
unfolding trace_end apply
trace_end_write slots slot i None = refl
trace_end_write slots slot i (Some t) = refl

apply_append : (us ws : List (ℕ × ℕ)) (slots : List ℕ) → apply (us ++ ws) slots ≡ apply ws (apply us slots)
unfolding apply
apply_append [] ws slots = refl
apply_append (u ∷ us) ws slots = apply_append us ws (set slots u.0 u.1)

-- writes before those of what follows
trace_end_after : (slots : List ℕ) (ws : List (ℕ × ℕ)) (o : Option Trace) → trace_end slots (after_writes ws o) ≡ trace_end (apply ws slots) o
unfolding trace_end
trace_end_after slots ws None = refl
trace_end_after slots ws (Some t) =
    ap (λ (xs : List ℕ). let it : Option Spot = Some (record { at = t.end; slots = xs }) in it) (apply_append ws t.writes slots)

-- the first of these
abbrev pub first_of : List Spot → Option Spot
first_of [] = None
first_of (w ∷ ws) = Some w

-- where the rest goes from a way
abbrev pub onward : Continuation → Spot → Option Spot
onward k w = trace_end w.slots (k w.at).answer

module _ (longest : Bool) where
  -- what is best of where f leads from these
  unfoldable pub best_from : (Spot → Option Spot) → List Spot → Option Spot
  best_from f [] = None
  best_from f (w ∷ ws) = better_spot longest (f w) (best_from f ws)

  first_cong : (f g : Spot → Option Spot) (ws : List Spot) → ((w : Spot) → f w ≡ g w) → best_from f ws ≡ best_from g ws
  unfolding best_from
  first_cong f g [] h = refl
  first_cong f g (w ∷ ws) h = ap₂ (better_spot longest) (h w) (first_cong f g ws h)

  first_append : (f : Spot → Option Spot) (us ws : List Spot) → best_from f (us ++ ws) ≡ better_spot longest (best_from f us) (best_from f ws)
  unfolding best_from
  first_append f [] ws = refl
  first_append f (u ∷ us) ws = ap (better_spot longest (f u)) (first_append f us ws) ∙ sym (better_assoc (λ s. score longest s.at) (f u) _ _)

  first_each : (f : Spot → Option Spot) (g : Spot → List Spot) (ws : List Spot) → best_from f (each g ws) ≡ best_from (λ w. best_from f (g w)) ws
  unfolding best_from
  first_each f g [] = refl
  first_each f g (w ∷ ws) = first_append f (g w) (each g ws) ∙ ap (better_spot longest (best_from f (g w))) (first_each f g ws)

  first_map : (f : Spot → Option Spot) (g : Spot → Spot) (ws : List Spot) → best_from f (map g ws) ≡ best_from (λ w. f (g w)) ws
  unfolding best_from
  first_map f g [] = refl
  first_map f g (w ∷ ws) = ap (better_spot longest (f (g w))) (first_map f g ws)

  first_one : (f : Spot → Option Spot) (w : Spot) → best_from f (w ∷ []) ≡ f w
  unfolding best_from
  first_one f w = better-None (λ s. score longest s.at) (f w)

  first_guard : (f : Spot → Option Spot) (b : Bool) (w : Spot) (slots : List ℕ) (r : AttemptResult) → f w ≡ trace_end slots r.answer
      → trace_end slots (guard b r).answer ≡ best_from f (if b then w ∷ [] else [])
  unfolding best_from trace_end
  first_guard f true w slots r h = sym (better-None (λ s. score longest s.at) (f w) ∙ h)
  first_guard f false w slots r h = refl

  -- a try finds the first of these ways from which the rest goes on
  abbrev pub Lists : (Continuation → Continuation) → (Spot → List Spot) → Type 0
  Lists body list = (k : Continuation) (s : Spot) → trace_end s.slots (body k s.at).answer ≡ best_from (onward k) (list s)

  one_iteration : (again : Continuation) (list : Spot → List Spot) (k : Continuation) (s : Spot) → ((w : Spot) → trace_end w.slots (again w.at).answer ≡ best_from (onward k) (list w))
      → (w : Spot) → onward (pick s.at k again) w ≡ best_from (onward k) (after_iteration list s w)
  unfolding after_iteration
  one_iteration again list k s ih w =
      ⊎_elim
      (λ (lt : s.at < w.at).
      ap (λ r. trace_end w.slots r.answer) (pick_moved s.at k again w.at lt) ∙ ih w ∙ (rw (lt-ltb s.at w.at lt)))
      (λ (ge : w.at ≤ s.at).
      ap (λ r. trace_end w.slots r.answer) (pick_same s.at k again w.at ge) ∙ (rw (le-ltb s.at w.at ge) (sym (first_one (onward k) w))))
      (cases_lt s.at w.at)

  iterations_order : (g : Bool) (x y : AttemptResult) (slots : List ℕ) (f : Spot → Option Spot) (us ws : List Spot)
      → trace_end slots x.answer ≡ best_from f us → trace_end slots y.answer ≡ best_from f ws
      → trace_end slots (prefer longest g x y).answer ≡ best_from f (in_order g us ws)
  iterations_order true x y slots f us ws a b = trace_end_better longest slots x.answer y.answer ∙ ap₂ (better_spot longest) a b ∙ sym (first_append f us ws)
  iterations_order false x y slots f us ws a b = trace_end_better longest slots y.answer x.answer ∙ ap₂ (better_spot longest) b a ∙ sym (first_append f ws us)

  iterations_list : (g : Bool) (body : Continuation → Continuation) (list : Spot → List Spot) → Lists body list → (n : ℕ) → Lists (λ k. iterations longest g body k n) (loop_ways g list n)
  unfolding iterations loop_ways best_from trace_end
  iterations_list g body list ih zero k s =
      iterations_order g _ _ s.slots (onward k) _ _
      (ih (pick s.at k (λ _. failed)) s
      ∙ first_cong _ _ (list s) (one_iteration (λ _. failed) (λ _. []) k s (λ w. refl))
      ∙ sym (first_each (onward k) (after_iteration (λ _. []) s) (list s)))
      (sym (first_one (onward k) s))
  iterations_list g body list ih (suc n) k s =
      iterations_order g _ _ s.slots (onward k) _ _
      (ih (pick s.at k (iterations longest g body k n)) s
      ∙ first_cong _ _ (list s) (one_iteration (iterations longest g body k n) (loop_ways g list n) k s (λ w. iterations_list g body list ih n k w))
      ∙ sym (first_each (onward k) (after_iteration (loop_ways g list n) s) (list s)))
      (sym (first_one (onward k) s))

  times_list : (body : Continuation → Continuation) (list : Spot → List Spot) → Lists body list → (last : Continuation → Continuation) (rest : Spot → List Spot) → Lists last rest
      → (n : ℕ) → Lists (λ k. times_try body n (last k)) (times_ways list n rest)
  unfolding times_try times_ways
  times_list body list ih last rest tail zero k s = tail k s
  times_list body list ih last rest tail (suc n) k s =
      ih (times_try body n (last k)) s
      ∙ first_cong _ _ (list s) (λ w. times_list body list ih last rest tail n k w)
      ∙ sym (first_each (onward k) (times_ways list n rest) (list s))

  upto_list : (g : Bool) (body : Continuation → Continuation) (list : Spot → List Spot) → Lists body list → (n : ℕ) → Lists (upto_try longest g body n) (upto_ways g list n)
  unfolding upto_try upto_ways
  upto_list g body list ih zero k s = sym (first_one (onward k) s)
  upto_list g body list ih (suc n) k s =
      iterations_order g _ _ s.slots (onward k) _ _
      (ih (upto_try longest g body n k) s
      ∙ first_cong _ _ (list s) (λ w. upto_list g body list ih n k w)
      ∙ sym (first_each (onward k) (upto_ways g list n) (list s)))
      (sym (first_one (onward k) s))

  tail_list : (u : Bool) (stop : ℕ) (g : Bool) (body : Continuation → Continuation) (list : Spot → List Spot) → Lists body list → (n : ℕ)
      → Lists (tail_try longest u stop g body n) (tail_ways u stop g list n)
  unfolding tail_try tail_ways
  tail_list true stop g body list ih n k s = iterations_list g body list ih (stop - s.at) k s
  tail_list false stop g body list ih n k s = upto_list g body list ih n k s

  asked_list : (negated : Bool) (s : Spot) (k : Continuation) (part : Option Trace) (ws : List Spot) → trace_end s.slots part ≡ first_of ws
      → trace_end s.slots (asked_answer negated part (k s.at).answer) ≡ best_from (onward k) (asked_ways negated s ws)
  unfolding best_from trace_end
  asked_list false s k None [] h = refl
  asked_list false s k None (w ∷ ws) h = absurd (none-some w h)
  asked_list false s k (Some t) [] h = absurd (none-some _ (sym h))
  asked_list false s k (Some t) (w ∷ ws) h =
      trace_end_after s.slots t.writes (k s.at).answer
      ∙ ap (λ (v : Spot). trace_end v.slots (k s.at).answer) (same_Some _ w h)
      ∙ sym (first_one (onward k) (record { at = s.at; slots = w.slots }))
  asked_list true s k None [] h = sym (first_one (onward k) s)
  asked_list true s k None (w ∷ ws) h = absurd (none-some w h)
  asked_list true s k (Some t) [] h = absurd (none-some _ (sym h))
  asked_list true s k (Some t) (w ∷ ws) h = refl

  passed_list : (s : Spot) (k : Continuation) (part : Option Trace) (ws : List Spot) → trace_end s.slots part ≡ first_of ws
      → trace_end s.slots (passed_answer part k) ≡ best_from (onward k) (first_way ws)
  unfolding best_from trace_end
  passed_list s k None [] h = refl
  passed_list s k None (w ∷ ws) h = absurd (none-some w h)
  passed_list s k (Some t) [] h = absurd (none-some _ (sym h))
  passed_list s k (Some t) (w ∷ ws) h =
      trace_end_after s.slots t.writes (k t.end).answer ∙ ap (onward k) (same_Some _ w h) ∙ sym (first_one (onward k) w)

first_better : (w : Spot) (o : Option Spot) → better_spot false (Some w) o ≡ Some w
first_better w None = refl
first_better w (Some v) = refl

-- where the first is wanted, it is the first
pub first_best : (ws : List Spot) → best_from false (onward accept) ws ≡ first_of ws
unfolding best_from trace_end apply
first_best [] = refl
first_best (w ∷ ws) = first_better w (best_from false (onward accept) ws)

-- so many characters before
module _ (view : View) (part : Continuation) (list : Spot → List Spot) (slots : List ℕ)
    (same : (i : ℕ) → trace_end slots (part i).answer ≡ first_of (list (record { at = i; slots = slots }))) where
  stepped_lists : (n : ℕ) (o : Option ℕ) (s : Spot) (i : ℕ)
      → ((j : ℕ) → trace_end slots (behind view n part j).answer ≡ first_of (ways_at list s (place_before view n j)))
      → trace_end slots (stepped o i (behind view n part)).answer ≡ first_of (ways_at list s (at_bytes_before (place_before view n) i o))
  unfolding trace_end
  stepped_lists n None s i lists = refl
  stepped_lists n (Some bytes) s i lists = lists (i - bytes)

  behind_lists : (n : ℕ) (s : Spot) (i : ℕ) → s.slots ≡ slots → trace_end slots (behind view n part i).answer ≡ first_of (ways_at list s (place_before view n i))
  unfolding behind place_before
  behind_lists zero s i e = same i ∙ ap (λ (xs : List ℕ). first_of (list (record { at = i; slots = xs }))) (sym e)
  behind_lists (suc n) s i e = stepped_lists n (view.back i) s i (λ j. behind_lists n s j e)

module _ (view : View) (stop : ℕ) where
  first_is : view.longest ≡ false → (ws : List Spot) → best_from view.longest (onward accept) ws ≡ first_of ws
  first_is wants_first ws = rw wants_first (first_best ws)

  pub attempt_lists : (view.has_parts ≡ true → view.longest ≡ false) → (t : Re) → MayAskIn view.has_parts t → Lists view.longest (attempt view stop t) (ways view stop t)
  unfolding attempt ways
  attempt_lists first nothing may k s = sym (first_one view.longest (onward k) s)
  attempt_lists first (read leaf) may k s = first_guard view.longest (onward k) (reads view stop leaf s.at) _ s.slots (k (view.next s.at)) refl
  attempt_lists first (test check) may k s = first_guard view.longest (onward k) (view.holds check s.at) _ s.slots (k s.at) refl
  attempt_lists first (cat a b) may k s =
      attempt_lists first a may.0 (attempt view stop b k) s
      ∙ first_cong view.longest _ _ (ways view stop a s) (λ w. attempt_lists first b may.1 k w)
      ∙ sym (first_each view.longest (onward k) (ways view stop b) (ways view stop a s))
  attempt_lists first (alt a b) may k s =
      trace_end_better view.longest s.slots _ _ ∙ ap₂ (better_spot view.longest) (attempt_lists first a may.0 k s) (attempt_lists first b may.1 k s)
      ∙ sym (first_append view.longest (onward k) (ways view stop a s) (ways view stop b s))
  attempt_lists first (group g a) may k s =
      trace_end_write s.slots (2 * g) s.at _
      ∙ attempt_lists first a may (λ j. save (2 * g + 1) j (k j)) (record { at = s.at; slots = set s.slots (2 * g) s.at })
      ∙ first_cong view.longest _ _ _ (λ w. trace_end_write w.slots (2 * g + 1) w.at _)
      ∙ sym (first_map view.longest (onward k) _ _)
  attempt_lists first (repeat lo hi g strict a) may k s =
      times_list view.longest (attempt view stop a) (ways view stop a) (attempt_lists first a may)
      (tail_try view.longest (is_unbounded hi) stop g (attempt view stop a) (hi - lo)) (tail_ways (is_unbounded hi) stop g (ways view stop a) (hi - lo))
      (tail_list view.longest (is_unbounded hi) stop g (attempt view stop a) (ways view stop a) (attempt_lists first a may) (hi - lo)) lo k s
  attempt_lists first (ask negated back a) may k s =
      asked_list view.longest negated s k (behind view back (attempt view stop a accept) s.at).answer (ways_at (ways view stop a) s (place_before view back s.at))
      (behind_lists view (attempt view stop a accept) (ways view stop a) s.slots
      (λ i. let here : Spot = record { at = i; slots = s.slots } in attempt_lists first a may.1 accept here ∙ first_is (first may.0) (ways view stop a here)) back s s.at refl)
  attempt_lists first (atomic a) may k s =
      passed_list view.longest s k (attempt view stop a accept s.at).answer (ways view stop a s) (attempt_lists first a may.1 accept s ∙ first_is (first may.0) (ways view stop a s))
  attempt_lists first (conditional c a b) may k s =
      let asked = ways view stop c s in
      let finds = attempt_lists first c may.1.0 accept s ∙ first_is (first may.0) asked in
      trace_end_better view.longest s.slots _ _
      ∙ ap₂ (better_spot view.longest)
      (passed_list view.longest s (attempt view stop a k) (attempt view stop c accept s.at).answer asked finds
      ∙ first_cong view.longest _ _ (first_way asked) (λ w. attempt_lists first a may.1.1.0 k w)
      ∙ sym (first_each view.longest (onward k) (ways view stop a) (first_way asked)))
      (asked_list view.longest true s (attempt view stop b k) (attempt view stop c accept s.at).answer asked finds
      ∙ first_cong view.longest _ _ (asked_ways true s asked) (λ w. attempt_lists first b may.1.1.1 k w)
      ∙ sym (first_each view.longest (onward k) (ways view stop b) (asked_ways true s asked)))
      ∙ sym (first_append view.longest (onward k) (each (ways view stop a) (first_way asked)) (each (ways view stop b) (asked_ways true s asked)))

  -- a part has the first of its ways
  pub part_first : (view.has_parts ≡ true → view.longest ≡ false) → view.longest ≡ false → (t : Re) → MayAskIn view.has_parts t → (s : Spot)
      → trace_end s.slots (attempt view stop t accept s.at).answer ≡ first_of (ways view stop t s)
  part_first first wants_first t may s = attempt_lists first t may accept s ∙ first_is wants_first (ways view stop t s)
