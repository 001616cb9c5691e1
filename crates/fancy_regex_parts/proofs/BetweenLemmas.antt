-- Where ways end, and what places they write.
use Rattle.std.proofs.Common.{◌≡◌, ℕ, zero, suc, ◌+◌, ◌-◌, ◌*◌, ◌<◌, ◌≤◌, Bool, true, false, List, [], ◌∷◌, ◌++◌, length, Option, Some, None, sym, ap, subst, inl, inr, arith, refl, if◌then◌else◌, nat_lt, nat_le}
use Rattle.std.proofs.lemmas.Bool.{and_parts, ltb-true, leb-true}
use Rattle.fancy_regex_states.specs.Attempts.{View, Trace, AttemptResult, Continuation, better, score, guard, write, after_writes, accept, failed, asked_answer, passed_answer, passed_depth, resume, stepped, pick, reads, visit, NamesBelow}
use Rattle.fancy_regex_states.specs.First.{state_at}
use Rattle.fancy_regex_states.specs.declared.atom.Leaf.{Leaf}
use Rattle.fancy_regex_states.specs.declared.state.State.{State}
use Rattle.fancy_regex_states.specs.declared.state.State.TheVariants.{Split, Enter, Leave, Ask, Atomic, Match}
use Rattle.fancy_regex_states.specs.declared.state.State.TheVariants as S
use Rattle.fancy_regex_parts.specs.Ways.{state_after, place_after, admits}
use Rattle.fancy_regex_parts.specs.Does.{DoWhat}
use Rattle.fancy_regex_parts.specs.declared.step.EndRange.{EndRange}

-- these writes write places up to this one
abbrev pub AllBy : ℕ → List (ℕ × ℕ) → Type 0
AllBy high [] = Unit {0}
AllBy high (w ∷ ws) = (w.1 ≤ high) × AllBy high ws

all_by_both : (high : ℕ) (ws xs : List (ℕ × ℕ)) → AllBy high ws → AllBy high xs → AllBy high (ws ++ xs)
all_by_both high [] xs h k = k
all_by_both high (w ∷ ws) xs h k = (h.0, all_by_both high ws xs h.1 k)

-- the way, if there is one, ends by this place, and writes none after it
abbrev pub EndsBy : ℕ → Option Trace → Type 0
EndsBy high None = Unit {0}
EndsBy high (Some t) = (t.end ≤ high) × AllBy high t.writes

-- what holds of both holds of the better one
pub either_has : (X : Option Trace → Type 0) (rank : Trace → ℕ) (a b : Option Trace) → X a → X b → X (better rank a b)
either_has X rank None b x y = y
either_has X rank (Some a) None x y = x
either_has X rank (Some a) (Some b) x y = chosen (nat_lt (rank a) (rank b))
  where
    chosen : (c : Bool) → X (if c then Some b else Some a)
    chosen true = y
    chosen false = x

-- after a test
pub guard_has : (X : Option Trace → Type 0) (b : Bool) (r : AttemptResult) (d : ℕ) → X None → (guard b r).depth ≤ d
    → (b ≡ true → r.depth < d → X r.answer) → X (guard b r).answer
guard_has X true r d none le h = h refl (omega arith)
guard_has X false r d none le h = none

module _ (high : ℕ) where
  write_by : (slot i : ℕ) (a : Option Trace) → i ≤ high → EndsBy high a → EndsBy high (write slot i a)
  write_by slot i None le h = tt
  write_by slot i (Some t) le h = (h.0, (le, h.1))

  after_by : (ws : List (ℕ × ℕ)) (a : Option Trace) → AllBy high ws → EndsBy high a → EndsBy high (after_writes ws a)
  after_by ws None by h = tt
  after_by ws (Some t) by h = (h.0, all_by_both high ws t.writes by h.1)

  asked_by : (negated : Bool) (part rest : Option Trace) → EndsBy high part → EndsBy high rest → EndsBy high (asked_answer negated part rest)
  asked_by false None rest p h = tt
  asked_by false (Some t) rest p h = after_by t.writes rest p.1 h
  asked_by true None rest p h = h
  asked_by true (Some t) rest p h = tt

module _ (go : ℕ → Continuation) (i same moved : ℕ) where
  one_go : (b : Bool) (e : ℕ) → (if b then go moved e else go same i) ≡ go (if b then moved else same) (if b then e else i)
  one_go true e = refl
  one_go false e = refl

  -- what follows an atomic group
  pub picked : (e : ℕ) → resume i (go same) (go moved) e ≡ go (state_after i same moved e) (place_after i e)
  unfolding resume
  picked e = one_go (nat_lt i e) e

  pub after_below : (count e : ℕ) → same < count → moved < count → state_after i same moved e < count
  after_below count e s m = one_below (nat_lt i e)
    where
      one_below : (b : Bool) → (if b then moved else same) < count
      one_below true = m
      one_below false = s

  pub place_by : (high e : ℕ) → i ≤ high → e ≤ high → place_after i e ≤ high
  place_by high e s m = one_by (nat_lt i e)
    where
      one_by : (b : Bool) → (if b then e else i) ≤ high
      one_by true = m
      one_by false = s

module _ (view : View) (len : ℕ) where
  pub read_between : (leaf : Leaf) (i : ℕ) → reads view len leaf i ≡ true → (i < view.next i) × (view.next i ≤ len)
  unfolding reads
  read_between leaf i e =
      let both = and_parts _ _ (and_parts _ _ e).1 in
      (ltb-true i (view.next i) both.0, leb-true (view.next i) len both.1)

-- where all that is less deep than d ends in the text
module _ (view : View) (len : ℕ) (go : ℕ → Continuation) (count d : ℕ)
    (less : (p j : ℕ) → p < count → j ≤ len → (go p j).depth < d → EndsBy len (go p j).answer) where
  group_by : (part same moved i : ℕ) (a : Option Trace) → same < count → moved < count → i ≤ len → EndsBy len a
      → passed_depth a (resume i (go same) (go moved)) < d → EndsBy len (passed_answer a (resume i (go same) (go moved)))
  group_by part same moved i None s m inside h le = tt
  group_by part same moved i (Some t) s m inside h le =
      let is = picked go i same moved t.end in
      let low = after_below go i same moved count t.end s m in
      let place = place_by go i same moved len t.end inside h.0 in
      let less_deep : (go (state_after i same moved t.end) (place_after i t.end)).depth < d = subst (λ (r : AttemptResult). r.depth < d) is le in
      after_by len t.writes _ h.1 (subst (λ (r : AttemptResult). EndsBy len r.answer) (sym is)
      (less (state_after i same moved t.end) (place_after i t.end) low place less_deep))

  back_by : (o : Option ℕ) (next i : ℕ) → next < count → i ≤ len → (stepped o i (go next)).depth ≤ d → EndsBy len (stepped o i (go next)).answer
  back_by None next i names le deep = tt
  back_by (Some bytes) next i names le deep = less next (i - bytes) names (omega (arith, le)) (omega (arith, deep))

  visit_by : (state : State) (i : ℕ) → NamesBelow count state → i ≤ len → (visit view len go state i).depth ≤ d
      → EndsBy len (visit view len go state i).answer
  visit_by (S.Read leaf next) i names le deep =
      guard_has (EndsBy len) (reads view len leaf i) (go next (view.next i)) d tt deep
      (λ yes under. let on = read_between view len leaf i yes in less next (view.next i) names on.1 under)
  visit_by (S.Look check next) i names le deep =
      guard_has (EndsBy len) (view.holds check i) (go next i) d tt deep (λ yes under. less next i names le under)
  visit_by (S.Back next) i names le deep = back_by (view.back i) next i names le deep
  visit_by (Split first second) i names le deep =
      either_has (EndsBy len) (λ t. score view.longest t.end) (go first i).answer (go second i).answer
      (less first i names.0 le (omega (arith, deep))) (less second i names.1 le (omega (arith, deep)))
  visit_by (Enter g next) i names le deep = write_by len (2 * g) i _ le (less next i names le (omega (arith, deep)))
  visit_by (Leave g next) i names le deep = write_by len (2 * g + 1) i _ le (less next i names le (omega (arith, deep)))
  visit_by (Ask part negated next) i names le deep =
      asked_by len negated _ _ (less part i names.0 le (omega (arith, deep))) (less next i names.1 le (omega (arith, deep)))
  visit_by (Atomic part same moved) i names le deep =
      group_by part same moved i (go part i).answer names.1 names.2 le (less part i names.0 le (omega (arith, deep))) (omega (arith, deep))
  visit_by Match i names le deep = (le, tt)

module _ (view : View) (len : ℕ) (range : EndRange) (states : List State) (go : ℕ → Continuation) (does : DoWhat view len range states go) where
  pub own_has : (X : Option Trace → Type 0) (i : ℕ) → X None → X (accept i).answer → X (go 0 i).answer
  own_has X i none some = subst (λ (k : Continuation). X (k i).answer) (sym does.zero) (by_range (admits range i))
    where
      by_range : (b : Bool) → X (if b then accept i else failed).answer
      by_range true = some
      by_range false = none

  by_from : (d q i : ℕ) → q < length states → i ≤ len → (go q i).depth < d → EndsBy len (go q i).answer
  by_from zero q i low le deep = absurd (omega arith)
  by_from (suc d) q i low le deep =
      elim (does.agree q low) [
        | inl own ↦ subst (λ (p : ℕ). EndsBy len (go p i).answer) (sym own) (own_has (EndsBy len) i tt (le, tt))
        | inr agree ↦
            let is = agree.does i le in
            subst (λ (r : AttemptResult). EndsBy len r.answer) (sym is)
            (visit_by view len go (length states) d (λ p j pl jl pd. by_from d p j pl jl pd) (state_at states q) i agree.names le
            (subst (λ (r : AttemptResult). r.depth ≤ d) is (omega (arith, deep))))
      ]

  -- a way ends in the text
  pub ends_by : (q i : ℕ) → q < length states → i ≤ len → EndsBy len (go q i).answer
  ends_by q i low le = by_from ((go q i).depth + 1) q i low le (omega arith)
