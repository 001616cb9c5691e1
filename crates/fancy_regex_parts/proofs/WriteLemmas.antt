-- Ways that write no slot.
use Rattle.std.proofs.Common.{◌≡◌, ◌∙◌, ℕ, zero, suc, ◌+◌, ◌-◌, ◌<◌, ◌≤◌, Bool, true, false, ◌||◌, List, [], ◌++◌, length, Option, Some, None, refl, sym, ap, ap₂, subst, inl, inr, arith, true≢false, if◌then◌else◌, nat_lt}
use Rattle.std.proofs.lemmas.Bool.{or_parts}
use Rattle.fancy_regex_states.specs.Attempts.{View, Trace, AttemptResult, Continuation, score, after_writes, asked_answer, passed_answer, passed_depth, resume, stepped, reads, visit, NamesBelow}
use Rattle.fancy_regex_states.specs.First.{state_at}
use Rattle.fancy_regex_states.specs.declared.state.State.{State}
use Rattle.fancy_regex_states.specs.declared.state.State.TheVariants.{Split, Enter, Leave, Ask, Atomic, Match}
use Rattle.fancy_regex_states.specs.declared.state.State.TheVariants as S
use Rattle.fancy_regex_parts.specs.Ways.{state_after, place_after}
use Rattle.fancy_regex_parts.specs.Tables.{may_write, leads_to_write}
use Rattle.fancy_regex_parts.specs.Walk.{trace_writes}
use Rattle.fancy_regex_parts.specs.Does.{DoWhat}
use Rattle.fancy_regex_parts.proofs.BetweenLemmas.{EndsBy, either_has, guard_has, own_has, picked, after_below, place_by, read_between, ends_by}
use Rattle.fancy_regex_parts.specs.declared.step.EndRange.{EndRange}

-- the way, if there is one, writes nothing
abbrev WritesNone : Option Trace → Type 0
WritesNone a = trace_writes a ≡ []

after_none : (ws : List (ℕ × ℕ)) (a : Option Trace) → ws ≡ [] → WritesNone a → WritesNone (after_writes ws a)
after_none ws None none h = refl
after_none ws (Some t) none h = ap₂ (λ (xs ys : List (ℕ × ℕ)). xs ++ ys) none h

asked_none : (part rest : Option Trace) → WritesNone part → WritesNone rest → WritesNone (asked_answer false part rest)
asked_none None rest p h = refl
asked_none (Some t) rest p h = after_none t.writes rest p h

refused_none : (part rest : Option Trace) → WritesNone rest → WritesNone (asked_answer true part rest)
refused_none None rest h = h
refused_none (Some t) rest h = refl

one_no_write : (writes : List Bool) (b : Bool) (same moved : ℕ) → may_write writes same ≡ false → may_write writes moved ≡ false
    → may_write writes (if b then moved else same) ≡ false
one_no_write writes true same moved s m = m
one_no_write writes false same moved s m = s

-- where all that is less deep than d and may not write writes nothing
module _ (view : View) (len : ℕ) (go : ℕ → Continuation) (count d : ℕ) (writes : List Bool)
    (less : (p j : ℕ) → p < count → j ≤ len → may_write writes p ≡ false → (go p j).depth < d → WritesNone (go p j).answer) where
  group_none : (part same moved i : ℕ) (a : Option Trace) → same < count → moved < count → may_write writes same ≡ false
      → may_write writes moved ≡ false → i ≤ len → EndsBy len a → WritesNone a → passed_depth a (resume i (go same) (go moved)) < d
      → WritesNone (passed_answer a (resume i (go same) (go moved)))
  group_none part same moved i None s m s_no_write m_no_write le within none deep = refl
  group_none part same moved i (Some t) s m s_no_write m_no_write le within none deep =
      let is = picked go i same moved t.end in
      let low = after_below go i same moved count t.end s m in
      let no_write : may_write writes (state_after i same moved t.end) ≡ false = one_no_write writes (nat_lt i t.end) same moved s_no_write m_no_write in
      let place = place_by go i same moved len t.end le within.0 in
      let less_deep : (go (state_after i same moved t.end) (place_after i t.end)).depth < d = subst (λ (r : AttemptResult). r.depth < d) is deep in
      after_none t.writes _ none (subst (λ (r : AttemptResult). WritesNone r.answer) (sym is)
      (less (state_after i same moved t.end) (place_after i t.end) low place no_write less_deep))

  back_none : (o : Option ℕ) (next i : ℕ) → next < count → may_write writes next ≡ false → i ≤ len → (stepped o i (go next)).depth ≤ d
      → WritesNone (stepped o i (go next)).answer
  back_none None next i names no_write le deep = refl
  back_none (Some bytes) next i names no_write le deep = less next (i - bytes) names (omega (arith, le)) no_write (omega (arith, deep))

  visit_none : (state : State) (i : ℕ) → NamesBelow count state → leads_to_write writes state ≡ false → i ≤ len
      → ((p : ℕ) → p < count → EndsBy len (go p i).answer) → (visit view len go state i).depth ≤ d
      → WritesNone (visit view len go state i).answer
  visit_none (S.Read leaf next) i names no_write le within deep =
      guard_has WritesNone (reads view len leaf i) (go next (view.next i)) d refl deep
      (λ yes under. less next (view.next i) names (read_between view len leaf i yes).1 no_write under)
  visit_none (S.Look check next) i names no_write le within deep =
      guard_has WritesNone (view.holds check i) (go next i) d refl deep (λ yes under. less next i names le no_write under)
  visit_none (S.Back next) i names no_write le within deep = back_none (view.back i) next i names no_write le deep
  visit_none (Split first second) i names no_write le within deep =
      let both = or_parts (may_write writes first) (may_write writes second) no_write in
      either_has WritesNone (λ t. score view.longest t.end) (go first i).answer (go second i).answer
      (less first i names.0 le both.0 (omega (arith, deep))) (less second i names.1 le both.1 (omega (arith, deep)))
  visit_none (Enter g next) i names no_write le within deep = absurd (true≢false no_write)
  visit_none (Leave g next) i names no_write le within deep = absurd (true≢false no_write)
  visit_none (Ask part false next) i names no_write le within deep =
      let both = or_parts (may_write writes part) (may_write writes next) no_write in
      asked_none (go part i).answer (go next i).answer (less part i names.0 le both.0 (omega (arith, deep))) (less next i names.1 le both.1 (omega (arith, deep)))
  visit_none (Ask part true next) i names no_write le within deep =
      refused_none (go part i).answer (go next i).answer (less next i names.1 le no_write (omega (arith, deep)))
  visit_none (Atomic part same moved) i names no_write le within deep =
      let one = or_parts (may_write writes part) (may_write writes same || may_write writes moved) no_write in
      let two = or_parts (may_write writes same) (may_write writes moved) one.1 in
      group_none part same moved i (go part i).answer names.1 names.2 two.0 two.1 le (within part names.0)
      (less part i names.0 le one.0 (omega (arith, deep))) (omega (arith, deep))
  visit_none Match i names no_write le within deep = refl

module _ (view : View) (len : ℕ) (range : EndRange) (states : List State) (go : ℕ → Continuation) (does : DoWhat view len range states go) (writes : List Bool)
    (all : (q : ℕ) → q < length states → may_write writes q ≡ false → leads_to_write writes (state_at states q) ≡ false) where
  none_from : (d q i : ℕ) → q < length states → i ≤ len → may_write writes q ≡ false → (go q i).depth < d → WritesNone (go q i).answer
  none_from zero q i low le no_write deep = absurd (omega arith)
  none_from (suc d) q i low le no_write deep =
      elim (does.agree q low) [
        | inl own ↦ subst (λ (p : ℕ). WritesNone (go p i).answer) (sym own) (own_has view len range states go does WritesNone i refl refl)
        | inr agree ↦
            let is = agree.does i le in
            subst (λ (r : AttemptResult). WritesNone r.answer) (sym is)
            (visit_none view len go (length states) d writes (λ p j pl jl s pd. none_from d p j pl jl s pd) (state_at states q) i agree.names
            (all q low no_write) le (λ p pl. ends_by view len range states go does p i pl le)
            (subst (λ (r : AttemptResult). r.depth ≤ d) is (omega (arith, deep))))
      ]

  -- a way from a state that may not write writes nothing
  pub writes_nothing : (q i : ℕ) → q < length states → i ≤ len → may_write writes q ≡ false → trace_writes (go q i).answer ≡ []
  writes_nothing q i low le no_write = none_from ((go q i).depth + 1) q i low le no_write (omega arith)
