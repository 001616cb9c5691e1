-- The states of a pattern that do what an attempt says have ways: those of the attempt.
use Rattle.std.proofs.Common.{◌≡◌, ◌∙◌, ℕ, ◌+◌, ◌-◌, ◌*◌, ◌<◌, ◌≤◌, ◌⊎◌, Bool, true, false, ◌&&◌, List, length, Option, Some, None, refl, sym, ap, subst, inl, inr, arith, if◌then◌else◌, true≢false, not, nat_lt, lt-ltb, le-ltb, le-leb, ne_eqb}
use Rattle.std.proofs.lemmas.Bool.{and_from, and_left, cases_eq, cases_lt, lt-leb}
use Rattle.std.proofs.lemmas.Option.{none-some, same_Some}
use Rattle.std.proofs.lemmas.Str.{len_utf8_bounds}
use Rattle.std.specs.Char.{len_utf8}
use Rattle.std.specs.Prelude.{IsCharBoundary, nat_eq, option_and_then, option_map, unwrap_or}
use Rattle.regex_hir.specs.Text.{is_some_and, char_at}
use Rattle.regex_hir.proofs.TextLemmas.{char_at_fits}
use Rattle.fancy_regex_class.specs.declared.class.CharClassMatcher.{CharClassMatcher}
use Rattle.fancy_regex_states.specs.Attempts.{View, Trace, AttemptResult, Continuation, better_trace, guard, write, after_writes, accept, failed, asked_answer, passed_answer, passed_depth, resume, stepped, reads, visit, Agrees, ShowsAll}
use Rattle.fancy_regex_states.specs.CharTests.{leaf_matches_char}
use Rattle.fancy_regex_states.specs.First.{state_at}
use Rattle.fancy_regex_states.specs.declared.atom.Leaf.{Leaf}
use Rattle.fancy_regex_states.specs.declared.rules.Rules.{Rules}
use Rattle.fancy_regex_states.specs.declared.state.State.{State}
use Rattle.fancy_regex_states.specs.declared.state.State.TheVariants.{Split, Enter, Leave, Ask, Atomic, Match}
use Rattle.fancy_regex_states.specs.declared.state.State.TheVariants as S
use Rattle.fancy_regex_parts.specs.Ways.{Explains, Falls, first_way, answer_end, ways_of, text_view, or_else, if_asked, state_after, place_after, match_end, admits}
use Rattle.fancy_regex_parts.specs.Does.{accept_in}
use Rattle.fancy_regex_parts.specs.declared.step.EndRange.{EndRange}

-- where a trace ends
abbrev ends_at : Option Trace → Option ℕ
ends_at = option_map (λ t. t.end)

-- after a test
guarded : (b c : Bool) (r : AttemptResult) → b ≡ c → answer_end (guard b r) ≡ (if c then answer_end r else None)
guarded true true r e = refl
guarded true false r e = absurd (true≢false e)
guarded false true r e = absurd (true≢false (sym e))
guarded false false r e = refl

guarded_falls : (b c : Bool) (r : AttemptResult) → b ≡ c → c ≡ true → r.depth < (guard b r).depth
guarded_falls true c r e holds = omega arith
guarded_falls false c r e holds = absurd (true≢false (sym (e ∙ holds)))

-- after a step back
stepped_is : (o : Option ℕ) (i : ℕ) (k : Continuation) → answer_end (stepped o i k) ≡ option_and_then (λ bytes. answer_end (k (i - bytes))) o
stepped_is None i k = refl
stepped_is (Some bytes) i k = refl

stepped_falls : (o : Option ℕ) (i bytes : ℕ) (k : Continuation) → o ≡ Some bytes → (k (i - bytes)).depth < (stepped o i k).depth
stepped_falls None i bytes k is = absurd (none-some bytes is)
stepped_falls (Some other) i bytes k is = let same : other ≡ bytes = same_Some other bytes is in rw same (omega arith)

-- of two branches
chosen : (longest : Bool) (a b : Option Trace) → longest ≡ false → ends_at (better_trace longest a b) ≡ or_else (ends_at a) (ends_at b)
chosen true a b e = absurd (true≢false e)
chosen false None b e = refl
chosen false (Some t) None e = refl
chosen false (Some t) (Some u) e = refl

-- after a write
written : (slot i : ℕ) (a : Option Trace) → ends_at (write slot i a) ≡ ends_at a
written slot i None = refl
written slot i (Some t) = refl

prefixed : (ws : List (ℕ × ℕ)) (a : Option Trace) → ends_at (after_writes ws a) ≡ ends_at a
prefixed ws None = refl
prefixed ws (Some t) = refl

-- after a part that is asked
asked_is : (negated : Bool) (part rest : Option Trace) → ends_at (asked_answer negated part rest) ≡ if_asked negated (ends_at part) (ends_at rest)
asked_is false None rest = refl
asked_is false (Some t) rest = prefixed t.writes rest
asked_is true None rest = refl
asked_is true (Some t) rest = refl

-- after an atomic group
module _ (go : ℕ → Continuation) (i same moved : ℕ) where
  one_go : (b : Bool) (e : ℕ) → (if b then go moved e else go same i) ≡ go (if b then moved else same) (if b then e else i)
  one_go true e = refl
  one_go false e = refl

  picked : (e : ℕ) → resume i (go same) (go moved) e ≡ go (state_after i same moved e) (place_after i e)
  unfolding resume
  picked e = one_go (nat_lt i e) e

  passed_is : (part : Option Trace)
      → ends_at (passed_answer part (resume i (go same) (go moved))) ≡ option_and_then (λ e. answer_end (go (state_after i same moved e) (place_after i e))) (ends_at part)
  passed_is None = refl
  passed_is (Some t) = prefixed t.writes _ ∙ ap answer_end (picked t.end)

  passed_falls : (part : Option Trace) (e : ℕ) → ends_at part ≡ Some e
      → (go (state_after i same moved e) (place_after i e)).depth ≡ passed_depth part (resume i (go same) (go moved))
  passed_falls None e is = cc
  passed_falls (Some t) e is =
      let end_is : t.end ≡ e = cc in
      subst (λ (j : ℕ). (go (state_after i same moved j) (place_after i j)).depth ≡ (resume i (go same) (go moved) t.end).depth) end_is (sym (ap (λ r. r.depth) (picked t.end)))

and_true : (a b : Bool) → b ≡ true → (a && b) ≡ a
and_true true b e = e
and_true false b e = refl

-- the pattern's own final state, and another one
accepted : (within : Bool) (i : ℕ) → answer_end (if within then accept i else failed) ≡ (if not within then None else Some i)
accepted true i = refl
accepted false i = refl

own_end : (range : EndRange) (i : ℕ) → answer_end (accept_in range i) ≡ match_end range 0 i
own_end range i = accepted (admits range i) i

part_end : (own past : Bool) (i : ℕ) → own ≡ false → Some i ≡ (if own && past then None else Some i)
part_end true past i e = absurd (true≢false e)
part_end false past i e = refl

module _ (matchers : List CharClassMatcher) (rules : Rules) (range : EndRange) (text : List ℕ) (view : View) (go : ℕ → Continuation) (first : view.longest ≡ false)
    (shows : ShowsAll matchers rules text (text_view view)) where
  reads_here : (leaf : Leaf) (i : ℕ) (after : Option ℕ) → view.has leaf i ≡ is_some_and after (leaf_matches_char rules.unicode matchers leaf)
      → view.next i ≡ i + unwrap_or (option_map len_utf8 after) 1 → ((c : ℕ) → after ≡ Some c → i + len_utf8 c ≤ length text)
      → reads view (length text) leaf i ≡ view.has leaf i
  unfolding reads
  reads_here leaf i None has next fits = and_left _ _ has ∙ sym has
  reads_here leaf i (Some c) has next fits =
      let some = len_utf8_bounds c in
      let low : i < view.next i = omega arith in
      let high : view.next i ≤ length text = omega (arith, fits c refl) in
      and_true _ _ (and_from _ _ (lt-ltb i (view.next i) low) (le-leb (view.next i) (length text) high))

  -- at a boundary a leaf reads what is there
  reads_is : (leaf : Leaf) (i : ℕ) → IsCharBoundary text i → reads view (length text) leaf i ≡ view.has leaf i
  reads_is leaf i b = let s = shows i b in reads_here leaf i (char_at text i) (s.has leaf) s.next (λ c is. char_at_fits text i c is)

  -- what a state gives, but for the pattern's own final state, ends where its first way does
  visit_end : (q : ℕ) (state : State) (i : ℕ) → nat_eq q 0 ≡ false → IsCharBoundary text i
      → answer_end (visit view (length text) go state i) ≡ first_way (text_view view) (ways_of go) range q state i
  visit_end q (S.Read leaf next) i other b = guarded _ _ (go next (view.next i)) (reads_is leaf i b)
  visit_end q (S.Look check next) i other b = guarded _ _ (go next i) refl
  visit_end q (S.Back next) i other b = stepped_is (view.back i) i (go next)
  visit_end q (Split one two) i other b = chosen view.longest (go one i).answer (go two i).answer first
  visit_end q (Enter g next) i other b = written (2 * g) i (go next i).answer
  visit_end q (Leave g next) i other b = written (2 * g + 1) i (go next i).answer
  visit_end q (Ask part negated next) i other b = asked_is negated (go part i).answer (go next i).answer
  visit_end q (Atomic part same moved) i other b = passed_is go i same moved (go part i).answer
  visit_end q Match i other b = part_end (nat_eq q 0) (not (admits range i)) i other

  -- and is deeper than what it leads to
  visit_falls : (state : State) (i : ℕ) → IsCharBoundary text i
      → Falls (text_view view) (ways_of go) state i (visit view (length text) go state i).depth
  visit_falls (S.Read leaf next) i b = guarded_falls _ _ (go next (view.next i)) (reads_is leaf i b)
  visit_falls (S.Look check next) i b = guarded_falls _ _ (go next i) refl
  visit_falls (S.Back next) i b = λ bytes is. stepped_falls (view.back i) i bytes (go next) is
  visit_falls (Split one two) i b = (omega arith, omega arith)
  visit_falls (Enter g next) i b = omega arith
  visit_falls (Leave g next) i b = omega arith
  visit_falls (Ask part negated next) i b = (omega arith, omega arith)
  visit_falls (Atomic part same moved) i b = (omega arith, λ e is. omega (arith, passed_falls go i same moved (go part i).answer e is))
  visit_falls Match i b = tt

  -- What each state has: the pattern's own final state accepts in the range, and the others do what `go` says.
  module _ (states : List State) (zero : go 0 ≡ accept_in range) (final : state_at states 0 ≡ Match) where
    own_way : (i : ℕ) → (ways_of go).end 0 i ≡ first_way (text_view view) (ways_of go) range 0 (state_at states 0) i
    own_way i =
        ap (λ (k : Continuation). answer_end (k i)) zero ∙ own_end range i
        ∙ ap (λ (s : State). first_way (text_view view) (ways_of go) range 0 s i) (sym final)

    own_falls : (i d : ℕ) → Falls (text_view view) (ways_of go) (state_at states 0) i d
    own_falls i d = subst (λ (s : State). Falls (text_view view) (ways_of go) s i d) (sym final) tt

    module _ (q i : ℕ) (low : q < length states) (b : IsCharBoundary text i) where
      other_way : nat_eq q 0 ≡ false → Agrees view (length text) go (length states) q (state_at states q)
          → (ways_of go).end q i ≡ first_way (text_view view) (ways_of go) range q (state_at states q) i
      other_way other agree = ap answer_end (agree.does i b.0) ∙ visit_end q (state_at states q) i other b

      other_falls : Agrees view (length text) go (length states) q (state_at states q)
          → Falls (text_view view) (ways_of go) (state_at states q) i (go q i).depth
      other_falls agree =
          subst (λ (d : ℕ). Falls (text_view view) (ways_of go) (state_at states q) i d) (sym (ap (λ r. r.depth) (agree.does i b.0)))
          (visit_falls (state_at states q) i b)

    -- the states have these ways in the text
    pub explains_of : ((q : ℕ) → q < length states → (q ≡ 0) ⊎ Agrees view (length text) go (length states) q (state_at states q))
        → Explains matchers rules range states text (text_view view) (ways_of go)
    explains_of agree = record {
      shows = shows;
      ends = λ q i low b. elim (cases_eq q 0) [
        | inl own ↦ subst (λ (p : ℕ). (ways_of go).end p i ≡ first_way (text_view view) (ways_of go) range p (state_at states p) i) (sym own) (own_way i)
        | inr not_own ↦ elim (agree q low) [
          | inl own ↦ absurd (not_own own)
          | inr does ↦ other_way q i low b (ne_eqb q 0 not_own) does
        ]
      ];
      falls = λ q i low b. elim (agree q low) [
        | inl own ↦ subst (λ (p : ℕ). Falls (text_view view) (ways_of go) (state_at states p) i (go p i).depth) (sym own) (own_falls i (go 0 i).depth)
        | inr does ↦ other_falls q i low b does
      ];
    }
