use Rattle.std.proofs.Common.{◌≡◌, ℕ, ◌+◌, ◌-◌, ◌^◌, ◌<◌, ◌≤◌, ◌∙◌, ◌∷◌, min, List, Option, Some, None, true, refl, sym, ap, arith, inl, inr, IfSome, IsCharBoundary}
use Rattle.std.specs.Char.{len_utf8}
use Rattle.regex_hir.specs.Text.{char_at}
use Rattle.fancy_regex_class.specs.Looks.{looked_text, look_count}
use Rattle.fancy_regex_states.specs.First.{CannotBegin}
use Rattle.fancy_regex_states.specs.Attempts.{View, Continuation}
use Rattle.fancy_regex_linear.specs.Meaning.{Spot}
use Rattle.fancy_regex_linear.specs.Attempt.{trace_end}
use Rattle.fancy_regex_linear.specs.Find.{earliest, attempted, places, places_from}
use Rattle.fancy_regex_linear.specs.Search.{Explains}
use Rattle.fancy_regex_linear.specs.Starts.{spot_from}
use Rattle.fancy_regex_linear.proofs.DfsLemmas.{trace_end_none}
use Rattle.fancy_regex_linear.proofs.RefusalLemmas.{start_fails, skipped_fails}
use Rattle.fancy_regex_linear.proofs.StartLemmas.{dropped_on, earliest_none, tried_none, tried_some, failed_next, failed_last, none_from}
use Rattle.fancy_regex_linear.proofs.SettleLemmas.{skip_on}
use Rattle.fancy_regex_linear.proofs.starts.next_start.Goals as goal
use Rattle.fancy_regex_linear.proofs.starts.next_start.Goals.{After-is_refused, After-refuses_all}

-- where all starts after the first place of the text are refused, none of these has a match
none_left : (c : After-refuses_all) → c.refuses_all.result ≡ true → 0 < c.args.from → (view : View) (go : ℕ → Continuation)
    → Explains c.args.context.now (looked_text c.args.text.now) view go → (slots : List ℕ)
    → (earliest (spot_from go c.args.context.now.entry slots) (places (looked_text c.args.text.now) c.args.anchored c.args.from c.args.context.now.stop) ≡ None)
    × (attempted (spot_from go c.args.context.now.entry slots) (places (looked_text c.args.text.now) c.args.anchored c.args.from c.args.context.now.stop)
    ≤ c.args.context.now.stop - c.args.from + 1)
none_left c e some view go explains slots =
    let context = c.args.context.now in
    let text = looked_text c.args.text.now in
    none_from (spot_from go context.entry slots) text c.args.anchored c.args.from context.stop c.requires.boundary c.requires.range.0 c.requires.range.1
    (λ i b low high.
    ap (trace_end slots)
    (start_fails context text view go explains c.requires.text i (char_at text i) b (omega (arith, some, low)) high c.requires.context.entry refl (c.refuses_all.ensures e (char_at text i)))
    ∙ trace_end_none slots)

pub returns-then-refuses_all-clause-passed : goal.returns-then-refuses_all-clause-passed
returns-then-refuses_all-clause-passed c view go explains slots =
    let d = (goal.at.returns-then-refuses_all-clause-passed c).After-refuses_all in
    (none_left d c.if-refuses_all.true c.if-from-gt0.true view go explains slots).0 ∙ sym (earliest_none (spot_from go c.args.context.now.entry slots))

pub returns-then-refuses_all-clause-at_least : goal.returns-then-refuses_all-clause-at_least
returns-then-refuses_all-clause-at_least c view go explains slots =
    let d = (goal.at.returns-then-refuses_all-clause-at_least c).After-refuses_all in
    let most = (none_left d c.if-refuses_all.true c.if-from-gt0.true view go explains slots).1 in
    let none = tried_none (spot_from go c.args.context.now.entry slots) in
    omega (arith, most, none, c.refuse_rest.ensures.looks)

abbrev text_of : After-is_refused → List ℕ
text_of c = looked_text c.args.text.now

abbrev places_at : After-is_refused → ℕ → List ℕ
places_at c i = places (text_of c) c.args.anchored i c.args.context.now.stop

abbrev spots : After-is_refused → (ℕ → Continuation) → List ℕ → ℕ → Option Spot
spots c go slots = spot_from go c.args.context.now.entry slots

char_here : (c : After-is_refused) → char_at (text_of c) c.next_candidate-candidate.result.at ≡ c.next_candidate-candidate.result.after
char_here c = ap (λ t. char_at t c.next_candidate-candidate.result.at) (sym c.starts.invariant.text) ∙ sym c.next_candidate-candidate.ensures.candidate.place.after

boundary_here : (c : After-is_refused) → IsCharBoundary (text_of c) c.next_candidate-candidate.result.at
boundary_here c = rw c.starts.invariant.text at c.next_candidate-candidate.ensures.candidate.place.boundary

split : (c : After-is_refused) → places_at c c.next_candidate-candidate.result.at ≡ c.next_candidate-candidate.result.at ∷ places_from (text_of c) c.args.anchored c.start_after-next.result c.args.context.now.stop
split c = c.start_after-next.ensures.left (text_of c) c.requires.text (boundary_here c) c.requires.range.1 (char_here c)

-- a start where this character stands that is refused has no match
no_spot : (c : After-is_refused) (i : ℕ) (after : Option ℕ) → IsCharBoundary (text_of c) i → 0 < i → i ≤ c.args.context.now.stop → char_at (text_of c) i ≡ after
    → CannotBegin c.args.context.now.rules.unicode c.args.context.now.matchers.now c.args.context.now.states.now c.args.context.now.entry after
    → (view : View) (go : ℕ → Continuation) → Explains c.args.context.now (text_of c) view go → (slots : List ℕ) → spots c go slots i ≡ None
no_spot c i after b some high is cannot view go explains slots =
    ap (trace_end slots) (start_fails c.args.context.now (text_of c) view go explains c.requires.text i after b some high c.requires.context.entry is cannot) ∙ trace_end_none slots

fails : (c : After-is_refused) → c.is_refused.result ≡ true → (view : View) (go : ℕ → Continuation) → Explains c.args.context.now (text_of c) view go → (slots : List ℕ)
    → spots c go slots c.next_candidate-candidate.result.at ≡ None
fails c e view go explains slots =
    let cannot = c.is_refused.ensures e in
    no_spot c c.next_candidate-candidate.result.at c.next_candidate-candidate.result.after (boundary_here c) cannot.0 c.next_candidate-candidate.ensures.candidate.place.range.1 (char_here c) cannot.1 view go explains slots

-- the starts that are passed over count for nothing
record Passed (c : After-is_refused) (go : ℕ → Continuation) (slots : List ℕ) : Type 0 where
  pub found : earliest (spots c go slots) (places_at c c.args.from) ≡ earliest (spots c go slots) (places_at c c.next_candidate-candidate.result.at)
  pub tried : min (look_count c.args.text.now + attempted (spots c go slots) (places_at c c.args.from)) (2 ^ 64 - 1)
      ≤ min (look_count c.starts.text + (c.next_candidate-candidate.result.at - c.starts.at) + attempted (spots c go slots) (places_at c c.next_candidate-candidate.result.at)) (2 ^ 64 - 1)

passed : (c : After-is_refused) (view : View) (go : ℕ → Continuation) → Explains c.args.context.now (text_of c) view go
    → (slots : List ℕ) → Passed c go slots
passed c view go explains slots =
    let inv = c.starts.invariant.passed view go explains slots in
    let context = c.args.context.now in
    let at : ℕ = c.starts.at in
    let to : ℕ = c.next_candidate-candidate.result.at in
    let place = c.next_candidate-candidate.ensures.candidate.place in
    let says = rw c.starts.invariant.text at c.next_candidate-candidate.ensures.passed in
    let over = skip_on (spots c go slots) (text_of c) c.args.anchored at to context.stop place.range.0 place.range.1
    (λ more. (says at (omega arith) more).many)
    (λ i from less b.
    let is = says i from less in
    let none = skipped_fails context (text_of c) view go explains c.requires.text c.requires.context.entry c.requires.context.marks i b is.not_first (omega (arith, less, place.range.1)) is.refused in
    ap (trace_end slots) none ∙ trace_end_none slots)
    c.requires.range.1 in
    record { found = inv.0 ∙ over.0; tried = omega (arith, inv.1, over.1) }

pub returns-then-not-is_refused-clause-passed : goal.returns-then-not-is_refused-clause-passed
returns-then-not-is_refused-clause-passed c view go explains slots =
    let d = (goal.at.returns-then-not-is_refused-clause-passed c).After-is_refused in
    (passed d view go explains slots).found ∙ ap (earliest (spots d go slots)) (split d)

pub returns-then-not-is_refused-clause-split : goal.returns-then-not-is_refused-clause-split
returns-then-not-is_refused-clause-split c = split (goal.at.returns-then-not-is_refused-clause-split c).After-is_refused

pub returns-then-not-is_refused-clause-at_least : goal.returns-then-not-is_refused-clause-at_least
returns-then-not-is_refused-clause-at_least c view go explains slots =
    let d = (goal.at.returns-then-not-is_refused-clause-at_least c).After-is_refused in
    let before = (passed d view go explains slots).tried in
    let same = ap (attempted (spots d go slots)) (split d) in
    let one = tried_some (spots d go slots) c.next_candidate-candidate.result.at (places_from (text_of d) c.args.anchored c.start_after-next.result c.args.context.now.stop) in
    omega (arith, before, same, one, c.next_candidate-candidate.ensures.candidate.at_least)

pub returns-in_default-clause-passed : goal.returns-in_default-clause-passed
returns-in_default-clause-passed c view go explains slots =
    let d = (goal.at.returns-in_default-clause-passed c).After-is_refused in
    let last = rw c.in_default.is at (split d) in
    let both = failed_last (spots d go slots) c.next_candidate-candidate.result.at (places_at d c.next_candidate-candidate.result.at) last (fails d c.if-not-is_refused.false view go explains slots) in
    (passed d view go explains slots).found ∙ both.0 ∙ sym (earliest_none (spots d go slots))

pub returns-in_default-clause-at_least : goal.returns-in_default-clause-at_least
returns-in_default-clause-at_least c view go explains slots =
    let d = (goal.at.returns-in_default-clause-at_least c).After-is_refused in
    let last = rw c.in_default.is at (split d) in
    let both = failed_last (spots d go slots) c.next_candidate-candidate.result.at (places_at d c.next_candidate-candidate.result.at) last (fails d c.if-not-is_refused.false view go explains slots) in
    let before = (passed d view go explains slots).tried in
    let none = tried_none (spots d go slots) in
    omega (arith, before, both.1, none, c.next_candidate-candidate.ensures.candidate.at_least)

pub starts-preserved : goal.starts-preserved
starts-preserved c =
    let d = (goal.at.starts-preserved c).After-is_refused in
    let boundary : IfSome c.next_candidate-candidate.result.after (λ k. IsCharBoundary (text_of d) (c.next_candidate-candidate.result.at + len_utf8 k)) = rw c.starts.invariant.text at c.next_candidate-candidate.ensures.candidate.place.next in
    let next = rw c.in-Some.is at (c.start_after-next.ensures.next (text_of d) boundary) in
    let more = rw c.in-Some.is at (split d) in
    record {
      passed = λ view go explains slots.
          let before = passed d view go explains slots in
          let both = failed_next (spots d go slots) c.next_candidate-candidate.result.at (places_at d c.next_candidate-candidate.result.at) _ more (fails d c.if-not-is_refused.false view go explains slots) in
          let tried = before.tried in
          (before.found ∙ both.0, omega (arith, tried, both.1, c.next_candidate-candidate.ensures.candidate.at_least));
      at = (omega (arith, c.starts.invariant.at.0, c.next_candidate-candidate.ensures.candidate.place.range.0, next.0), next.1, next.2);
      at_most = omega (arith, c.starts.invariant.at_most, c.next_candidate-candidate.ensures.candidate.counted, c.next_candidate-candidate.ensures.candidate.place.range.0, next.0);
      dropped = dropped_on c.starts.invariant.dropped c.next_candidate-candidate.ensures.candidate.dropped (omega (arith, next.0));
      more = omega (arith, c.starts.invariant.more, c.next_candidate-candidate.ensures.candidate.at_least);
      text = c.next_candidate-candidate.ensures.candidate.place.text ∙ c.starts.invariant.text;
      same_counter = c.next_candidate-candidate.ensures.candidate.place.same_counter ∙ c.starts.invariant.same_counter;
    }
