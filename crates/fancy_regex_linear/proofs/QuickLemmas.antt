-- Where states lead in a quick search, and what it finds.
use Rattle.std.proofs.Common.{◌≡◌, ℕ, ◌+◌, ◌-◌, ◌^◌, ◌<◌, ◌≤◌, min, Bool, true, false, ◌&&◌, List, [], ◌∷◌, length, reverse, take, set, get_or, Option, Some, None, if◌then◌else◌, refl, ap, subst, ◌∙◌, arith, nat_le, lt-ltb, le-leb, leb-true, true≢false, IsUtf8}
use Rattle.std.proofs.lemmas.Bool.{and_from, and_left, and_right, and_parts, lt-leb}
use Rattle.std.proofs.lemmas.List.{get_or_default, reverse-append, take_more, take_more_set}
use Rattle.std.proofs.lemmas.Str.{len_utf8_bounds}
use Rattle.std.specs.Char.{len_utf8}
use Rattle.std.specs.Prelude.{option_map}
use Rattle.fancy_regex_class.specs.declared.input.RunInput.{RunInput}
use Rattle.regex_hir.specs.Text.{char_at, char_before}
use Rattle.fancy_regex_class.specs.Looks.{looked_text, look_count, SameCounter}
use Rattle.fancy_regex_class.specs.declared.counted.Counted.{Counted}
use Rattle.fancy_regex_class.specs.declared.class.CharClassMatcher.{CharClassMatcher}
use Rattle.fancy_regex_states.specs.Attempts.{View, Trace, Continuation, MayAsk, Shows, accept, either, guard, reads, save}
use Rattle.fancy_regex_states.specs.Attempts.{visit as state_visit}
use Rattle.fancy_regex_states.specs.CharTests.{leaf_matches_char}
use Rattle.fancy_regex_states.specs.declared.atom.Leaf.{Leaf}
use Rattle.fancy_regex_states.specs.declared.atom.Leaf.TheVariants.{Any}
use Rattle.fancy_regex_states.specs.declared.state.State.TheVariants.{Match, Read}
use Rattle.fancy_regex_states.specs.declared.rules.Rules.{Rules}
use Rattle.fancy_regex_table.specs.Ends.{end_of, or_else, end_at}
use Rattle.fancy_regex_table.proofs.EndLemmas.{end_better, end_write, end_guard}
use Rattle.fancy_regex_linear.specs.Alone.{unset_slots}
use Rattle.fancy_regex_linear.specs.Attempt.{trace_end, apply}
use Rattle.fancy_regex_linear.specs.CharTests.{read_next}
use Rattle.fancy_regex_linear.specs.EasyPatterns.{IsMatchSpan}
use Rattle.fancy_regex_linear.specs.EasyTables.{IsContextOf}
use Rattle.fancy_regex_linear.specs.Find.{FoundMatch, earliest}
use Rattle.fancy_regex_linear.specs.Layers.{IsOnlyLookedAt}
use Rattle.fancy_regex_linear.specs.Quick.{IsQuickEnd, IsLead, IsLeadWithin, lead_of_step}
use Rattle.fancy_regex_linear.specs.QuickSpans.{IsQuickSpan}
use Rattle.fancy_regex_linear.specs.Search.{Explains, IsPair, IsStepWithin}
use Rattle.fancy_regex_linear.specs.Settled.{IsAnswer}
use Rattle.fancy_regex_linear.specs.Starts.{spot_from}
use Rattle.fancy_regex_linear.specs.declared.easy.Easy.{Easy}
use Rattle.fancy_regex_linear.specs.declared.frame.SearchStep.{SearchStep}
use Rattle.fancy_regex_linear.specs.declared.frame.SearchStep.TheVariants.{Pair, Backtrack, Matched}
use Rattle.fancy_regex_linear.specs.declared.open_pairs.OpenPair.{OpenPair}
use Rattle.fancy_regex_linear.specs.declared.quick.Lead.{Lead}
use Rattle.fancy_regex_linear.specs.declared.quick.Quick.{Quick}
use Rattle.fancy_regex_linear.specs.declared.quick.Quick.TheVariants as quick
use Rattle.fancy_regex_linear.specs.declared.search.SearchContext.{SearchContext}
use Rattle.fancy_regex_linear.proofs.SpanLemmas.{answered}
use Rattle.fancy_regex_linear.proofs.StepLemmas.{next_if, and_none, past_stop}

-- the pairs after one more
pub pushed_pair : (pairs : List OpenPair) (n : ℕ) (pair : OpenPair) → n < length pairs → reverse (take (n + 1) (set pairs n pair)) ≡ pair ∷ reverse (take n pairs)
pushed_pair pairs n pair room = ap reverse (take_more_set pairs n pair room) ∙ reverse-append (take n pairs) (pair ∷ [])

-- the last pair, and those before it
pub popped_pair : (pairs : List OpenPair) (n : ℕ) (default : OpenPair) → 0 < n → n ≤ length pairs
    → reverse (take n pairs) ≡ get_or pairs (n - 1) default ∷ reverse (take (n - 1) pairs)
popped_pair pairs n default some room =
    let before : n ≡ n - 1 + 1 = omega arith in
    ap (λ k. reverse {A = OpenPair} (take k pairs)) before ∙ ap reverse (take_more pairs (n - 1) default (omega arith))
    ∙ reverse-append (take (n - 1) pairs) (get_or pairs (n - 1) default ∷ [])

-- the text was looked at once more
pub looked_on : (first old new : Counted) → IsOnlyLookedAt first old → look_count new ≡ min (look_count old + 1) (2 ^ 64 - 1)
    → looked_text new ≡ looked_text old → SameCounter old new → IsOnlyLookedAt first new
looked_on first old new looks counted same counter = record {
  more = omega (arith, looks.more, counted);
  text = same ∙ looks.text;
  same_counter = counter ∙ looks.same_counter;
}

-- where the state leads that is there
pub led_here : (context : SearchContext) (looked : List ℕ) (view : View) (go : ℕ → Continuation) → Explains context looked view go → (q i : ℕ)
    → IsPair looked (length context.states.now) context.stop 0 q i → context.rules.longest ≡ false → (lead : Lead)
    → ((view : View) (go : ℕ → Continuation) (id : ℕ) → view.longest ≡ false
    → Shows context.matchers.now context.rules view i (char_before looked i) (char_at looked i)
    → MayAsk view.has_parts (get_or context.states.now q (Read (Any false false) 0))
    → go id i ≡ state_visit view context.stop go (get_or context.states.now q (Read (Any false false) 0)) i → IsLead go id i lead)
    → IsLead go q i lead
led_here context looked view go explains q i pair first lead leads =
    let here = get_or_default context.states.now q (Read (Any false false) 0) Match pair.state in
    leads view go q (explains.longest ∙ first) (explains.shows i pair.boundary) (rw here (explains.agree q pair.state).asks)
    (rw here ((explains.agree q pair.state).does i pair.high))

pub leads_within : (text : List ℕ) (count stop : ℕ) (step : SearchStep) → IsStepWithin text count stop 0 step → IsLeadWithin text count stop (lead_of_step step)
leads_within text count stop (Pair p j) h = h
leads_within text count stop Backtrack h = tt
leads_within text count stop Matched h = tt

module _ (go : ℕ → Continuation) (q i : ℕ) where
  pub passed_on : (b : Bool) (next j : ℕ) → go q i ≡ guard b (go next j) → b ≡ true → end_at go i q ≡ end_at go j next
  passed_on b next j e holds =
      ap (λ r. end_of r.answer) e ∙ end_guard b (go next j) ∙ ap (λ (b : Bool). if b then end_at go j next else None) holds

  pub not_passed : (b : Bool) (next j : ℕ) → go q i ≡ guard b (go next j) → b ≡ false → end_at go i q ≡ None
  not_passed b next j e fails =
      ap (λ r. end_of r.answer) e ∙ end_guard b (go next j) ∙ ap (λ (b : Bool). if b then end_at go j next else None) fails

  pub branched : (longest : Bool) (first second : ℕ) → longest ≡ false → go q i ≡ either longest (go first i) (go second i)
      → end_at go i q ≡ or_else (end_at go i first) (end_at go i second)
  branched longest first second is e =
      ap (λ r. end_of r.answer) e ∙ ap (λ (b : Bool). end_of (either b (go first i) (go second i)).answer) is
      ∙ end_better (go first i).answer (go second i).answer

  pub saved_on : (slot next : ℕ) → go q i ≡ save slot i (go next i) → end_at go i q ≡ end_at go i next
  saved_on slot next e = ap (λ r. end_of r.answer) e ∙ end_write slot i (go next i).answer

  pub accepted : go q i ≡ accept i → end_at go i q ≡ Some i
  accepted e = ap (λ r. end_of r.answer) e

-- where a state leads that reads
pub read_led : (view : View) (matchers : List CharClassMatcher) (rules : Rules) (stop : ℕ) (leaf : Leaf) (next at id : ℕ) (before after : Option ℕ)
    (go : ℕ → Continuation) → at ≤ stop → Shows matchers rules view at before after
    → go id at ≡ guard (reads view stop leaf at) (go next (view.next at))
    → IsLead go id at (lead_of_step (read_next rules.unicode matchers stop leaf next at after))
unfolding reads
read_led view matchers rules stop leaf next at id before None go p shows e =
    not_passed go id at _ next (view.next at) e (and_left _ _ (shows.has leaf))
read_led view matchers rules stop leaf next at id before (Some c) go p shows e =
    let width : ℕ = len_utf8 c in
    let some : 1 ≤ width = (len_utf8_bounds c).0 in
    let next_is : view.next at ≡ at + width = shows.next in
    let lower : at < view.next at = omega arith in
    next_if (λ n. IsLead go id at (lead_of_step n)) (leaf_matches_char rules.unicode matchers leaf c && nat_le width (stop - at)) (Pair next (at + width))
    (λ yes.
    let both = and_parts _ _ yes in
    let fits : width ≤ stop - at = leb-true width (stop - at) both.1 in
    let inside : view.next at ≤ stop = omega arith in
    passed_on go id at _ next (view.next at) e
    (and_from _ _ (shows.has leaf ∙ both.0) (and_from _ _ (lt-ltb at (view.next at) lower) (le-leb (view.next at) stop inside)))
    ∙ ap (λ j. end_at go j next) next_is)
    (λ no.
    not_passed go id at _ next (view.next at) e
    (and_none (view.has leaf at) _ (nat_le width (stop - at)) (ap (λ b. b && nat_le width (stop - at)) (shows.has leaf) ∙ no)
    (λ yes far. and_right _ _ (let past : stop < view.next at = past_stop width at stop (view.next at) p next_is far in lt-leb (view.next at) stop past))))

-- the span of what was found from one place
there : (free slots : List ℕ) (i : ℕ) (a : Option Trace)
    → IsAnswer true (option_map (λ end. (i, end)) (end_of a)) slots (elim (trace_end free a) as (λ _. Option FoundMatch) [ None ↦ None | Some w ↦ Some (record { start = i; way = w }) ])
unfolding trace_end
there free slots i None = record { found_slots = []; is = refl; same_slots = λ h. absurd (true≢false h) }
there free slots i (Some t) = record { found_slots = apply t.writes free; is = refl; same_slots = λ h. absurd (true≢false h) }

pub span_there : (free slots : List ℕ) (go : ℕ → Continuation) (q i : ℕ) (found : Option ℕ) → end_at go i q ≡ found
    → IsAnswer true (option_map (λ end. (i, end)) found) slots (earliest (spot_from go q free) (i ∷ []))
unfolding earliest
span_there free slots go q i found e =
    subst (λ (o : Option ℕ). IsAnswer true (option_map (λ end. (i, end)) o) slots (earliest (spot_from go q free) (i ∷ []))) e (there free slots i (go q i).answer)

-- what is found from the entry at the first place is the match of an anchored search
pub anchored_span : (easy : Easy) (text : List ℕ) (input : RunInput) (context : SearchContext) → IsContextOf easy input context
    → (looked : List ℕ) → looked ≡ text → IsUtf8 text → input.first ≤ input.range.end → input.range.end ≤ length text → input.anchored ≡ true
    → (found : Option ℕ)
    → ((view : View) (go : ℕ → Continuation) → Explains context looked view go → end_at go input.first easy.entry ≡ found)
    → IsMatchSpan easy text input (option_map (λ end. (input.first, end)) found)
anchored_span easy text input context of looked same utf8 below inside anchored found ends pattern is =
    (answered easy text input context of looked same pattern is utf8 below inside true (option_map (λ end. (input.first, end)) found) [] 0 (2 ^ 64 - 1)
    (λ view go explains.
    rw (anchored, of.entry) (span_there (unset_slots easy.groups) [] go easy.entry input.first found (ends view go explains)))
    (λ view go explains. omega arith)).span_is

pub quick_span : (easy : Easy) (text : List ℕ) (input : RunInput) (context : SearchContext) → IsContextOf easy input context
    → (looked : List ℕ) → looked ≡ text → IsUtf8 text → input.first ≤ input.range.end → input.range.end ≤ length text → input.anchored ≡ true
    → (found : Quick)
    → ((view : View) (go : ℕ → Continuation) → Explains context looked view go → IsQuickEnd go easy.entry input.first found)
    → IsQuickSpan easy text input found
quick_span easy text input context of looked same utf8 below inside anchored (quick.Ends end) ends =
    anchored_span easy text input context of looked same utf8 below inside anchored (Some end) ends
quick_span easy text input context of looked same utf8 below inside anchored quick.Fails ends =
    anchored_span easy text input context of looked same utf8 below inside anchored None ends
quick_span easy text input context of looked same utf8 below inside anchored quick.GivenUp ends = tt
