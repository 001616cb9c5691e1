-- The slots that a walk along a first way writes tell those of the match.
use Rattle.std.proofs.Common.{◌≡◌, ◌∙◌, ℕ, ◌*◌, ◌^◌, ◌<◌, ◌≤◌, ◌==◌, Bool, true, false, List, [], ◌∷◌, ◌++◌, take, drop, length, replicate, Option, Some, refl, sym, ap, subst, arith, IsUtf8, IsCharBoundary}
use Rattle.std.proofs.Math.Seq.{take-append_seam}
use Rattle.std.proofs.lemmas.List.{length-set, length-replicate}
use Rattle.std.specs.Prelude.{option_map, slice_set, Result, Ok, Err, OnOk}
use Rattle.fancy_regex_meaning.specs.Groups.{Pattern}
use Rattle.fancy_regex_meaning.specs.Searches.{match_of, ways_at}
use Rattle.fancy_regex_meaning.proofs.SearchProofs.{matches_cut_well}
use Rattle.fancy_regex_class.specs.RunInputs.{group_slots, match_slots, setting_for, search_for}
use Rattle.fancy_regex_class.specs.declared.input.RunInput.{RunInput}
use Rattle.fancy_regex_states.specs.Attempts.{View, Trace, Continuation, ShowsAll}
use Rattle.fancy_regex_parts.specs.Layers.{HasWays}
use Rattle.fancy_regex_parts.specs.Does.{DoWhat}
use Rattle.fancy_regex_parts.specs.Walk.{IsTried}
use Rattle.fancy_regex_parts.specs.Writes.{apply as walk_apply}
use Rattle.fancy_regex_parts.specs.Ways.{Ways, Explains, text_view}
use Rattle.fancy_regex_parts.specs.declared.step.PartContext.{PartContext}
use Rattle.fancy_regex_parts.proofs.BetweenLemmas.{AllBy}
use Rattle.fancy_regex_linear.specs.Attempt.{apply}
use Rattle.fancy_regex_linear.specs.Calls.{has_own_span}
use Rattle.fancy_regex_linear.specs.EasyPatterns.{span_of_match}
use Rattle.fancy_regex_linear.specs.RegularStates.{started, ended}
use Rattle.fancy_regex_linear.proofs.RegularLemmas.{spot_in}
use Rattle.fancy_regex_regular.specs.Ends.{first_in}
use Rattle.fancy_regex_regular.specs.Regulars.{IsRegularOf, IsContextOf, continue_place, ends_from, rules_at}
use Rattle.fancy_regex_regular.specs.Walks.{IsToldBy, reset_start, told_slots}
use Rattle.fancy_regex_regular.specs.declared.regular.Regular.{Regular}
use Rattle.fancy_regex_regular.proofs.AskedLemmas.{trace_of, tried_from, way_from}
use Rattle.fancy_regex_regular.proofs.BuildLemmas.{groups_with_span}
use Rattle.fancy_regex_regular.proofs.FarLemmas.{IsMatchFrom}
use Rattle.fancy_regex_regular.proofs.ToldLemmas.{slots_told, slots_of_match, begins_told}

pub on_ok : {X E P Q : Type 0} (r : Result X E) → (P → Q) → OnOk r P → OnOk r Q
on_ok (Ok x) f h = f h
on_ok (Err e) f h = tt

-- a walk's writes are those of an attempt
pub same_apply : (writes : List (ℕ × ℕ)) (slots : List ℕ) → walk_apply writes slots ≡ apply writes slots
unfolding walk_apply apply
same_apply [] slots = refl
same_apply (w ∷ ws) slots = same_apply ws (slice_set slots w.0 w.1)

-- writes keep the number of the slots
pub length_written : (writes : List (ℕ × ℕ)) (slots : List ℕ) → length (walk_apply writes slots) ≡ length slots
unfolding walk_apply
length_written [] slots = refl
length_written (w ∷ ws) slots = length_written ws (slice_set slots w.0 w.1) ∙ length-set slots w.0 w.1

-- what was written through a slice of a whole vector is in the vector then
pub refilled : (n : ℕ) (ws items : List ℕ) → length ws ≡ n → take n (ws ++ drop (length ws) items) ≡ ws
refilled n ws items e = ap (λ (k : ℕ). take k (ws ++ drop (length ws) items)) (sym e) ∙ take-append_seam ws (drop (length ws) items)

-- what a context reads is of its pattern and input
module _ (context : PartContext) (regular : Regular) (input : RunInput) (least : ℕ) (is : IsContextOf regular input least context) (text : List ℕ) (view : View) where
  pub ways_in : (ways : Ways) → Explains regular.matchers.items (rules_at regular.unicode input (continue_place regular input)) (ends_from least input.range.end) regular.table.states.items text view ways
      → HasWays context text view ways
  ways_in ways explains = rw (is.table_is, is.matchers_are, is.rules_are, is.range_is) explains

  pub tried_in : (go : ℕ → Continuation) → view.longest ≡ false → DoWhat view (length text) (ends_from least input.range.end) regular.table.states.items go
      → ShowsAll regular.matchers.items (rules_at regular.unicode input (continue_place regular input)) text (text_view view) → IsTried context text view go
  tried_in go first does shows = record {
    first = first;
    does = rw (is.table_is, is.range_is) does;
    shows = rw (is.matchers_are, is.rules_are) shows;
  }

-- What the slots tell that a walk along a match's way leaves.
module _ (longest : Bool) (regular : Regular) (text : List ℕ) (input : RunInput) (start end : ℕ) (pattern : Pattern) (is : IsRegularOf regular pattern) where
  abbrev unset : List ℕ
  unset = replicate (2 * length pattern.groups) 18446744073709551615

  abbrev has_span : Bool
  has_span = has_own_span pattern

  module _ (m : IsMatchFrom (setting_for regular.unicode text input) pattern input longest start end) (writes : List (ℕ × ℕ))
      (slots_are : apply writes (started has_span start unset) ≡ started has_span m.state.match_start (group_slots m.state.pairs))
      (by : AllBy (length text) writes) (small : length text < 2 ^ 63) where
    -- all slots
    groups_told : told_slots has_span start end (walk_apply writes unset) ≡ match_slots pattern (match_of m.state)
    groups_told =
        slots_told (length text) small start has_span end writes by (2 * length pattern.groups)
        ∙ ap (ended has_span end) (same_apply writes (started has_span start unset) ∙ slots_are)
        ∙ ap (λ (e : ℕ). ended has_span e (started has_span m.state.match_start (group_slots m.state.pairs))) (sym m.ends)
        ∙ slots_of_match (pattern.first_group == 0) (group_slots m.state.pairs) m.state.match_start m.state.position

    -- where the match begins, by any number of slots
    start_told : has_span ≡ true → (count : ℕ) → 1 ≤ count → m.state.match_start ≡ reset_start start (walk_apply writes (replicate count 18446744073709551615))
    start_told own count some =
        let groups = groups_with_span pattern is.states.of_tree own in
        begins_told (length text) small start has_span own writes by (2 * length pattern.groups) count m.state.match_start (group_slots m.state.pairs)
        (omega (arith, groups)) some (same_apply writes (started has_span start unset) ∙ slots_are)

    pub told_by : IsUtf8 text → IsCharBoundary text start → (count : ℕ) (slots : List ℕ) → slots ≡ walk_apply writes (replicate count 18446744073709551615)
        → IsToldBy longest regular text input start end count slots pattern
    told_by u b count slots is_written = record {
      count_is = ap length is_written ∙ length_written writes (replicate count 18446744073709551615) ∙ length-replicate {A = ℕ} count 18446744073709551615;
      groups = λ all.
          ap (option_map (match_slots pattern)) m.matched
          ∙ ap Some (sym groups_told ∙ ap (told_slots has_span start end) (ap (λ (n : ℕ). walk_apply writes (replicate n 18446744073709551615)) (sym all) ∙ sym is_written));
      span = λ own some.
          ap (option_map span_of_match) m.matched
          ∙ ap (λ (k : ℕ). Some (k, m.state.position)) (start_told own count some ∙ ap (reset_start start) (sym is_written))
          ∙ ap (λ (k : ℕ). Some (reset_start start slots, k)) m.ends;
      boundary = λ own some.
          subst (IsCharBoundary text) (start_told own count some ∙ ap (reset_start start) (sym is_written))
          (matches_cut_well (setting_for regular.unicode text input) pattern (search_for longest input) start (match_of m.state) u b m.here).0;
    }

  -- the way of the match, and what a walk along it tells
  pub record IsAlong (answer : Option Trace) : Type 0 where
    pub trace : Trace
    pub answer_is : answer ≡ Some trace
    pub told : AllBy (length text) trace.writes → (count : ℕ) (slots : List ℕ) → slots ≡ walk_apply trace.writes (replicate count 18446744073709551615)
        → IsToldBy longest regular text input start end count slots pattern

  pub along : (m : IsMatchFrom (setting_for regular.unicode text input) pattern input longest start end) (least : ℕ)
      → first_in least input.range.end (ways_at (setting_for regular.unicode text input) pattern (search_for longest input) start) ≡ Some m.state
      → length text < 2 ^ 63 → IsUtf8 text → IsCharBoundary text start
      → IsAlong (tried_from regular.unicode regular.resets_start text input pattern is.states.of_tree is.states.all_classes is.states.base is.states.called
      is.states.own_span is.states.regular is.states.stand least start)
  along m least there small u b =
      let way = trace_of has_span (started has_span start unset) m.state
      (tried_from regular.unicode regular.resets_start text input pattern is.states.of_tree is.states.all_classes is.states.base is.states.called
      is.states.own_span is.states.regular is.states.stand least start)
      (sym (ap (option_map (spot_in has_span)) there)
      ∙ way_from regular.unicode regular.resets_start text input pattern is.states.of_tree is.states.all_classes is.states.base is.states.called
      is.states.own_span is.states.regular is.states.stand longest least start b.0) in
      record {
        trace = way.trace;
        answer_is = way.answer_is;
        told = λ by count slots is_written. told_by m way.trace.writes way.slots_are by small u b count slots is_written;
      }
