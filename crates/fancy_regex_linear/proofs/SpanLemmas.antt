-- What a search for the first match says of the match of a pattern.
use Rattle.std.proofs.Common.{[], ◌≡◌, ℕ, ◌+◌, ◌-◌, ◌*◌, ◌^◌, ◌≤◌, ◌∙◌, Bool, false, List, min, length, replicate, Option, None, Some, IfSome, sym, ap, ap₂, arith, IsUtf8}
use Rattle.std.specs.Prelude.{option_map}
use Rattle.fancy_regex_meaning.specs.Groups.{Pattern}
use Rattle.fancy_regex_meaning.specs.Sizes.{tree_weight}
use Rattle.fancy_regex_meaning.specs.Searches.{match_at, starts}
use Rattle.fancy_regex_class.specs.RunInputs.{match_slots, setting_for, search_for}
use Rattle.fancy_regex_class.specs.declared.input.RunInput.{RunInput}
use Rattle.fancy_regex_states.specs.Attempts.{View, Continuation}
use Rattle.fancy_regex_linear.specs.Meaning.{Spot}
use Rattle.fancy_regex_linear.specs.Alone.{unset_slots}
use Rattle.fancy_regex_linear.specs.Plain.{no_calls, classes, re_of}
use Rattle.fancy_regex_linear.specs.SettingView.{view_of}
use Rattle.fancy_regex_linear.specs.Find.{earliest, attempted, places, found_of_span, span_of_found}
use Rattle.fancy_regex_linear.specs.Easy.{found_slots}
use Rattle.fancy_regex_linear.specs.EasyPatterns.{IsEasyOf, match_for, span_of_match}
use Rattle.fancy_regex_linear.specs.EasyTables.{IsContextOf, IsTableFor}
use Rattle.fancy_regex_linear.specs.Layers.{IsSearchContext}
use Rattle.fancy_regex_linear.specs.Search.{Explains}
use Rattle.fancy_regex_linear.specs.Settled.{IsAnswer, IsTableSearch}
use Rattle.fancy_regex_linear.specs.Starts.{spot_from}
use Rattle.fancy_regex_linear.specs.declared.by_table.TableSearch.{TableSearch}
use Rattle.fancy_regex_linear.specs.declared.easy.Easy.{Easy}
use Rattle.fancy_regex_linear.specs.declared.search.SearchContext.{SearchContext}
use Rattle.fancy_regex_linear.proofs.PlainLemmas.{sound, plain_may}
use Rattle.fancy_regex_linear.proofs.CharTestLemmas.{shows_all}
use Rattle.fancy_regex_linear.proofs.AnswerLemmas.{program_does, closed, entry_in, slots_are_match, span_is_match, span_back, tried_is_same, states_weigh, steps_bound}

-- the answer of a search is that of the definitions, and so are the places that it tried at least
pub record IsAnswered (easy : Easy) (text : List ℕ) (input : RunInput) (span_only : Bool) (span : Option (ℕ × ℕ)) (slots : List ℕ) (old new : ℕ) (pattern : Pattern) : Type 0 where
  pub span_is : span ≡ option_map span_of_match (match_for easy text input pattern)
  pub slots_are : span_only ≡ false → option_map (found_slots easy.whole) (found_of_span span slots) ≡ option_map (match_slots pattern) (match_for easy text input pattern)
  pub at_least : min (old + attempted (match_at (setting_for easy.unicode text input) pattern (search_for easy.longest input))
      (starts (setting_for easy.unicode text input) pattern (search_for easy.longest input))) (2 ^ 64 - 1) ≤ new

module _ (easy : Easy) (text : List ℕ) (input : RunInput) (context : SearchContext) (of : IsContextOf easy input context) (looked : List ℕ) (same : looked ≡ text) where
  pub search_context : IsSearchContext context
  search_context = record {
    entry = rw (of.states, of.entry) (entry_in easy.states.items easy.entry easy.made);
    closed = rw of.states (closed easy.states.items easy.entry easy.made);
    table = rw (of.first, of.states, of.matchers, of.rules, of.entry) easy.table;
    marks = rw (of.refused, of.states, of.matchers, of.rules, of.entry) easy.marks;
  }

  -- the table of the pattern serves the search
  pub serves_search : (it : TableSearch) → IsTableFor easy text input it → IsTableSearch context looked it
  serves_search it h = record {
    table = rw (of.states, of.matchers, of.entry, of.rules) h.table;
    text_is = h.text_is ∙ sym same;
    passing = ap (λ p. p.first) h.passing ∙ sym of.refused;
    seconds = rw (h.passing, of.states, of.matchers, of.entry, of.rules) easy.seconds;
    wide = rw (h.passing, of.states, of.matchers, of.entry, of.rules) easy.wides;
    before = rw (h.before, of.states, of.matchers, of.entry, of.rules, of.refused) easy.befores;
    first = ap (λ r. r.longest) of.rules ∙ h.first;
    start_shown = ap (λ r. r.no_start_text) of.rules ∙ h.start_shown;
    end_shown = ap (λ r. r.no_end_text) of.rules ∙ h.end_shown;
    whole = of.stop ∙ h.whole ∙ ap length (sym same);
  }

  pub serves_if : (o : Option TableSearch) → IfSome o (IsTableFor easy text input) → IfSome o (IsTableSearch context looked)
  serves_if None h = tt
  serves_if (Some it) h = serves_search it h

  module _ (pattern : Pattern) (is : IsEasyOf easy pattern) where
    -- the bound of the looks
    pub looks_bound : (old new : ℕ) → new ≤ old + (context.stop - input.first + 1) * length context.states.now + (context.stop - input.first + 1)
        → new ≤ old + tree_weight pattern.groups pattern.tree * (input.range.end - input.first + 1)
    looks_bound old new most =
        let weigh = states_weigh easy.unicode easy.states.items easy.entry pattern is.serves.plain is.serves.program in
        let m : ℕ = input.range.end - input.first + 1 in
        let first : new ≤ old + m * length easy.states.items + m = rw (of.stop, of.states) at most in
        steps_bound new old m (length easy.states.items) (tree_weight pattern.groups pattern.tree) first weigh

    pub answered : IsUtf8 text → input.first ≤ input.range.end → input.range.end ≤ length text → (span_only : Bool) (span : Option (ℕ × ℕ)) (slots : List ℕ) (old new : ℕ)
        → ((view : View) (go : ℕ → Continuation) → Explains context looked view go → IsAnswer span_only span slots
        (earliest (spot_from go context.entry (unset_slots easy.groups)) (places looked input.anchored input.first context.stop)))
        → ((view : View) (go : ℕ → Continuation) → Explains context looked view go
        → min (old + attempted (spot_from go context.entry (unset_slots easy.groups)) (places looked input.anchored input.first context.stop)) (2 ^ 64 - 1) ≤ new)
        → IsAnswered easy text input span_only span slots old new pattern
    answered utf8 below inside span_only span slots old new answers leasts =
        let re = re_of easy.unicode [] no_calls pattern.first_group 0 pattern.tree in
        let view = view_of (setting_for easy.unicode text input) (classes pattern.tree) easy.longest in
        let d = program_does view input.range.end easy.states.items easy.entry re
        (is.serves.program, sound easy.unicode [] no_calls pattern.first_group 0 pattern.tree is.serves.plain)
        (plain_may easy.unicode [] no_calls pattern.first_group 0 pattern.tree is.serves.plain) in
        let shows = shows_all easy.unicode easy.longest text input easy.matchers.items (classes pattern.tree) is.serves.matchers_are utf8 in
        let explains : Explains context looked view d.go = record {
          longest = ap (λ r. r.longest) (sym of.rules);
          shows = rw (of.matchers, of.rules, same) shows;
          agree = rw (of.states, of.stop) d.agree;
        } in
        let answer = answers view d.go explains in
        let least = leasts view d.go explains in
        let free : List ℕ = replicate (2 * length pattern.groups) 18446744073709551615 in
        let at : List ℕ → ℕ → Option Spot = λ xs i. spot_from d.go easy.entry xs i in
        let unset : unset_slots easy.groups ≡ free = ap (λ (n : ℕ). replicate {A = ℕ} (2 * n) 18446744073709551615) is.groups in
        let tries : attempted (spot_from d.go context.entry (unset_slots easy.groups)) (places looked input.anchored input.first context.stop)
        ≡ attempted (match_at (setting_for easy.unicode text input) pattern (search_for easy.longest input)) (starts (setting_for easy.unicode text input) pattern (search_for easy.longest input)) =
        ap₂ (λ (e stop : ℕ). attempted (spot_from d.go e (unset_slots easy.groups)) (places looked input.anchored input.first stop)) of.entry of.stop
        ∙ ap₂ (λ (xs t : List ℕ). attempted (at xs) (places t input.anchored input.first input.range.end)) unset same
        ∙ sym (tried_is_same easy.unicode easy.longest text input easy.states.items easy.entry pattern is.serves.plain inside d below) in
        let found : found_of_span span answer.found_slots ≡ earliest (at free) (places text input.anchored input.first input.range.end) =
        answer.is
        ∙ ap₂ (λ (e stop : ℕ). earliest (spot_from d.go e (unset_slots easy.groups)) (places looked input.anchored input.first stop)) of.entry of.stop
        ∙ ap₂ (λ (xs t : List ℕ). earliest (at xs) (places t input.anchored input.first input.range.end)) unset same in
        record {
          span_is = sym (span_back span answer.found_slots) ∙ ap (option_map span_of_found) found
              ∙ sym (span_is_match easy.unicode easy.longest text input easy.states.items easy.entry pattern is.serves.plain inside d below);
          slots_are = λ kept.
              ap (λ xs. option_map (found_slots easy.whole) (found_of_span span xs)) (sym (answer.same_slots kept))
              ∙ ap (option_map (found_slots easy.whole)) found
              ∙ ap (λ b. option_map (found_slots b) (earliest (at free) (places text input.anchored input.first input.range.end))) is.whole
              ∙ sym (slots_are_match easy.unicode easy.longest text input easy.states.items easy.entry pattern is.serves.plain inside d below);
          at_least = omega (arith, least, tries);
        }
