-- One search of an iteration.
use Rattle.std.specs.Prelude.{◌≡◌, ℕ, ◌<◌, ◌≤◌, List, [], ◌∷◌, true, false, max, MatchOption, MatchResult, Option, Some, None}
use Rattle.std.specs.declared.result.Result.{Result}
use Rattle.fancy_regex_meaning.specs.Groups.{Pattern}
use Rattle.fancy_regex_meaning.specs.Positions.{position_after}
use Rattle.fancy_regex_meaning.specs.Searches.{Match}
use Rattle.fancy_regex_input.specs.SearchInputs.{effective_start}
use Rattle.fancy_regex_input.specs.declared.config.SearchConfig.{SearchConfig}
use Rattle.fancy_regex_meta.specs.MatchOffsets.{IsMatchWithin}
use Rattle.fancy_regex_meta.specs.declared.found.MatchDetail.{MatchDetail}
use Rattle.fancy_regex_meta.specs.MetaMatches.{meta_pattern, meta_match_from}
use Rattle.fancy_regex_meta.specs.SearchLimits.{IsMetaSearchError}
use Rattle.fancy_regex_meta.specs.declared.meta_regex.MetaRegex.{MetaRegex}
use Rattle.fancy_regex_search.specs.RemainingMatches.{next_start, remaining_matches, remaining_searches}
use Rattle.fancy_regex_search.specs.IterationSearches.{SkipsToFrom, KeepsSearches, KeepsSkips, PassesItem}
use Rattle.fancy_regex_search.specs.IterationLimits.{SkipsStayInLimits, SkipsStayUntil}
use Rattle.fancy_regex_search.specs.CaptureSpans.{IsFoundOf}
use Rattle.fancy_regex_search.specs.declared.match_iter.IterState.{IterState}
use Rattle.fancy_regex_search.specs.declared.match_iter.Step.{Step}
use Rattle.fancy_regex_search.specs.declared.match_iter.Step.TheVariants.{Item, Skip, End, Failed}

-- The result of the step, by the matches that remained before and remain after it.
abbrev pub StepGives : MatchDetail → Pattern → List Match → Step → List Match → Type 0
StepGives wanted pattern before (Item x) after = (m : Match) × (before ≡ m ∷ after) × IsFoundOf wanted pattern x m
StepGives wanted pattern before Skip after = before ≡ after
StepGives wanted pattern before End after = (before ≡ []) × (after ≡ [])
StepGives wanted pattern before (Failed e) after = after ≡ []

-- The start of the next search after a step.
abbrev pub StepMoves : MatchDetail → List ℕ → SearchConfig → Step → SearchConfig → Type 0
StepMoves wanted text old (Item x) new = IsMatchWithin wanted text (effective_start old) old.range_end x × (new.start ≡ next_start text x.start x.end)
StepMoves wanted text old Skip new = Unit {0}
StepMoves wanted text old End new = new ≡ old
StepMoves wanted text old (Failed e) new = new.start ≡ position_after text old.range_end

-- Fewer searches remain after a step, unless it ended the iteration.
abbrev pub StepDecreases : ℕ → Step → ℕ → Type 0
StepDecreases before End after = Unit {0}
StepDecreases before (Item x) after = after < before
StepDecreases before Skip after = after < before
StepDecreases before (Failed e) after = after < before

-- A step without a match and one that failed end the iteration. One that returns an item does not.
abbrev pub StepEnds : Step → IterState → Type 0
StepEnds (Item x) state = state.is_done ≡ false
StepEnds Skip state = Unit {0}
StepEnds End state = state.is_done ≡ true
StepEnds (Failed e) state = state.is_done ≡ true

-- For a compiled pattern, a text, and the configuration and the state before a step.
module _ (s : MetaRegex) (text : List ℕ) (old : SearchConfig) (before : IterState) where
  -- The error of a failed step is one of its search, which starts in the range.
  abbrev pub StepFails : Step → Type 0
  StepFails (Item x) = Unit {0}
  StepFails Skip = Unit {0}
  StepFails End = Unit {0}
  StepFails (Failed e) = (max old.start old.range_start ≤ old.range_end) × IsMetaSearchError s text old before.continue_disabled e

  -- Every search of the iteration after the step is one of the iteration before it.
  abbrev pub StepPasses : Step → SearchConfig → IterState → Type 0
  StepPasses (Item x) new after = KeepsSearches s text old before.continue_disabled new after.continue_disabled
  StepPasses Skip new after = KeepsSearches s text old before.continue_disabled new after.continue_disabled
  StepPasses End new after = Unit {0}
  StepPasses (Failed e) new after = Unit {0}

  -- What a step leaves: the end of an item as the last end; after a skip an iteration that goes on, with the same last end; and an iteration that was
  -- over, or whose search found nothing.
  abbrev pub StepLeaves : Step → SearchConfig → IterState → Type 0
  StepLeaves (Item x) new after = after.last ≡ Some x.end
  StepLeaves Skip new after = (before.is_done ≡ false) × (after.is_done ≡ false) × KeepsSkips s text old before new after × (after.last ≡ before.last)
  StepLeaves End new after = (after.continue_disabled ≡ before.continue_disabled)
      × (before.is_done ≡ false → meta_match_from s text old (max old.start old.range_start) before.continue_disabled ≡ None)
  StepLeaves (Failed e) new after = Unit {0}

  -- The match of an item is the first that remained before the step.
  abbrev pub StepReturns : Step → SearchConfig → IterState → Type 0
  StepReturns (Item x) new after = (m : Match) × (remaining_matches s text old before ≡ m ∷ remaining_matches s text new after) × PassesItem s text old before m new after
  StepReturns Skip new after = Unit {0}
  StepReturns End new after = Unit {0}
  StepReturns (Failed e) new after = Unit {0}

  -- A step that finds something, or nothing, makes a search that stays within the limits; so does each one that comes after it
  -- by skipping alone and starts before some place, where those of the state after a skip do.
  abbrev pub StepStays : Step → SearchConfig → IterState → Type 0
  StepStays (Item x) new after = SkipsStayInLimits s text old before
  StepStays Skip new after = (q : ℕ) → SkipsStayUntil s text new after q → SkipsStayUntil s text old before q
  StepStays End new after = before.is_done ≡ false → SkipsStayInLimits s text old before
  StepStays (Failed e) new after = Unit {0}

  -- One search of an iteration: its result, and the configuration and the state after it.
  pub record IsStep (wanted : MatchDetail) (result : Step) (new : SearchConfig) (after : IterState) : Type 0 where
    pub gives : StepGives wanted (meta_pattern s) (remaining_matches s text old before) result (remaining_matches s text new after)
    pub moves : StepMoves wanted text old result new
    pub nears : StepDecreases (remaining_searches text old before) result (remaining_searches text new after)
    pub grows : old.start ≤ new.start
    pub config : new ≡ record old { start = new.start }
    pub fails : StepFails result
    pub stays : StepStays result new after
    pub passes : StepPasses result new after
    pub leaves : StepLeaves result new after
    pub returns : StepReturns result new after
    pub ends : StepEnds result after

  -- An iteration is left by `None` as it was, if it was over; otherwise it is left with the input of the search that found
  -- nothing: the next search, or one after an empty match that was skipped.
  pub record IsLeftByNone (new : SearchConfig) (after : IterState) : Type 0 where
    pub over : before.is_done ≡ true → new ≡ old
    pub skips : before.is_done ≡ false → SkipsToFrom s text old before new.start after.continue_disabled
    pub found : before.is_done ≡ false → meta_match_from s text old (max new.start old.range_start) after.continue_disabled ≡ None

-- The start of the next search after a call of `next`: after the match that it returned, or, on an error, after the range.
abbrev pub NextMoves : {A E : Type 0} → (A → ℕ × ℕ) → List ℕ → SearchConfig → Option (Result A E) → SearchConfig → Type 0
NextMoves span text old result new =
    MatchOption result (Unit {0})
    (λ item. MatchResult item (λ x. new.start ≡ next_start text (span x).0 (span x).1) (λ _. new.start ≡ position_after text old.range_end))

-- The match of an item is the first that remained before the call of `next`, and what the state after it comes to after some
-- items, the state before it comes to after this match and them.
abbrev pub NextReturns : {A E : Type 0} → MetaRegex → List ℕ → SearchConfig → IterState → Option (Result A E) → SearchConfig → IterState → Type 0
NextReturns s text old before result new after =
    MatchOption result (Unit {0})
    (λ item. MatchResult item (λ _. (m : Match) × (remaining_matches s text old before ≡ m ∷ remaining_matches s text new after) × PassesItem s text old before m new after) (λ _. Unit {0}))

-- A call of `next` that returns `None` or an error ends the iteration. One that returns a match does not.
abbrev pub NextEnds : {A E : Type 0} → Option (Result A E) → IterState → Type 0
NextEnds result state = MatchOption result (state.is_done ≡ true) (λ item. MatchResult item (λ _. state.is_done ≡ false) (λ _. state.is_done ≡ true))

-- After an item its end is the end of the previous match.
abbrev pub NextKeeps : {A E : Type 0} → (A → ℕ) → Option (Result A E) → IterState → Type 0
NextKeeps end result state = MatchOption result (Unit {0}) (λ item. MatchResult item (λ x. state.last ≡ Some (end x)) (λ _. Unit {0}))
