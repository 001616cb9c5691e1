-- What the calls of `next` over an iteration have in common: which searches they go on with, and what they tell of the limits.
use Rattle.std.specs.Prelude.{◌≡◌, ℕ, ◌≤◌, Bool, false, List, Option, IfSome, IfNone, IfOk, IfErr}
use Rattle.std.specs.declared.result.Result.{Result}
use Rattle.fancy_regex_input.specs.declared.config.SearchConfig.{SearchConfig}
use Rattle.fancy_regex_meta.specs.declared.error.Error.{Error}
use Rattle.fancy_regex_meta.specs.declared.meta_regex.MetaRegex.{MetaRegex}
use Rattle.fancy_regex_search.specs.IterationErrors.{IsItemError}
use Rattle.fancy_regex_search.specs.IterationLimits.{NextStays, PieceStays}
use Rattle.fancy_regex_search.specs.IterationSearches.{KeepsSearches}
use Rattle.fancy_regex_search.specs.IterationSteps.{IsLeftByNone, NextReturns, NextEnds, NextKeeps}
use Rattle.fancy_regex_search.specs.declared.match_iter.IterState.{IterState}

-- The next search starts where this one did, or later, and is else configured as it.
pub record StartsLater (old new : SearchConfig) : Type 0 where
  pub config : new ≡ record old { start = new.start }
  pub grows : old.start ≤ new.start

-- For a compiled pattern, a text, and the configuration and the state before a call.
module _ (s : MetaRegex) (text : List ℕ) (old : SearchConfig) (before : IterState) where
  -- What a call of `next` tells of its own searches and of those that are left: its error is one of a search that it makes; where it
  -- returns a match, or finds none, each of them stays within the limits; and the searches that are left are some of those before.
  pub record NextKeepsLimits {A : Type 0} (result : Option (Result A Error)) (new : SearchConfig) (after : IterState) : Type 0 where
    pub fails : IfSome result (λ item. IfErr item (λ e. IsItemError s text old before e))
    pub stays : NextStays s text old before result
    pub passes : IfSome result (λ item. IfOk item (λ _. KeepsSearches s text old before.continue_disabled new after.continue_disabled))
    pub returns : NextReturns s text old before result new after

  -- The state that a call of `next` leaves: over after an error and after `None`, and with the end of a match as the last end.
  pub record NextLeaves {A : Type 0} (end : A → ℕ) (result : Option (Result A Error)) (new : SearchConfig)
      (after : IterState) : Type 0 where
    pub ends : NextEnds result after
    pub keeps : NextKeeps end result after
    pub left : IfNone result (IsLeftByNone s text old before new after)

  -- What a call for the next piece tells of its searches and of those that are left, where the split is not done after it.
  pub record PieceKeepsLimits {A : Type 0} (result : Option (Result A Error)) (is_done : Bool) (new : SearchConfig)
      (after : IterState) : Type 0 where
    pub fails : IfSome result (λ item. IfErr item (λ e. IsItemError s text old before e))
    pub stays : PieceStays s text old before result
    pub passes : is_done ≡ false →
        IfSome result (λ item. IfOk item (λ _. KeepsSearches s text old before.continue_disabled new after.continue_disabled))
    pub returns : is_done ≡ false → NextReturns s text old before result new after
