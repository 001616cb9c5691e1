-- An iteration over all matches of a text goes on as a replacement by calls that always answer.
use Rattle.std.proofs.Common.{◌≡◌, ℕ, false, List, [], ◌∷◌, None, Ok, Err, refl}
use Rattle.std.specs.declared.result.Result.{Result}
use Rattle.fancy_regex_meaning.specs.Searches.{Match}
use Rattle.fancy_regex_input.specs.SearchInputs.{whole}
use Rattle.fancy_regex_input.specs.declared.config.SearchConfig.{SearchConfig}
use Rattle.fancy_regex_meta.specs.declared.error.Error.{Error}
use Rattle.fancy_regex_meta.specs.declared.meta_regex.MetaRegex.{MetaRegex}
use Rattle.fancy_regex_search.specs.IterationErrors.{IsErrorOfIteration, IsItemError}
use Rattle.fancy_regex_search.specs.IterationLimits.{IterationStays, SkipsStayInLimits}
use Rattle.fancy_regex_search.specs.IterationSearches.{PassesItem}
use Rattle.fancy_regex_search.specs.RemainingMatches.{all_matches}
use Rattle.fancy_regex_search.specs.Replacements.{CapturesView}
use Rattle.fancy_regex_search.specs.declared.match_iter.IterState.{IterState}
use Rattle.fancy_regex_search.proofs.ReplaceLemmas.{Progress, progress_init, progress_gap, progress_stays, progress_error}

-- calls that always answer
abbrev pub Answered : Unit {0} → CapturesView → Result (List ℕ) Error → Unit {0} → Type 0
Answered s m (Ok w) t = Unit {0}
Answered s m (Err e) t = ⊥

module _ (r : MetaRegex) (text : List ℕ) where
  -- what the iteration comes to from here, and nothing else, it comes to after the matches before
  abbrev pub Iterated : SearchConfig → IterState → List Match → Type 0
  Iterated config state left = Progress Answered r text (all_matches r text (whole text)) tt config state left tt

  -- before the first search
  pub iterated_first : (config : SearchConfig) (state : IterState) (left : List Match) → config ≡ whole text → state.last ≡ None → state.continue_disabled ≡ false →
      left ≡ all_matches r text (whole text) → Iterated config state left
  iterated_first config state left is last flag same = progress_init Answered r text 0 tt config state None left (all_matches r text (whole text)) is last flag refl same

  module _ (config : SearchConfig) (state : IterState) (left : List Match) (is : config ≡ record (whole text) { start = config.start }) (so : Iterated config state left) where
    -- past a match
    pub iterated_next : (new : SearchConfig) (after : IterState) (others : List Match) (m : Match) → left ≡ m ∷ others → (n : Match) × (left ≡ n ∷ others) × PassesItem r text config state n new after →
        SkipsStayInLimits r text config state → Iterated new after others
    iterated_next new after others m same returns stays =
        progress_gap Answered r text (all_matches r text (whole text)) tt config new state after None None left others tt tt [] m same refl refl is returns stays tt so

    -- after the last match
    pub iterated_stays : left ≡ [] → SkipsStayInLimits r text config state → IterationStays r text
    iterated_stays none stays = progress_stays Answered r text (all_matches r text (whole text)) tt config state left tt is stays none so

    -- an error of the next search
    pub iterated_fails : (e : Error) → IsItemError r text config state e → IsErrorOfIteration r text e
    iterated_fails e h = (so.done, left, so.is, progress_error Answered r text (all_matches r text (whole text)) tt config state left tt e is h so)
