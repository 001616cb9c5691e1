-- Within which limits an iteration answers.
use Rattle.std.specs.Prelude.{◌≡◌, ℕ, ◌<◌, Bool, false, List, ◌∷◌, ◌++◌, MatchOption, IfSome, IfOk, Option, None}
use Rattle.std.specs.declared.result.Result.{Result}
use Rattle.fancy_regex_meaning.specs.Searches.{Match}
use Rattle.fancy_regex_input.specs.SearchInputs.{whole}
use Rattle.fancy_regex_input.specs.declared.config.SearchConfig.{SearchConfig}
use Rattle.fancy_regex_meta.specs.SearchLimits.{MetaStaysInLimits}
use Rattle.fancy_regex_meta.specs.declared.meta_regex.MetaRegex.{MetaRegex}
use Rattle.fancy_regex_search.specs.IterationSearches.{SkipsToFrom, ComesTo}
use Rattle.fancy_regex_search.specs.RemainingMatches.{all_matches}
use Rattle.fancy_regex_search.specs.declared.match_iter.IterState.{IterState}

-- Each search that a call of `next` in this state makes for its own answer stays within the limits: the next search, and the
-- one after each empty match that is skipped since it ends where the previous match ended.
abbrev pub SkipsStayInLimits : MetaRegex → List ℕ → SearchConfig → IterState → Type 0
SkipsStayInLimits s text config state = (q : ℕ) (o : Bool) → SkipsToFrom s text config state q o → MetaStaysInLimits s text (record config { start = q }) o

-- The same of those that start before q.
abbrev pub SkipsStayUntil : MetaRegex → List ℕ → SearchConfig → IterState → ℕ → Type 0
SkipsStayUntil s text config state q = (at : ℕ) (o : Bool) → SkipsToFrom s text config state at o → at < q → MetaStaysInLimits s text (record config { start = at }) o

-- A call of `next` returns a match, and `None` where the iteration was not over, only where each search that it makes stays
-- within the limits.
abbrev pub NextStays : {A E : Type 0} → MetaRegex → List ℕ → SearchConfig → IterState → Option (Result A E) → Type 0
NextStays s text config state result =
    MatchOption result (state.is_done ≡ false → SkipsStayInLimits s text config state) (λ item. IfOk item (λ _. SkipsStayInLimits s text config state))

-- The same of a piece, for an iteration over matches that was not over.
abbrev pub PieceStays : {A E : Type 0} → MetaRegex → List ℕ → SearchConfig → IterState → Option (Result A E) → Type 0
PieceStays s text config state result = IfSome result (λ item. IfOk item (λ _. state.is_done ≡ false → SkipsStayInLimits s text config state))

-- Each search that an iteration from this configuration makes right after these items stays within the limits: the next one, and
-- the one after each empty match that is skipped.
abbrev pub StaysAfter : MetaRegex → List ℕ → SearchConfig → List Match → Type 0
StaysAfter s text config items =
    (q : ℕ) (o : Bool) → ComesTo s text config items None config.start false q o → MetaStaysInLimits s text (record config { start = q }) o

-- The same of those that start before q.
abbrev pub StaysAfterUntil : MetaRegex → List ℕ → SearchConfig → List Match → ℕ → Type 0
StaysAfterUntil s text config items q =
    (at : ℕ) (o : Bool) → ComesTo s text config items None config.start false at o → at < q → MetaStaysInLimits s text (record config { start = at }) o

-- Each search that an iteration from this configuration makes until it has returned these items stays within the limits.
abbrev pub StaysFor : MetaRegex → List ℕ → SearchConfig → List Match → Type 0
StaysFor s text config items = (done : List Match) (m : Match) (rest : List Match) → items ≡ done ++ (m ∷ rest) → StaysAfter s text config done

-- A replacement of these matches stays within the limits: it searches for each of them, after those before it, and once more
-- after the last one.
abbrev pub ReplacementStays : MetaRegex → List ℕ → List Match → Type 0
ReplacementStays s text ms = (done rest : List Match) → ms ≡ done ++ rest → StaysAfter s text (whole text) done

-- The iteration over a whole text stays within the limits: it searches for each match, and once more after the last one.
abbrev pub IterationStays : MetaRegex → List ℕ → Type 0
IterationStays s text = ReplacementStays s text (all_matches s text (whole text))
