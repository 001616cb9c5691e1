-- What replacing matches in a text returns.
use Rattle.std.specs.Prelude.{◌≡◌, ℕ, zero, suc, ◌==◌, Bool, false, List, [], ◌∷◌, ◌++◌, take, map, Option, Some, None, string_bytes, Ok, Err}
use Rattle.std.specs.Prelude.{String}
use Rattle.std.specs.declared.result.Result.{Result}
use Rattle.fancy_regex_meaning.specs.Searches.{Match, pieces_from, replaced_from}
use Rattle.fancy_regex_meaning.specs.ItemLaws.{alternately}
use Rattle.fancy_regex_class.specs.RunInputs.{match_slots}
use Rattle.fancy_regex_meta.specs.MetaMatches.{meta_pattern}
use Rattle.fancy_regex_meta.specs.declared.error.Error.{Error}
use Rattle.fancy_regex_meta.specs.declared.error.Error.TheVariants.{Memory}
use Rattle.fancy_regex_meta.specs.declared.meta_regex.MetaRegex.{MetaRegex}
use Rattle.fancy_regex_meta.specs.declared.found.MatchDetail.{MatchDetail}
use Rattle.fancy_regex_meta.specs.declared.found.MatchDetail.TheVariants.{Span, Groups}
use Rattle.fancy_regex_input.specs.SearchInputs.{whole}
use Rattle.fancy_regex_search.specs.IterationErrors.{IsErrorAfter}
use Rattle.fancy_regex_search.specs.IterationLimits.{StaysFor}

-- The capture groups that a replacer is called with: the regex, the haystack, and the start and end offsets of each group.
pub record CapturesView : Type 0 where
  pub regex : MetaRegex
  pub text : List ℕ
  pub slots : List ℕ

-- those of this match of a regex in a text
abbrev pub captures_view : MetaRegex → List ℕ → Match → CapturesView
captures_view s text m = record { regex = s; text = text; slots = match_slots (meta_pattern s) m }

-- Where the groups of a match are not wanted, the answer of a call does not depend on them.
abbrev pub AnswersBy : {S : Type 0} → MatchDetail → (S → CapturesView → Result (List ℕ) Error → S → Type 0) → Type 0
AnswersBy Groups Calls = Unit {0}
AnswersBy {S} Span Calls = (s : S) (m n : CapturesView) (result : Result (List ℕ) Error) (next : S) → Calls s m result next → Calls s n result next

-- One call for each match, in order, may answer these texts and leave this state.
abbrev pub AnswersInTurn : {S : Type 0} → (S → CapturesView → Result (List ℕ) Error → S → Type 0) → S → List CapturesView → List (List ℕ) → S → Type 0
AnswersInTurn Calls s [] [] last = last ≡ s
AnswersInTurn Calls s [] (w ∷ ws) last = ⊥
AnswersInTurn Calls s (m ∷ ms) [] last = ⊥
AnswersInTurn {S} Calls s (m ∷ ms) (w ∷ ws) last = (next : S) × Calls s m (Ok w) next × AnswersInTurn Calls next ms ws last

-- One call for each of the first of these matches, in order, answers a text, and that for the next match this error; they leave this
-- state. Each search that is made for these matches stays within the limits.
pub record FailsInTurn {S : Type 0} (Calls : S → CapturesView → Result (List ℕ) Error → S → Type 0) (r : MetaRegex) (text : List ℕ) (ms : List Match) (s : S) (e : Error) (last : S) : Type 0 where
  pub done : List Match
  pub at : Match
  pub rest : List Match
  pub answers : List (List ℕ)
  pub before : S
  pub is : ms ≡ done ++ (at ∷ rest)
  pub turns : AnswersInTurn Calls s (map (captures_view r text) done) answers before
  pub call : Calls before (captures_view r text at) (Err e) last
  pub stays : StaysFor r text (whole text) (done ++ (at ∷ []))

-- From an offset on, the text between matches and the answers of one call for each match, in turn, and then the rest.
abbrev pub IsReplacedByCalls : {S : Type 0} → (S → CapturesView → Result (List ℕ) Error → S → Type 0) → MetaRegex → List ℕ → ℕ → List Match → S → List ℕ → S → Type 0
IsReplacedByCalls Calls r text from ms s out last =
    (answers : List (List ℕ)) × AnswersInTurn Calls s (map (captures_view r text) ms) answers last × (out ≡ alternately (pieces_from text from ms) answers)

-- the matches that are still to be replaced: all of them, or at most so many
abbrev pub still_replaced : Option ℕ → List Match → List Match
still_replaced None ms = ms
still_replaced (Some n) ms = take n ms

-- no further match is to be replaced
abbrev pub is_spent : Option ℕ → Bool
is_spent None = false
is_spent (Some n) = n == 0

-- the limit of a replacement, where 0 is none
abbrev pub limit_of : ℕ → Option ℕ
limit_of zero = None
limit_of (suc n) = Some (suc n)

-- What a replacement returns: by calls, or, for a replacer with one text for all matches, by that text.
pub data IsReplacedBy {S : Type 0} (Calls : S → CapturesView → Result (List ℕ) Error → S → Type 0) (r : MetaRegex) (text : List ℕ) (ms : List Match) (s : S) (out : List ℕ) : Option (List ℕ) → Type 0 where
  by_calls : (fixed : Option (List ℕ)) (last : S) → IsReplacedByCalls Calls r text 0 ms s out last → IsReplacedBy Calls r text ms s out fixed
  by_text : (t : List ℕ) → out ≡ replaced_from text (λ _. t) 0 ms → IsReplacedBy Calls r text ms s out (Some t)

-- What a function answers for a match, and what the replacer over it does.
abbrev pub IsAnswerOfFunction : {Z : Type 0} → Result (String Z) Error → Result (List ℕ) Error → Type 0
IsAnswerOfFunction (Ok v) (Ok w) = w ≡ string_bytes v
IsAnswerOfFunction (Ok v) (Err e) = e ≡ Memory
IsAnswerOfFunction (Err d) (Ok w) = ⊥
IsAnswerOfFunction (Err d) (Err e) = e ≡ d

-- What a replacer with a fixed text answers.
abbrev pub IsAnswerOfText : List ℕ → Result (List ℕ) Error → Type 0
IsAnswerOfText t (Ok w) = w ≡ t
IsAnswerOfText t (Err e) = e ≡ Memory

-- The error of a replacement: that of a search right after some of the matches that are replaced, for each of which one call
-- answered, in order; that of a call, after the calls before it; or want of memory. Each search before a search or a call that
-- fails stays within the limits. A replacer with one text for all matches
-- need not have been called.
pub data IsReplaceError {S : Type 0} (Calls : S → CapturesView → Result (List ℕ) Error → S → Type 0) (r : MetaRegex) (text : List ℕ) (ms : List Match) (s : S) : Option (List ℕ) → Error → Type 0 where
  of_search : (fixed : Option (List ℕ)) (done rest : List Match) (answers : List (List ℕ)) (last : S) (e : Error) → ms ≡ done ++ rest → IsErrorAfter r text (whole text) done e →
      AnswersInTurn Calls s (map (captures_view r text) done) answers last → IsReplaceError Calls r text ms s fixed e
  of_search_by_text : (t : List ℕ) (done rest : List Match) (e : Error) → ms ≡ done ++ rest → IsErrorAfter r text (whole text) done e → IsReplaceError Calls r text ms s (Some t) e
  of_call : (fixed : Option (List ℕ)) (e : Error) (last : S) → FailsInTurn Calls r text ms s e last → IsReplaceError Calls r text ms s fixed e
  of_memory : (fixed : Option (List ℕ)) → IsReplaceError Calls r text ms s fixed Memory

-- What a replacement returns, and the state that it leaves the replacer in: that after one call for each match, or, for a replacer
-- with one text for all matches, the one before.
pub data IsReplacedLeaving {S : Type 0} (Calls : S → CapturesView → Result (List ℕ) Error → S → Type 0) (r : MetaRegex) (text : List ℕ) (ms : List Match) (s : S) (out : List ℕ) (last : S) : Option (List ℕ) → Type 0 where
  left_by_calls : (fixed : Option (List ℕ)) → IsReplacedByCalls Calls r text 0 ms s out last → IsReplacedLeaving Calls r text ms s out last fixed
  left_by_text : (t : List ℕ) → out ≡ replaced_from text (λ _. t) 0 ms → last ≡ s → IsReplacedLeaving Calls r text ms s out last (Some t)

-- The error of a replacement, and the state that it leaves the replacer in: that of a search right after some of the matches that
-- are replaced, or want of memory, after one call for each of these, in order, each of which answered; or that of a call, after
-- the calls before it. Each search before a search or a call that fails stays within the limits. A replacer with one text for all
-- matches is left as it was.
pub data IsReplaceErrorLeaving {S : Type 0} (Calls : S → CapturesView → Result (List ℕ) Error → S → Type 0) (r : MetaRegex) (text : List ℕ) (ms : List Match) (s : S) (e : Error) (last : S) : Option (List ℕ) → Type 0 where
  search_failed : (fixed : Option (List ℕ)) (done rest : List Match) (answers : List (List ℕ)) → ms ≡ done ++ rest → IsErrorAfter r text (whole text) done e →
      AnswersInTurn Calls s (map (captures_view r text) done) answers last → IsReplaceErrorLeaving Calls r text ms s e last fixed
  search_failed_by_text : (t : List ℕ) (done rest : List Match) → ms ≡ done ++ rest → IsErrorAfter r text (whole text) done e → last ≡ s → IsReplaceErrorLeaving Calls r text ms s e last (Some t)
  call_failed : (fixed : Option (List ℕ)) → FailsInTurn Calls r text ms s e last → IsReplaceErrorLeaving Calls r text ms s e last fixed
  memory_ran_out : (fixed : Option (List ℕ)) (done rest : List Match) (answers : List (List ℕ)) → e ≡ Memory → ms ≡ done ++ rest →
      AnswersInTurn Calls s (map (captures_view r text) done) answers last → IsReplaceErrorLeaving Calls r text ms s e last fixed

-- How a replacer that has the same text for each match answers.
abbrev pub AnswersText : {S : Type 0} → (S → List ℕ) → S → CapturesView → Result (List ℕ) Error → S → Type 0
AnswersText text_of s m result next = IsAnswerOfText (text_of s) result × (next ≡ s)
