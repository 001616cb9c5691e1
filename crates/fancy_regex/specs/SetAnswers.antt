-- The answer of a set of regexes, by the ordered matches of each member.
use Rattle.std.specs.Prelude.{◌≡◌, ◌⊎◌, ℕ, ◌+◌, ◌≤◌, ◌<◌, min, not, length, List, [], ◌∷◌, map, drop, Option, Some, None, MatchOption, MatchResult, slice_get, IsCharBoundary, if◌then◌else◌}
use Rattle.std.specs.declared.result.Result.{Result}
use Rattle.fancy_regex_meaning.specs.Searches.{Match, Member, SetAnswer, found_at, set_answer}
use Rattle.fancy_regex_input.specs.SearchInputs.{input_of}
use Rattle.fancy_regex_input.specs.declared.config.SearchConfig.{SearchConfig}
use Rattle.fancy_regex_search.specs.Patterns.{options_in, setting_in}
use Rattle.fancy_regex_search.specs.MetaMatches.{meta_pattern, meta_match}
use Rattle.fancy_regex_search.specs.MemberSearches.{meta_match_at, IsMemberError, MemberStaysInLimits}
use Rattle.fancy_regex_search.specs.SearchLimits.{effective_start}
use Rattle.fancy_regex_search.specs.Error.{Error}
use Rattle.fancy_regex_search.specs.CaptureSpans.{AreGroupsOf, IsResultFor, span_in}
use Rattle.fancy_regex_search.specs.declared.regex.Regex.{Regex}
use Rattle.fancy_regex.specs.SetStarts.{FindsNoneAt}

-- where `\G` matches: at the effective start of the set's search, whatever position is tried
abbrev pub set_continue_at : SearchConfig → Option ℕ
set_continue_at config = if not config.continues then None else Some (effective_start config)

-- the last position that the search may try: the end of its range, or, if it is anchored, its effective start
abbrev pub last_tried : SearchConfig → ℕ
last_tried config = if config.anchored then min (effective_start config) config.range_end else config.range_end

module _ (text : List ℕ) (config : SearchConfig) where
  -- a regex as a member of the definitions' set
  abbrev pub member_of : Regex → Member
  member_of regex = record { pattern = meta_pattern regex.meta; options = options_in regex.meta.options; setting = setting_in regex.meta.options text config }

  abbrev pub members_of : List Regex → List Member
  members_of regexes = map member_of regexes

  -- the match of a member that starts at a position
  abbrev pub match_of_member : ℕ → Regex → Option Match
  match_of_member p regex = meta_match_at regex.meta text config (set_continue_at config) p

  -- The search tries this position: it is a character boundary between its effective start and the last one.
  pub record IsTriedAt (p : ℕ) : Type 0 where
    pub boundary : IsCharBoundary text p
    pub following : effective_start config ≤ p
    pub inside : p ≤ last_tried config

module _ (regexes : List Regex) (text : List ℕ) (config : SearchConfig) where
  -- the answer of a search of a set: the earliest tried position at which some member matches, and the members that match there
  abbrev pub answer_of_set : Option SetAnswer
  answer_of_set = set_answer (members_of text config regexes) (input_of config) text

  -- the members with numbers from i on that match at a position, each with its match
  abbrev pub found_from : ℕ → ℕ → List (ℕ × Match)
  found_from p i = found_at (members_of text config regexes) (input_of config) p i (members_of text config (drop i regexes))

  -- the error is one of the search of the member with this number at a position
  abbrev pub IsErrorOfMember : ℕ → ℕ → Error → Type 0
  IsErrorOfMember p k e =
      (regex : Regex) × (slice_get regexes k ≡ Some regex) × IsMemberError regex.meta text config (set_continue_at config) p e

  -- the result of asking the member with this number at a position
  abbrev pub IsAnswerOfMember : {X : Type 0} → (X → ℕ × Match → Type 0) → ℕ → ℕ → Option X → Type 0
  IsAnswerOfMember Shows p k found =
      (regex : Regex) → slice_get regexes k ≡ Some regex → IsResultFor (λ x m. Shows x (k, m)) found (match_of_member text config p regex)

  -- The search of the member with this number at a position stays within its limits, or is not needed: the member has no match at
  -- any place with the byte that stands there.
  abbrev pub IsInLimits : ℕ → ℕ → Type 0
  IsInLimits p k =
      (regex : Regex) → slice_get regexes k ≡ Some regex →
      FindsNoneAt regex (slice_get text p) ⊎ MemberStaysInLimits regex.meta text config (set_continue_at config) p

  -- so for each member with a number from i on, below k
  abbrev pub AreInLimits : ℕ → ℕ → ℕ → Type 0
  AreInLimits p i k = (j : ℕ) → i ≤ j → j < k → IsInLimits p j

  -- so for each member at each tried position before p
  abbrev pub AreInLimitsBefore : ℕ → Type 0
  AreInLimitsBefore p = (q : ℕ) → IsTriedAt text config q → q < p → AreInLimits q 0 (length regexes)

  -- What an iterator passes over on its way, by the number of the next member before and after it: all that are left, where there
  -- is no item; else those before the member of the item, and that member where its item is no error.
  abbrev pub PassesInLimits : {X : Type 0} → ℕ → ℕ → Option (Result X Error) → ℕ → Type 0
  PassesInLimits p before result after =
      MatchOption result (AreInLimits p before (length regexes))
      (λ item. MatchResult item (λ x. AreInLimits p before after) (λ e. (k : ℕ) → after ≡ k + 1 → AreInLimits p before k))

  -- what the search passes over on its way to its answer, by the position and the number of the next member
  abbrev pub SearchesInLimits : Option (ℕ × ℕ) → Type 0
  SearchesInLimits None = AreInLimitsBefore (last_tried config + 1)
  SearchesInLimits (Some at) = AreInLimitsBefore at.0 × AreInLimits at.0 0 at.1

  -- The error is the first one met: a member's at a tried position, where no member matches at an earlier one, and no member with
  -- a smaller number at this one, and the searches of all those stay within their limits or are not needed.
  abbrev pub IsSetError : Error → Type 0
  IsSetError e =
      (p : ℕ) × (k : ℕ) × IsTriedAt text config p
      × ((q : ℕ) → IsTriedAt text config q → q < p → found_from q 0 ≡ [])
      × (found_from p 0 ≡ found_from p k) × IsErrorOfMember p k e
      × AreInLimitsBefore p × AreInLimits p 0 k

  -- What asking the members gives, by the number of the next one before and after it: no member is left that matches; or the
  -- first of those that are left and match; or the error of a member before which none of them matches, and the next one is
  -- that after it.
  abbrev pub YieldsMember : {X : Type 0} → (X → ℕ × Match → Type 0) → ℕ → ℕ → Option (Result X Error) → ℕ → Type 0
  YieldsMember Shows p before result after =
      MatchOption result ((found_from p before ≡ []) × (found_from p after ≡ []))
      (λ item. MatchResult item
      (λ x. (found : ℕ × Match) × (before ≤ found.0) × (after ≡ found.0 + 1) × (found_from p before ≡ found ∷ found_from p after) × Shows x found)
      (λ e. (k : ℕ) × (before ≤ k) × (after ≡ k + 1) × (found_from p before ≡ found_from p k) × IsErrorOfMember p k e))

  -- The items of an answer, by the first one and the number of the next member: that one, and what is found from that member on.
  abbrev pub ShowsItems : {X : Type 0} → (X → ℕ × Match → Type 0) → ℕ → Option X → ℕ → List (ℕ × Match) → Type 0
  ShowsItems Shows p first next items =
      MatchOption first ⊥ (λ x. (found : ℕ × Match) × (next ≡ found.0 + 1) × (items ≡ found ∷ found_from p next) × Shows x found)

  -- the answer of the set is this position, with the items that are shown
  abbrev pub IsAnswerOfSet : {X : Type 0} → (X → ℕ × Match → Type 0) → ℕ → Option X → ℕ → Type 0
  IsAnswerOfSet Shows p first next =
      (answer : SetAnswer) × (answer_of_set ≡ Some answer) × (answer.position ≡ p) × ShowsItems Shows p first next answer.found

  -- For a set of this regex alone: the first item is the regex's own match, and no other item follows.
  abbrev pub IsAnswerOfOne : {X : Type 0} → (X → ℕ × Match → Type 0) → Regex → ℕ → Option X → ℕ → Type 0
  IsAnswerOfOne Shows regex p first next =
      MatchOption first ⊥ (λ x. (m : Match) × (meta_match regex.meta text config ≡ Some m) × Shows x (0, m) × (found_from p next ≡ []))

-- Of a member that matched: its number and regex, the start and end offsets of its groups, and its span.
pub record IsMatchOfMember (regexes : List Regex) (found : ℕ × Match) (number : ℕ) (regex : Regex) (slots : List ℕ) (span : ℕ × ℕ) : Type 0 where
  pub number_is : number ≡ found.0
  pub member : slice_get regexes found.0 ≡ Some regex
  pub groups : AreGroupsOf (meta_pattern regex.meta) slots found.1
  pub span_is : span ≡ span_in found.1
