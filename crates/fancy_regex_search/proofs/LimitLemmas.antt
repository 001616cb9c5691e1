-- The searches that a step of an iteration makes, and their limits.
use Rattle.std.proofs.Common.{◌≡◌, ℕ, ◌+◌, ◌<◌, ◌≤◌, max, Bool, List, Option, Some, None, subst, sym, arith}
use Rattle.fancy_regex_meaning.specs.ItemLaws.{LooksOnward}
use Rattle.fancy_regex_meaning.specs.Positions.{position_after}
use Rattle.fancy_regex_meaning.specs.Searches.{Match}
use Rattle.fancy_regex_meaning.proofs.ListProofs.{advances}
use Rattle.fancy_regex_meaning.proofs.MatchStartProofs.{search_onward}
use Rattle.fancy_regex_input.specs.SearchInputs.{input_of}
use Rattle.fancy_regex_input.specs.declared.config.SearchConfig.{SearchConfig}
use Rattle.fancy_regex_meta.specs.MetaMatches.{meta_match_from, meta_pattern}
use Rattle.fancy_regex_meta.specs.Patterns.{options_in, setting_in}
use Rattle.fancy_regex_meta.specs.SearchLimits.{MetaStaysInLimits}
use Rattle.fancy_regex_meta.specs.declared.meta_regex.MetaRegex.{MetaRegex}
use Rattle.fancy_regex_search.specs.RemainingMatches.{next_start}
use Rattle.fancy_regex_search.specs.IterationSearches.{SkipsTo, at_once, skipped, continue_disabled_after}
use Rattle.fancy_regex_search.specs.IterationLimits.{SkipsStayInLimits, SkipsStayUntil}
use Rattle.fancy_regex_search.specs.declared.match_iter.IterState.{IterState}
use Rattle.fancy_regex_search.proofs.IterationLemmas.{empty_next}
use Rattle.fancy_regex_search.proofs.RemainingLemmas.{found-same}

-- a search that is come to by skipping starts no earlier
onward_by_skipping : (text : List ℕ) (find : ℕ → Bool → Option Match) (first end : ℕ) → LooksOnward find → (last : Option ℕ) (p : ℕ) (off : Bool) (q : ℕ) (o : Bool) →
    SkipsTo text find first end last p off q o → p ≤ q
onward_by_skipping text find first end looks _ _ _ _ _ (at_once last p off) = omega arith
onward_by_skipping text find first end looks _ _ _ _ _ (skipped last p off m q o inside found empty same later) =
    let span = looks (max p first) off m found in
    let next : position_after text m.end ≡ next_start text m.start m.end = empty_next text m.start m.end empty in
    let past : m.end < position_after text m.end = advances text m.end in
    let rest : next_start text m.start m.end ≤ q =
    onward_by_skipping text find first end looks (Some m.end) (next_start text m.start m.end) (continue_disabled_after (max p first) m) q o later in
    omega (arith, span.0, span.1, next, past, rest)

-- what holds of the next search, and of those after it where its match is skipped, holds of each that is come to by skipping
each_skip : (P : ℕ → Bool → Type 0) (text : List ℕ) (find : ℕ → Bool → Option Match) (first end : ℕ) (last : Option ℕ) (p : ℕ) (off : Bool) (q : ℕ) (o : Bool) →
    SkipsTo text find first end last p off q o → P p off →
    ((m : Match) → max p first ≤ end → find (max p first) off ≡ Some m → m.end ≤ m.start → last ≡ Some m.end →
    SkipsTo text find first end (Some m.end) (next_start text m.start m.end) (continue_disabled_after (max p first) m) q o → P q o) →
    P q o
each_skip P text find first end _ _ _ _ _ (at_once last p off) here following = here
each_skip P text find first end _ _ _ _ _ (skipped last p off m q o inside found empty same later) here following = following m inside found empty same later

same-match : (find : Option Match) (m k : Match) → find ≡ Some m → find ≡ Some k → m ≡ k
same-match find m k e f = cc

module _ (s : MetaRegex) (text : List ℕ) (a : SearchConfig) (before : IterState) where
  -- a search that is not followed by another one
  single : MetaStaysInLimits s text a before.continue_disabled →
      ((m : Match) → max a.start a.range_start ≤ a.range_end → meta_match_from s text a (max a.start a.range_start) before.continue_disabled ≡ Some m → m.end ≤ m.start →
      before.last ≡ Some m.end → ⊥) →
      SkipsStayInLimits s text a before
  single stays unskipped q o skips = each_skip (λ at x. MetaStaysInLimits s text (record a { start = at }) x) text (meta_match_from s text a) a.range_start a.range_end
      before.last a.start before.continue_disabled q o skips stays (λ m inside found empty same later. absurd (unskipped m inside found empty same))

  -- past the range nothing is searched
  pub past_stays : a.range_end < max a.start a.range_start → SkipsStayInLimits s text a before
  past_stays past = single (λ inside. absurd (omega (arith, past, inside))) (λ m inside found empty same. omega (arith, past, inside))

  pub none_stays : MetaStaysInLimits s text a before.continue_disabled → meta_match_from s text a (max a.start a.range_start) before.continue_disabled ≡ None →
      SkipsStayInLimits s text a before
  none_stays stays none = single stays (λ m inside found empty same. absurd (cc))

  module _ (stays : MetaStaysInLimits s text a before.continue_disabled) (m : Match)
      (found : meta_match_from s text a (max a.start a.range_start) before.continue_disabled ≡ Some m) where
    pub long_stays : m.start < m.end → SkipsStayInLimits s text a before
    long_stays less = single stays (λ k inside other empty same.
        let is : m ≡ k = same-match _ m k found other in
        let most : m.end ≤ m.start = subst (λ (x : Match). x.end ≤ x.start) (sym is) empty in
        omega (arith, less, most))

    pub empty_stays : (before.last ≡ Some m.end → ⊥) → SkipsStayInLimits s text a before
    empty_stays unlike = single stays (λ k inside other empty same.
        let is : m ≡ k = same-match _ m k found other in
        unlike (subst (λ (x : Match). before.last ≡ Some x.end) (sym is) same))

    -- after a match that is skipped
    pub skip_stays : (b : SearchConfig) (after : IterState) (p : ℕ) → b ≡ record a { start = p } → p ≡ next_start text m.start m.end →
        after.continue_disabled ≡ continue_disabled_after (max a.start a.range_start) m → after.last ≡ Some m.end →
        (bound : ℕ) → SkipsStayUntil s text b after bound → SkipsStayUntil s text a before bound
    skip_stays b after p is at flag end bound kept q o skips =
        let last = before.last in
        let off = before.continue_disabled in
        each_skip (λ from x. from < bound → MetaStaysInLimits s text (record a { start = from }) x) text (meta_match_from s text a) a.range_start a.range_end last a.start off q o skips
        (λ less. stays)
        (λ k inside other empty same later less.
        let first = subst (λ (x : Match). SkipsTo text (meta_match_from s text a) a.range_start a.range_end (Some x.end) (next_start text x.start x.end)
        (continue_disabled_after (max a.start a.range_start) x) q o) (sym (same-match _ m k found other)) later in
        let second = subst (λ (l : Option ℕ). SkipsTo text (meta_match_from s text a) a.range_start a.range_end l (next_start text m.start m.end)
        (continue_disabled_after (max a.start a.range_start) m) q o) (sym end) first in
        let third = subst (λ (x : Bool). SkipsTo text (meta_match_from s text a) a.range_start a.range_end after.last (next_start text m.start m.end) x q o) (sym flag) second in
        let fourth = subst (λ (n : ℕ). SkipsTo text (meta_match_from s text a) a.range_start a.range_end after.last n after.continue_disabled q o) (sym at) third in
        let fifth = subst (λ (f : ℕ → Bool → Option Match). SkipsTo text f a.range_start a.range_end after.last p after.continue_disabled q o) (sym (found-same s text a p)) fourth in
        let there = subst (λ (x : SearchConfig). SkipsTo text (meta_match_from s text x) x.range_start x.range_end after.last x.start after.continue_disabled q o) (sym is) fifth in
        subst (λ (x : SearchConfig). MetaStaysInLimits s text (record x { start = q }) o) is (kept q o there less))

module _ (s : MetaRegex) (text : List ℕ) (a b : SearchConfig) (before now : IterState) (kept : (q : ℕ) → SkipsStayUntil s text b now q → SkipsStayUntil s text a before q) where
  -- where each search that is left stays within the limits, each does
  pub until_all : SkipsStayInLimits s text b now → SkipsStayInLimits s text a before
  until_all stays q o skips = kept (q + 1) (λ at x to less. stays at x to) q o skips (omega arith)

  -- each search before the next one stays within the limits
  pub until_next : SkipsStayUntil s text a before b.start
  until_next =
      let looks = search_onward (setting_in s.options text b) (meta_pattern s) (options_in s.options) (input_of b) in
      kept b.start
      (λ at x to less.
      let later = onward_by_skipping text (meta_match_from s text b) b.range_start b.range_end looks now.last b.start now.continue_disabled at x to in
      absurd (omega (arith, less, later)))
