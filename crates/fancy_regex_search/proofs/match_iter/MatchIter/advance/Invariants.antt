use Rattle.std.proofs.Common.{◌≡◌, ◌≤◌, ℕ, true}
use Rattle.fancy_regex_search.specs.RemainingMatches.{remaining_matches, remaining_searches}
use Rattle.fancy_regex_search.specs.IterationSearches.{KeepsSearches, KeepsSkips}
use Rattle.fancy_regex_search.specs.IterationLimits.{SkipsStayUntil}
use Rattle.fancy_regex_search.proofs.match_iter.MatchIter.advance.Given as goal

abbrev pub invariant-loop-found : goal.invariant-loop-found
invariant-loop-found g l =
    let text = g.S.Input.text l.fn.self.input.haystack in
    let s = l.self in
    let o = l.fn.self in
    record {
      left : remaining_matches o.regex.now.meta text o.input.config o.state ≡ remaining_matches s.regex.now.meta text s.input.config s.state;
      start : o.input.config.start ≤ s.input.config.start;
      haystack : s.input.haystack ≡ o.input.haystack;
      regex : s.regex ≡ o.regex;
      wanted : s.wanted ≡ o.wanted;
      config : s.input.config ≡ record (o.input.config) { start = s.input.config.start };
      searches : remaining_searches text s.input.config s.state ≤ remaining_searches text o.input.config o.state;
      passes : KeepsSearches o.regex.now.meta text o.input.config o.state.continue_disabled s.input.config s.state.continue_disabled;
      skips : KeepsSkips o.regex.now.meta text o.input.config o.state s.input.config s.state;
      stays : (q : ℕ) → SkipsStayUntil o.regex.now.meta text s.input.config s.state q → SkipsStayUntil o.regex.now.meta text o.input.config o.state q;
      done : s.state.is_done ≡ o.state.is_done;
      last : s.state.last ≡ o.state.last;
      over : o.state.is_done ≡ true → s.input.config ≡ o.input.config;
    }

abbrev pub decreases-loop-found : goal.decreases-loop-found
decreases-loop-found g l =
    let s = l.self in
    remaining_searches (g.S.Input.text s.input.haystack) s.input.config s.state
