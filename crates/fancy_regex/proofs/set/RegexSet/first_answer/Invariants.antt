use Rattle.std.proofs.Common.{◌≡◌, ◌≤◌, ◌<◌, ◌+◌, ◌-◌, ℕ, [], length, IsCharBoundary}
use Rattle.fancy_regex_meaning.specs.Positions.{boundaries}
use Rattle.fancy_regex_meaning.specs.Searches.{first_some}
use Rattle.fancy_regex_search.specs.SearchLimits.{effective_start}
use Rattle.fancy_regex.specs.SetAnswers.{found_from, answer_of_set, last_tried, IsTriedAt, AreInLimitsBefore}
use Rattle.fancy_regex.proofs.SetPositionLemmas.{answer_at}
use Rattle.fancy_regex.proofs.set.RegexSet.first_answer.Given as goal

abbrev pub invariant-loop-position : goal.invariant-loop-position
invariant-loop-position g l =
    let regexes = l.self.regexes.items in
    let text = g.S.Input.text l.haystack in
    record {
      cut : l.position ≤ length text → IsCharBoundary text l.position;
      following : effective_start l.config ≤ l.position;
      limits : AreInLimitsBefore regexes text l.config l.position;
      none : (q : ℕ) → IsTriedAt text l.config q → q < l.position → found_from regexes text l.config q 0 ≡ [];
      answer : answer_of_set regexes text l.config ≡ first_some (answer_at regexes text l.config) (boundaries text l.position (last_tried l.config));
    }

abbrev pub decreases-loop-position : goal.decreases-loop-position
decreases-loop-position g l = l.last + 1 - l.position
