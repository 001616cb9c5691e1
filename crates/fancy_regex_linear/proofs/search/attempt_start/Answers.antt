use Rattle.std.proofs.Common.{ℕ}
use Rattle.fancy_regex_states.specs.Attempts.{View, Continuation}
use Rattle.fancy_regex_linear.specs.Visited.{Has}
use Rattle.fancy_regex_linear.specs.Search.{AllFail}
use Rattle.fancy_regex_linear.proofs.search.attempt_start.Goals as goal
use Rattle.fancy_regex_linear.proofs.search.attempt_start.Goals.{After-drop_before}

-- what fails with all pairs fails with those that are left
left : (c : After-drop_before) (view : View) (go : ℕ → Continuation) → AllFail view.longest go (Has c.args.memory.now.visited) → AllFail view.longest go (Has c.drop_before.new.self)
left c view go failed q i r has = failed q i r (c.drop_before.ensures.pairs q i has)

pub returns-clause-end : goal.returns-clause-end
returns-clause-end c = record {
  value = λ view go explains failed. c.in_ok-end.ensures.end.value view go explains (left (goal.at.returns-clause-end c).After-drop_before view go failed);
  failed = λ none view go explains failed. c.in_ok-end.ensures.end.failed none view go explains (left (goal.at.returns-clause-end c).After-drop_before view go failed);
  empty = c.in_ok-end.ensures.end.empty;
}
