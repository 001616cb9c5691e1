use Rattle.std.proofs.Common.{◌≡◌, ℕ, ◌<◌, true, false, get_or, length, List, Some}
use Rattle.fancy_regex_states.specs.First.{IsTableOf, CannotBegin, HasNoNewMarks}
use Rattle.fancy_regex_states.specs.declared.state.State.{State}
use Rattle.fancy_regex_states.proofs.second.retain_refused.Given as goal

abbrev pub invariant-loop-code : goal.invariant-loop-code
invariant-loop-code l = record {
  long : length l.refused ≡ 128;
  no_new : HasNoNewMarks l.fn.refused l.refused;
  says : (k : ℕ) → k < l.code → get_or l.refused k false ≡ true → (states : List State) (entry : ℕ)
      → IsTableOf l.unicode l.matchers states entry l.first → CannotBegin l.unicode l.matchers states entry (Some k);
}
