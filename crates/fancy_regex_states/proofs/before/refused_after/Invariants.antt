use Rattle.std.proofs.Common.{◌≡◌, ℕ, ◌<◌, true, false, get_or, length}
use Rattle.fancy_regex_states.specs.Before.{CannotBeginAfter}
use Rattle.fancy_regex_states.proofs.before.refused_after.Given as goal

abbrev pub invariant-loop-code : goal.invariant-loop-code
invariant-loop-code l = record {
  long : length l.refused ≡ 128;
  says : (k : ℕ) → k < l.code → get_or l.refused k false ≡ true → CannotBeginAfter l.unicode l.matchers l.states l.entry k;
}
