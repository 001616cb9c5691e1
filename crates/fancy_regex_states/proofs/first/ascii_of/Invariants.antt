use Rattle.std.proofs.Common.{◌≡◌, ℕ, ◌<◌, false, get_or, length}
use Rattle.fancy_regex_states.specs.First.{one_matches}
use Rattle.fancy_regex_states.proofs.first.ascii_of.Given as goal

abbrev pub invariant-loop-code : goal.invariant-loop-code
invariant-loop-code l = record {
  long : length l.ascii ≡ 128;
  answers : (k : ℕ) → k < l.code → get_or l.ascii k false ≡ one_matches l.unicode l.matchers l.leaves k;
}
