use Rattle.std.proofs.Common.{◌≡◌, ℕ, ◌<◌, true, false, List, Some, get_or, length, IfSome}
use Rattle.fancy_regex_states.specs.First.{CannotBegin, IsTableOf}
use Rattle.fancy_regex_states.specs.declared.state.State.{State}
use Rattle.fancy_regex_linear.proofs.starts.refused_ascii.Given as goal

abbrev pub invariant-loop-code : goal.invariant-loop-code
invariant-loop-code l = record {
  long : length l.refused ≡ 128;
  marks : (states : List State) (entry : ℕ) → ∥ IfSome l.first (IsTableOf l.unicode l.matchers states entry) ∥₁
      → (k : ℕ) → k < l.code → get_or l.refused k false ≡ true → CannotBegin l.unicode l.matchers states entry (Some k);
}
