use Rattle.std.proofs.Common.{◌≡◌, ◌<◌, ◌≤◌, ◌==◌, ℕ, length, get_or}
use Rattle.std.specs.Int.{bit_at}
use Rattle.fancy_regex_table.specs.Questions.{with_answer}
use Rattle.fancy_regex_table.proofs.blocks.add_answers.Given as goal

abbrev pub invariant-loop-place : goal.invariant-loop-place
invariant-loop-place l = record {
  long : length l.numbers ≡ 64;
  done : (k : ℕ) → k < l.place → get_or l.numbers k 0 ≡ with_answer (get_or l.fn.numbers k 0) (bit_at l.word k == 1);
  rest : (k : ℕ) → l.place ≤ k → get_or l.numbers k 0 ≡ get_or l.fn.numbers k 0;
}
