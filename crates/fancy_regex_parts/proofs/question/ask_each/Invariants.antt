use Rattle.std.proofs.Common.{◌≡◌, ℕ, ◌*◌, ◌<◌, None, length, get_or}
use Rattle.fancy_regex_parts.specs.Tables.{due}
use Rattle.fancy_regex_parts.specs.Layers.{ForTrueWays, IsWithinLooks, LeavesMemory}
use Rattle.fancy_regex_parts.proofs.question.ask_each.Given as goal

abbrev pub invariant-loop-k : goal.invariant-loop-k
invariant-loop-k l = record {
  len : length l.answers.items ≡ l.k;
  answers : ForTrueWays l.context l.fn.text l.fn.memory (λ ways. (j : ℕ) → j < l.k → get_or l.answers.items j None ≡ ways.end l.part (get_or l.places j 0));
  leaves : LeavesMemory l.context l.fn.text l.text l.fn.memory l.memory;
  counted : IsWithinLooks l.context l.fn.text l.text l.fn.memory l.memory (l.k * due l.context.table.now l.part);
}
