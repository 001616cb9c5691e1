use Rattle.std.proofs.Common.{◌≡◌, ◌<◌, ℕ, drop}
use Rattle.fancy_regex_table.specs.Questions.{number_from, number_at, bits_at}
use Rattle.fancy_regex_table.proofs.blocks.uniform_number.Given as goal

abbrev pub invariant-loop-i : goal.invariant-loop-i
invariant-loop-i l = (place : ℕ) → place < 64 → number_from l.number (bits_at (drop l.i l.bits) l.row place) ≡ number_at l.bits l.row place
