use Rattle.std.proofs.Common.{◌≡◌, ◌+◌, ◌-◌, ◌*◌, ◌^◌, ◌≤◌, length, min}
use Rattle.fancy_regex_class.specs.Looks.{looked_text, look_count}
use Rattle.fancy_regex_meaning.specs.Positions.{boundaries}
use Rattle.fancy_regex_parts.specs.Tables.{due, known_cost}
use Rattle.fancy_regex_parts.specs.Frames.{IsInReach}
use Rattle.fancy_regex_parts.specs.Layers.{ForTrueWays, IsWithinLooks, LeavesMemory}
use Rattle.fancy_regex_parts.specs.Find.{earliest, attempted}
use Rattle.fancy_regex_parts.proofs.starts.find.Given as goal

abbrev pub invariant-starts : goal.invariant-starts
invariant-starts l = record {
  place : IsInReach l.context.table.now (looked_text l.fn.text) l.fn.memory.recall.base l.context.entry l.at;
  range : l.at ≤ l.last;
  left : ForTrueWays l.context l.fn.text l.fn.memory (λ ways. earliest (ways.end l.context.entry) (boundaries (looked_text l.fn.text) l.from l.last)
      ≡ earliest (ways.end l.context.entry) (boundaries (looked_text l.fn.text) l.at l.last));
  counted : ForTrueWays l.context l.fn.text l.fn.memory (λ ways. look_count l.text
      + attempted (ways.end l.context.entry) (boundaries (looked_text l.fn.text) l.at l.last) * (due l.context.table.now l.context.entry + 1)
      + known_cost l.context.table.now l.fn.memory.recall
      ≤ look_count l.fn.text
      + attempted (ways.end l.context.entry) (boundaries (looked_text l.fn.text) l.from l.last) * (due l.context.table.now l.context.entry + 1)
      + known_cost l.context.table.now l.memory.recall);
  later : l.from ≤ l.at;
  looked : IsWithinLooks l.context l.fn.text l.text l.fn.memory l.memory ((l.at - l.from) * (due l.context.table.now l.context.entry + 1));
  least : min (look_count l.fn.text + length (boundaries (looked_text l.fn.text) l.from l.last))
      (2 ^ 64 - 1 + length (boundaries (looked_text l.fn.text) l.at l.last))
      ≤ look_count l.text + length (boundaries (looked_text l.fn.text) l.at l.last);
  leaves : LeavesMemory l.context l.fn.text l.text l.fn.memory l.memory;
}

abbrev pub decreases-starts : goal.decreases-starts
decreases-starts l = l.last - l.at
