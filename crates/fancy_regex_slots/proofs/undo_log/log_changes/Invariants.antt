use Rattle.std.proofs.Common.{◌≡◌, ◌≤◌, ◌<◌, take}
use Rattle.std.specs.List.{All}
use Rattle.fancy_regex_slots.specs.UndoLog.{undone}
use Rattle.fancy_regex_slots.proofs.ShortenLemmas.{merged}
use Rattle.fancy_regex_slots.proofs.undo_log.log_changes.Given as goal

-- what the entries so far undo: the slots so far
abbrev pub invariant-loop-slot : goal.invariant-loop-slot
invariant-loop-slot l = record {
  count : l.written ≤ l.slot;
  undone_so_far : undone l.values (take l.written l.log) ≡ merged l.slot l.saved l.values;
  below : All (λ old. old.slot < l.slot) (take l.written l.log);
}
