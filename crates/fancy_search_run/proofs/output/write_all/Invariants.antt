use Rattle.std.proofs.Common.{◌≡◌, ◌-◌, ◌≤◌, length, take, true}
use Rattle.std.specs.Io.KnownBytes.{Appends}
use Rattle.fancy_search_run.proofs.output.write_all.Given as goal

abbrev pub invariant-loop-done : goal.invariant-loop-done
invariant-loop-done g l =
    let C = g.W.Write.contents in
    (l.sink.writer.ghost_name ≡ l.fn.sink.writer.ghost_name)
    × Appends (C l.fn.sink.writer.now) (C l.sink.writer.now) (take l.done l.bytes) × (l.done ≤ length l.bytes) × (l.sink.has_failed ≡ l.fn.sink.has_failed)
    × (l.fn.sink.has_failed ≡ true → l.sink.writer.now ≡ l.fn.sink.writer.now) × (l.fn.sink.has_failed ≡ true → l.done ≡ 0)

abbrev pub decreases-loop-done : goal.decreases-loop-done
decreases-loop-done g l = length l.bytes - l.done
