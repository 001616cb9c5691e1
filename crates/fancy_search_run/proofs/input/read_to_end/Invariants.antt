use Rattle.std.proofs.Common.{◌≡◌, ◌-◌, ◌^◌, length}
use Rattle.std.specs.Io.KnownBytes.{Consumes}
use Rattle.fancy_search_run.specs.declared.source.LastRead.TheVariants.{Failure}
use Rattle.fancy_search_run.proofs.input.read_to_end.Given as goal

-- the bytes so far are those that the reader has lost
abbrev pub invariant-loop-bytes : goal.invariant-loop-bytes
invariant-loop-bytes g l =
    Consumes (g.R.Read.remaining l.fn.source.reader.now) (g.R.Read.remaining l.source.reader.now) l.bytes.items
    × (l.source.reader.ghost_name ≡ l.fn.source.reader.ghost_name)
    × (l.fn.source.last ≡ Failure → l.source.reader.now ≡ l.fn.source.reader.now)
    × (l.fn.source.last ≡ Failure → l.source.last ≡ Failure)

-- each read that gives bytes leaves room for fewer
abbrev pub decreases-loop-bytes : goal.decreases-loop-bytes
decreases-loop-bytes g l = 2 ^ 63 - length l.bytes.items
