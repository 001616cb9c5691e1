use Rattle.std.proofs.Common.{◌==◌}
use Rattle.fancy_regex_bytes.specs.ByteSets.{has}
use Rattle.fancy_regex_bytes.proofs.ByteSetLemmas.{any_more}
use Rattle.fancy_regex_bytes.proofs.byte_set.ByteSet.add.Goals as goal

pub loop-byte-preserved : goal.loop-byte-preserved
loop-byte-preserved c =
    any_more (λ x b. x == b) (has c.args.self.now) (has c.loop-byte.self) (has c.insert.new.self) c.args.bytes.now c.loop-byte.byte-index 0 c.loop-byte.invariant c.insert.ensures
    c.loop-byte-test.true
