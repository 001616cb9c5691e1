use Rattle.fancy_regex_table.specs.Blocks.{AreBlocks}
use Rattle.fancy_regex_table.proofs.blocks.Blocks.new.Given as goal

abbrev pub invariant-loop-row : goal.invariant-loop-row
invariant-loop-row l = AreBlocks l.bits l.blocks
