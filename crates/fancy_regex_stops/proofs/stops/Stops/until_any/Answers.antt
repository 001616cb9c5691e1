use Rattle.std.proofs.Common.{◌∙◌, ap, map, sym, arith}
use Rattle.fancy_regex_stops.specs.Gaps.{gap_in}
use Rattle.fancy_regex_stops.proofs.LaneLemmas.{block_more}
use Rattle.fancy_regex_stops.proofs.stops.Stops.until_any.Goals as goal

pub returns-then-has_zero-clause-passed : goal.returns-then-has_zero-clause-passed
returns-then-has_zero-clause-passed c =
    block_more (gap_in c.args.self.now) c.args.bytes.now c.args.from c.blocks-2.at c.gaps-gaps.result c.lanes_to_zero.result
    (omega (arith, c.blocks-2-test.true, c.blocks-2.invariant.range))
    (c.gaps-gaps.ensures c.args.self.now c.blocks-2.invariant.numbers ∙ ap (map (gap_in c.args.self.now)) c.load.ensures) c.lanes_to_zero.ensures.count
    c.blocks-2.invariant.passed

pub blocks-2-preserved : goal.blocks-2-preserved
blocks-2-preserved c = record {
  range = (omega (arith, c.blocks-2.invariant.range), omega (arith, c.blocks-2-test.true, c.blocks-2.invariant.range));
  passed =
      block_more (gap_in c.args.self.now) c.args.bytes.now c.args.from c.blocks-2.at c.gaps-gaps.result 16
      (omega (arith, c.blocks-2-test.true, c.blocks-2.invariant.range))
      (c.gaps-gaps.ensures c.args.self.now c.blocks-2.invariant.numbers ∙ ap (map (gap_in c.args.self.now)) c.load.ensures)
      (sym (c.has_zero.ensures c.if-has_zero.false)) c.blocks-2.invariant.passed;
  numbers = c.blocks-2.invariant.numbers;
}
