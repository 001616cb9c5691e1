use Rattle.std.proofs.Common.{◌∙◌, ◌≡◌, ◌+◌, ◌<◌, ◌≤◌, ℕ, ap, map, subst, sym, arith, slice_index_or}
use Rattle.std.specs.List.{prefix_len}
use Rattle.fancy_regex_stops.specs.Gaps.{gap_in, gap_of, limit_gap, lesser, is_more}
use Rattle.fancy_regex_stops.proofs.LaneLemmas.{block_more, single_gap}
use Rattle.fancy_regex_stops.proofs.stops.Stops.until_single.Goals as goal
use Rattle.fancy_regex_stops.proofs.stops.Stops.until_single.Goals.{After-has_zero}

-- the bytes before the first of the block without a gap have one
passed : (c : After-has_zero) → (r : ℕ) → r ≡ prefix_len is_more c.single_gaps-gaps.result
    → (i : ℕ) → c.args.from ≤ i → i < c.blocks-2.at + r → 0 < gap_in c.args.self.now (slice_index_or c.args.bytes.now i 0)
passed c r counted i low high =
    let it = c.args.self.now in
    let gap = λ (byte : ℕ). lesser (limit_gap it.limit byte) (gap_of it.first byte) in
    let numbers = c.blocks-2.invariant.numbers in
    subst (λ (k : ℕ). 0 < k) (single_gap it c.requires.single (slice_index_or c.args.bytes.now i 0))
    (block_more gap c.args.bytes.now c.args.from c.blocks-2.at c.single_gaps-gaps.result r
    (omega (arith, c.blocks-2-test.true, c.blocks-2.invariant.range))
    (c.single_gaps-gaps.ensures it.limit it.first numbers.0 numbers.1 ∙ ap (map gap) c.load.ensures) counted
    (λ k from_on before. subst (λ (n : ℕ). 0 < n) (sym (single_gap it c.requires.single (slice_index_or c.args.bytes.now k 0))) (c.blocks-2.invariant.passed k from_on before))
    i low high)

pub returns-then-has_zero-clause-passed : goal.returns-then-has_zero-clause-passed
returns-then-has_zero-clause-passed c =
    passed (goal.at.returns-then-has_zero-clause-passed c).After-has_zero c.lanes_to_zero.result c.lanes_to_zero.ensures.count

pub blocks-2-preserved : goal.blocks-2-preserved
blocks-2-preserved c = record {
  range = (omega (arith, c.blocks-2.invariant.range), omega (arith, c.blocks-2-test.true, c.blocks-2.invariant.range));
  passed = passed (goal.at.blocks-2-preserved c).After-has_zero 16 (sym (c.has_zero.ensures c.if-has_zero.false));
  numbers = c.blocks-2.invariant.numbers;
}
