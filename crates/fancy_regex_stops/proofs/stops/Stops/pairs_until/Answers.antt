use Rattle.std.proofs.Common.{◌<◌, ◌≤◌, ◌+◌, ℕ, length, slice_index_or, arith}
use Rattle.fancy_regex_stops.specs.Gaps.{pair_gap}
use Rattle.fancy_regex_stops.proofs.LaneLemmas.{and_on, pair_says, short_pair_says}
use Rattle.fancy_regex_stops.proofs.stops.Stops.pairs_until.Goals as goal
use Rattle.fancy_regex_stops.proofs.stops.Stops.pairs_until.Goals.{After-pairs_at-passed}

-- the pairs up to the end of the block have a gap
passed : (c : After-pairs_at-passed) → (i : ℕ) → c.args.from ≤ i → i < c.blocks-2.at + c.pairs_at-passed.result
    → (i + 1 < length c.args.bytes.now) × (0 < pair_gap c.args.self.now c.args.second.now (slice_index_or c.args.bytes.now i 0) (slice_index_or c.args.bytes.now (i + 1) 0))
passed c =
    let at : ℕ = c.blocks-2.at in
    let is = c.pairs_at-passed.ensures in
    and_on (λ (i : ℕ). (i + 1 < length c.args.bytes.now) × (0 < pair_gap c.args.self.now c.args.second.now (slice_index_or c.args.bytes.now i 0) (slice_index_or c.args.bytes.now (i + 1) 0)))
    c.args.from at (at + c.pairs_at-passed.result) c.blocks-2.invariant.passed
    (λ i low high. (
      omega (arith, high, is.most, c.blocks-2-test.true, c.blocks-2.invariant.range),
      is.passed c.args.self.now c.args.second.now c.blocks-2.invariant.numbers.0 c.blocks-2.invariant.numbers.1 i low high,
    ))

pub returns-then-passed-lt-LANES-clause-passed : goal.returns-then-passed-lt-LANES-clause-passed
returns-then-passed-lt-LANES-clause-passed c marks others wide covers covers_others i low high =
    let is = passed (goal.at.returns-then-passed-lt-LANES-clause-passed c).After-pairs_at-passed i low high in
    pair_says c.args.self.now c.args.second.now marks wide others c.args.bytes.now i covers covers_others is.0 is.1

pub blocks-2-preserved : goal.blocks-2-preserved
blocks-2-preserved c = record {
  range = (omega (arith, c.blocks-2.invariant.range), omega (arith, c.pairs_at-passed.ensures.most, c.blocks-2-test.true, c.blocks-2.invariant.range));
  passed = passed (goal.at.blocks-2-preserved c).After-pairs_at-passed;
  numbers = c.blocks-2.invariant.numbers;
}

pub returns-clause-passed : goal.returns-clause-passed
returns-clause-passed c marks others wide covers covers_others i low high =
    let is = c.blocks-2.invariant.passed i low high in
    pair_says c.args.self.now c.args.second.now marks wide others c.args.bytes.now i covers covers_others is.0 is.1

pub returns-then-passed-lt-LANES-clause-short : goal.returns-then-passed-lt-LANES-clause-short
returns-then-passed-lt-LANES-clause-short c marks others short covers covers_others i low high =
    let is = passed (goal.at.returns-then-passed-lt-LANES-clause-short c).After-pairs_at-passed i low high in
    short_pair_says c.args.self.now c.args.second.now marks short others c.args.bytes.now i covers covers_others is.0 is.1

pub returns-clause-short : goal.returns-clause-short
returns-clause-short c marks others short covers covers_others i low high =
    let is = c.blocks-2.invariant.passed i low high in
    short_pair_says c.args.self.now c.args.second.now marks short others c.args.bytes.now i covers covers_others is.0 is.1
