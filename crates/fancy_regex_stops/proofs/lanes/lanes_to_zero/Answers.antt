use Rattle.std.proofs.Common.{◌∙◌, sym, arith}
use Rattle.std.proofs.lemmas.List.Sums.{prefix_len-le-length}
use Rattle.std.proofs.lemmas.Simd.{leading_from_mask_l}
use Rattle.fancy_regex_stops.specs.Gaps.{is_zero, is_more}
use Rattle.fancy_regex_stops.proofs.LaneLemmas.{lowest_zero}
use Rattle.fancy_regex_stops.proofs.lanes.lanes_to_zero.Goals as goal

pub returns-then-zeros-eq0-clause-count : goal.returns-then-zeros-eq0-clause-count
returns-then-zeros-eq0-clause-count c =
    sym (leading_from_mask_l is_zero c.args.lanes (sym c.zeros_of-zeros.ensures ∙ c.if-zeros-eq0.true) ∙ c.fits-lanes.0)

pub returns-clause-count : goal.returns-clause-count
returns-clause-count c = lowest_zero c.args.lanes c.zeros_of-zeros.result c.fits-lanes.0 c.zeros_of-zeros.ensures c.if-zeros-eq0.false

pub returns-clause-most : goal.returns-clause-most
returns-clause-most c =
    omega (
      arith,
      lowest_zero c.args.lanes c.zeros_of-zeros.result c.fits-lanes.0 c.zeros_of-zeros.ensures c.if-zeros-eq0.false,
      prefix_len-le-length is_more c.args.lanes,
      c.fits-lanes.0,
    )
