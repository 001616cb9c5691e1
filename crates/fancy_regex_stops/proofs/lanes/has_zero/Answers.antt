use Rattle.std.proofs.Common.{◌∙◌, sym, arith}
use Rattle.std.proofs.lemmas.Bool.{ltb-false}
use Rattle.std.proofs.lemmas.Simd.{leading_from_mask_l}
use Rattle.fancy_regex_stops.specs.Gaps.{is_zero}
use Rattle.fancy_regex_stops.proofs.lanes.has_zero.Goals as goal

pub returns : goal.returns
returns c none =
    leading_from_mask_l is_zero c.args.lanes (sym c.zeros_of.ensures ∙ omega (arith, ltb-false 0 c.zeros_of.result none)) ∙ c.fits-lanes.0
