use Rattle.std.proofs.Common.{◌∙◌}
use Rattle.std.proofs.lemmas.Simd.{zip2_of_maps}
use Rattle.fancy_regex_stops.specs.Gaps.{lesser, limit_gap, gap_of}
use Rattle.fancy_regex_stops.proofs.stop_lanes.single_gaps.Goals as goal

pub returns : goal.returns
returns c limit range all bounds =
    c.least.ensures
    ∙ zip2_of_maps lesser (limit_gap limit) (gap_of range) c.args.lanes (c.limit_gaps.ensures limit all) (c.gaps.ensures range bounds)
