use Rattle.std.proofs.Common.{◌∙◌, ◌+◌, ap, ap₂, sym, arith, map, slice_index_or}
use Rattle.std.specs.Simd.Lanes.{zip2}
use Rattle.fancy_regex_stops.specs.Gaps.{gap_in, limit_gap, lesser, greater, pair_gap}
use Rattle.fancy_regex_stops.proofs.LaneLemmas.{more_in_load, more_in_loads, of_maps, pair_of}
use Rattle.fancy_regex_stops.proofs.stop_lanes.StopLanes.pairs_at.Goals as goal

pub returns-then-not-has_zero-clause-passed : goal.returns-then-not-has_zero-clause-passed
returns-then-not-has_zero-clause-passed c stops others numbers more i low high =
    pair_of stops others (slice_index_or c.args.bytes.now i 0) (slice_index_or c.args.bytes.now (i + 1) 0)
    ((more_in_load (gap_in stops) c.args.bytes.now c.args.at c.gaps-gaps.result 16 (omega (arith, c.requires))
    (c.gaps-gaps.ensures stops numbers ∙ ap (map (gap_in stops)) c.load-lanes.ensures) (sym (c.has_zero.ensures c.if-not-has_zero.true))).1 i low high)

pub returns-clause-passed : goal.returns-clause-passed
returns-clause-passed c stops others numbers more =
    (more_in_loads (pair_gap stops others) c.args.bytes.now c.args.at c.least.result c.lanes_to_zero.result c.requires
    (c.least.ensures ∙ ap₂ (zip2 lesser) (c.limit_gaps.ensures stops.limit numbers.limit)
    (c.greatest-either.ensures ∙ ap₂ (zip2 greater) (c.gaps-gaps.ensures stops numbers) (c.gaps.ensures others more))
    ∙ of_maps lesser greater (limit_gap stops.limit) (gap_in stops) (gap_in others) c.load-lanes.result c.load.result
    ∙ ap₂ (zip2 (pair_gap stops others)) c.load-lanes.ensures c.load.ensures) c.lanes_to_zero.ensures.count).1
