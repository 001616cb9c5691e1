use Rattle.std.proofs.Common.{◌∙◌, ℕ, List}
use Rattle.std.proofs.lemmas.Simd.{zip2_of_maps}
use Rattle.fancy_regex_stops.specs.Gaps.{lesser, limit_gap, gap_of}
use Rattle.fancy_regex_stops.proofs.stop_lanes.StopLanes.gaps.Goals as goal

pub returns : goal.returns
returns c stops numbers =
    let vs : List ℕ = c.args.lanes in
    let one = c.single_gaps-first.ensures stops.limit stops.first numbers.limit numbers.first in
    let two = c.least-second.ensures
    ∙ zip2_of_maps lesser (λ (x : ℕ). lesser (limit_gap stops.limit x) (gap_of stops.first x)) (gap_of stops.second) vs one (c.gaps.ensures stops.second numbers.second) in
    c.least.ensures
    ∙ zip2_of_maps lesser (λ (x : ℕ). lesser (lesser (limit_gap stops.limit x) (gap_of stops.first x)) (gap_of stops.second x)) (gap_of stops.third) vs two
    (c.gaps-2.ensures stops.third numbers.third)
