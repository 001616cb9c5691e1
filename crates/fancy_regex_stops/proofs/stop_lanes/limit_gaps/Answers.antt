use Rattle.std.proofs.Common.{◌∙◌, ℕ, List, ap}
use Rattle.std.specs.Simd.Lanes.{zip2}
use Rattle.std.proofs.lemmas.Simd.{zip2_of_maps, splat_is_map, zip2_splat}
use Rattle.fancy_regex_stops.specs.Gaps.{wrapped, lesser}
use Rattle.fancy_regex_stops.proofs.stop_lanes.limit_gaps.Goals as goal

pub returns : goal.returns
returns c limit all =
    let vs : List ℕ = c.args.lanes in
    let one = c.least.ensures ∙ ap (zip2 lesser vs) all ∙ zip2_splat lesser vs 16 limit c.fits-lanes.0 in
    c.minus.ensures ∙ zip2_of_maps wrapped (λ (_ : ℕ). limit) (λ (x : ℕ). lesser x limit) vs (all ∙ splat_is_map vs 16 limit c.fits-lanes.0) one
