use Rattle.std.proofs.Common.{◌≡◌, ◌∙◌, ℕ, List, ap, map}
use Rattle.std.specs.Simd.Lanes.{zip2}
use Rattle.std.proofs.lemmas.Simd.{zip2_of_maps, splat_is_map, zip2_splat}
use Rattle.fancy_regex_stops.specs.Gaps.{wrapped, lesser}
use Rattle.fancy_regex_stops.proofs.stop_lanes.RangeLanes.gaps.Goals as goal

pub returns : goal.returns
returns c range bounds =
    let vs : List ℕ = c.args.lanes in
    let past = λ (x : ℕ). wrapped x range.low in
    let one : c.minus-past.result ≡ map past vs =
    c.minus-past.ensures ∙ ap (zip2 wrapped vs) bounds.low ∙ zip2_splat wrapped vs 16 range.low c.fits-lanes.0 in
    let two = c.least.ensures ∙ zip2_of_maps lesser past (λ (_ : ℕ). range.width) vs one (bounds.width ∙ splat_is_map vs 16 range.width c.fits-lanes.0) in
    c.minus.ensures ∙ zip2_of_maps wrapped past (λ (x : ℕ). lesser (past x) range.width) vs one two
