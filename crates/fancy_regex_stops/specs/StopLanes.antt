-- Stops with each number in all lanes of a vector.
use Rattle.std.specs.Prelude.{◌≡◌, ℕ, List, replicate}
use Rattle.fancy_regex_stops.specs.declared.byte_range.ByteRange.{ByteRange}
use Rattle.fancy_regex_stops.specs.declared.stop_lanes.RangeLanes.{RangeLanes}
use Rattle.fancy_regex_stops.specs.declared.stop_lanes.StopLanes.{StopLanes}
use Rattle.fancy_regex_stops.specs.declared.stops.Stops.{Stops}

-- each lane has this number
abbrev pub AreAll : ℕ → List ℕ → Type 0
AreAll number lanes = lanes ≡ replicate 16 number

-- the bounds of this range
pub record AreBounds (range : ByteRange) (lanes : RangeLanes) : Type 0 where
  pub low : AreAll range.low lanes.low
  pub width : AreAll range.width lanes.width

-- the numbers of these stops
pub record AreNumbers (stops : Stops) (lanes : StopLanes) : Type 0 where
  pub first : AreBounds stops.first lanes.first
  pub second : AreBounds stops.second lanes.second
  pub third : AreBounds stops.third lanes.third
  pub limit : AreAll stops.limit lanes.limit
