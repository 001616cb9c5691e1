pub mod Gaps
pub mod StopLanes
pub mod Stops
