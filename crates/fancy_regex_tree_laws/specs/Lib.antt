pub mod ParseBounds
pub mod ParsedNodes
pub mod References
pub mod ResolvedGroups
pub mod UncountedRepeats
pub mod WeightBounds
