pub mod AheadLemmas
pub mod BackrefLemmas
pub mod BoundaryLemmas
pub mod CharLoops
pub mod RepeatedCharacterLemmas
pub mod FailingPlaces
pub mod FirstBytes
pub mod RefusalLemmas
pub mod FailingStarts
pub mod StartsInRow
pub mod LookBehindStarts
pub mod NewlineLemmas
mod PlaceRanges
pub mod StartLemmas
pub mod PlannedStarts
pub mod LeadingLoopLemmas
pub mod TextLemmas
pub mod WalkLemmas
mod WalkChoiceLemmas
pub mod RunLemmas
