pub mod GroupCounts
pub mod WellFormedProofs
