pub mod EndLemmas
pub mod Handles
pub mod ListLemmas
pub mod RowLemmas
pub mod RowSteps
pub mod SetLemmas
pub mod Values
