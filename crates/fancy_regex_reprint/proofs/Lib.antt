pub mod ClassNodes
pub mod PrintedLevels
