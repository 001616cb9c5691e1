pub mod Choices
pub mod Fronts
pub mod Groups
pub mod Lists
pub mod Mixed
pub mod Names
pub mod Spans
pub mod Tables
