pub mod EscapeLaws
pub mod Literals
pub mod Occurrences
pub mod PlainReplacement
pub mod PlainSearch
