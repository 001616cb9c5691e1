pub mod Quantifiers
pub mod Patterns
pub mod Faults
pub mod Shapes
pub mod GrammarLaws
