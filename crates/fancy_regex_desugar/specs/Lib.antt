pub mod CorePatterns
pub mod Delegates
pub mod CoreWays
pub mod Thinned
pub mod Unfolded
pub mod ProgramSizes
pub mod Shapes
pub mod DesugarLaws
