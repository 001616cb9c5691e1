pub mod ByteSets
pub mod StartBytes
pub mod RequiredBytes
pub mod StartErrors
pub mod SkippableTrees
