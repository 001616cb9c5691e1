pub mod CharTests
pub mod First
pub mod Before
pub mod Attempts
