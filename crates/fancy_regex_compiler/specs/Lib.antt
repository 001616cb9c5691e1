pub mod Known
pub mod Writing
pub mod Groups
pub mod CalledTexts
pub mod Opened
pub mod Rooms
pub mod Extents
pub mod Inlined
pub mod Needs
pub mod Refusals
pub mod Tasks
pub mod Tails
pub mod Kept
pub mod Written
-- the program that a pattern compiles to
pub use Rattle.fancy_regex_compiled.specs.Programs
pub use Rattle.fancy_regex_compiled.specs.declared.prog.Prog
