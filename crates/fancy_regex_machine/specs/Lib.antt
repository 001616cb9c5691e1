pub mod Allowances
pub mod Moves
pub mod Advances
pub mod Endings
pub mod RunArguments
pub mod MachineLimits
pub mod SearchAnswers
pub mod RunAnswers
-- what a run needs of a program, and where an attempt may start
pub use Rattle.fancy_regex_program_laws.specs.ProgramLaws
pub use Rattle.fancy_regex_prefilter.specs.RunContexts
-- why a run gives no answer
pub use Rattle.fancy_regex_ahead.specs.declared.error.RuntimeError
