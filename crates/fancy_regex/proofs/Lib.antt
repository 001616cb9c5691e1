pub mod Reprinting
pub mod InOrderLemmas
pub mod ByteSetProofs
pub mod SetMemberLemmas
pub mod SetPositionLemmas
pub mod SetOneLemmas
pub mod SetBuildLemmas
pub mod SetSearchLemmas
pub mod SetLimitLemmas
pub mod SetStartLemmas
pub mod NextMemberLemmas
pub mod TextMatchLemmas
pub mod SearchErrorLemmas
pub mod ReplacedLemmas
-- what proofs above cite of the lemmas of the crates below, under this crate's name
pub use Rattle.fancy_regex_search.proofs.IterationLemmas
pub use Rattle.fancy_regex_search.proofs.IterationProgress
