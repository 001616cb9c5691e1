pub mod RelaxedLemmas
pub mod ExtendedLemmas
pub mod StartLemmas
pub mod SkipLemmas
pub mod CopyLemmas
pub mod OtherLemmas
