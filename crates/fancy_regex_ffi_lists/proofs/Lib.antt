pub mod FrontLemmas
pub mod GroupLemmas
pub mod ListLemmas
pub mod MemberLemmas
pub mod MixedLemmas
pub mod NameLemmas
