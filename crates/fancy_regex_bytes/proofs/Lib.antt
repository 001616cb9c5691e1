pub mod ByteSetLemmas
pub mod CharacterLemmas
pub mod StartLemmas
pub mod RequiredLemmas
pub mod KeptStartLaw
pub mod StartLaw
pub mod RequiredLaw
pub mod InOrderLemmas
