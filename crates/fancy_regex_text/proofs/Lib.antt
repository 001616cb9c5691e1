pub mod TextLemmas
pub mod SpanLemmas
pub mod LayoutLemmas
pub mod Computing
pub mod LayoutExamplesProof
pub mod NameExamplesProof
