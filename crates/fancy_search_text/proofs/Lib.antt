pub mod DigitLemmas
pub mod LineLemmas
pub mod MemberLemmas
pub mod PieceLemmas
pub mod PrintedLemmas
pub mod SpanLemmas
