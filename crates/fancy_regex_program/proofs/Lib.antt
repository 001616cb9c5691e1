pub mod LazyLemmas
mod DelegateLemmas
mod PartCauses
mod ReadingLemmas
mod StartLemmas
pub mod BodyStartLemmas
mod EachOp
mod SpanLemmas
pub mod SpanPlaces
pub mod ValidCode
pub mod ValidSpans
pub mod Sending
pub mod WrittenParts
pub mod CodeParts
pub mod OpenCalls
pub mod WrittenOut
pub mod SameCode
pub mod Resolved
pub mod Stretches
pub mod KeptValid
pub mod PlacesApart
