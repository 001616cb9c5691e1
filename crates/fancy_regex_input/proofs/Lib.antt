pub mod BoundaryLemmas
