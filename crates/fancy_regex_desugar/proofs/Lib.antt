pub mod ThinnedLemmas
pub mod DelegateProofs
pub mod LazyLemmas
pub mod WaysProofs
pub mod ChoiceProofs
pub mod ProgramSizeProofs
pub mod StepBackProofs
pub mod GroupProofs
