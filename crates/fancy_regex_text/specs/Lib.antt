pub mod Text
pub mod ParseFault
pub mod Layout
pub mod LayoutStates
pub mod Names
pub mod LayoutExamples
pub mod NameExamples
pub mod FaultOnly
