pub mod Lines
pub mod Members
pub mod Printed
pub mod Spans
