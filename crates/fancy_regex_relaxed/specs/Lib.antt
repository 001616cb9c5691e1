pub mod Relaxed
pub mod Skips
