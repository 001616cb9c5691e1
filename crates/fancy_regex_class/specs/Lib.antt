pub mod Looks
pub mod Classes
pub mod Matchers
pub mod RunInputs
pub mod RangeBits
pub mod Bitmaps
