pub mod NormalFormLaws
pub mod ReprintLaws
pub mod PrintedParts
