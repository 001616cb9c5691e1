pub mod EscapeParsing
pub mod EscapeReading
pub mod LiteralWays
pub mod OccurrenceLemmas
pub mod PlainItems
pub mod PlainReplacementLemmas
pub mod PlainSearchLemmas
