pub mod LogLemmas
pub mod RowLemmas
pub mod ShortenLemmas
