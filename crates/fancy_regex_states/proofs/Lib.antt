pub mod FirstLemmas
pub mod BeforeLemmas
pub mod SecondLemmas
