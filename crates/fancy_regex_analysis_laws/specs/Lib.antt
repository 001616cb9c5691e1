pub mod WellFormedTrees
