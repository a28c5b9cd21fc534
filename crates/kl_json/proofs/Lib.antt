pub mod TreeFacts
