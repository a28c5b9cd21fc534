pub mod QuoteFacts
pub mod ListFacts
pub mod WalkFacts
pub mod GenuineFacts
pub mod OutcomeFacts
pub mod OneOutcome
pub mod Crosses
