pub mod MaskFacts
pub mod ReplayFacts
pub mod SelectionFacts
pub mod StaticFacts
