pub mod Activations
pub mod Answers
pub mod Asking
pub mod Calls
pub mod Counts
pub mod Inner
pub mod Records
pub mod Texts
