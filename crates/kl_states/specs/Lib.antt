pub mod Ends
pub mod Names
pub mod Ops
pub mod Texts
