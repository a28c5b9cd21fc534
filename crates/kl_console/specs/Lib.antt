pub mod Calls
pub mod Lines
pub mod Script
pub mod Run
pub mod Unique
pub mod Complete
pub mod Inner
