pub mod Entries
pub mod Lines
pub mod Texts
pub mod Inner
