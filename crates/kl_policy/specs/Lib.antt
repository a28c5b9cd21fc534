pub mod Flat
pub mod Json
pub mod Policy
pub mod PolicyFields
pub mod Texts
pub mod Inner
pub mod Reading
pub mod Making
