pub mod Compiled
pub mod Excludes
pub mod Inner
pub mod Making
pub mod Texts
pub mod Told
