pub mod Digests
pub mod Inner
