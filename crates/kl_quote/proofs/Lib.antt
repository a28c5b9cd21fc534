pub mod Colons
pub mod Encoding
pub mod Splitting
pub mod OneForm
