pub mod Spelling
pub mod Unsealing
pub mod Xor
