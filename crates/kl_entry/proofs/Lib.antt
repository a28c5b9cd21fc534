pub mod Pieces
pub mod Cuts
pub mod Hexadecimal
pub mod Parts
pub mod Spelling
pub mod FirstFailing
