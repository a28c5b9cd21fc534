pub mod Crosses
pub mod Decoding
pub mod DigestSets
pub mod Packing
pub mod Tables
