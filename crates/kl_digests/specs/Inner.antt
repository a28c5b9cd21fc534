-- What private contracts and models alone cite.
pub mod Packed
pub mod Table
