-- What private contracts and models alone cite.
pub mod Filling
pub mod JsonParts
