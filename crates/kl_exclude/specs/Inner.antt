-- What private contracts and models alone cite.
pub mod Compiling
pub mod Joined
pub mod Searches
