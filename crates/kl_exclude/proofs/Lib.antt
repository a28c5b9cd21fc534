pub mod Beginnings
pub mod Compiles
pub mod Crosses
pub mod Engines
pub mod OneSearch
pub mod Trees
pub mod Walks
