pub mod Activated
pub mod Answering
pub mod Counted
pub mod Filling
pub mod Keeping
pub mod Listing
pub mod Members
pub mod Names
