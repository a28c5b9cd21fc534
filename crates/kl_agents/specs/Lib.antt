pub mod Steps
pub mod Picking
pub mod Reached
pub mod Settling
pub mod Failing
