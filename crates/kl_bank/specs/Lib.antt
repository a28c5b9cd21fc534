pub mod Banks
pub mod Padded
pub mod Hashing
