pub mod Members
pub mod Reading
pub mod Reply
pub mod Texts
