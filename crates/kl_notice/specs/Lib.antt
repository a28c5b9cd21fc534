pub mod Outbox
pub mod Texts
