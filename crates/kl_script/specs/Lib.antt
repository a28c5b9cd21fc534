pub mod Words
pub mod Digits
pub mod Statics
pub mod Deliveries
pub mod Commands
