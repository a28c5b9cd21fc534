-- What models and private contracts alone cite.
pub mod Naming
pub mod Tickets
pub mod Stopping
pub mod Closed
pub mod Registrars
