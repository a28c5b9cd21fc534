-- What contracts of private functions cite. No public clause does, so nobody has to believe it.
pub mod Reading
pub mod Seen
