-- What private contracts and models alone cite.
pub mod Borrowed
pub mod Rooms
