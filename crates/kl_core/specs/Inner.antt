-- What models and private contracts alone cite.
pub mod Keeping
pub mod Bars
pub mod Closing
pub mod Failing
pub mod Handing
