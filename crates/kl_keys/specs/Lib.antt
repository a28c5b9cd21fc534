pub mod Hmac
pub mod Mac
pub mod Relations
pub mod Tags
pub mod Told
pub mod Xor
