pub mod Measured
pub mod Replay
pub mod Values
pub mod Statics
