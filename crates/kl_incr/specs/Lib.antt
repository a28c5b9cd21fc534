pub mod Kept
pub mod Appraisal
