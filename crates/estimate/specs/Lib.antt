pub mod Estimates
pub mod Greater
