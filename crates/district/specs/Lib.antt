pub mod Bounds
pub mod Model
