pub mod Counting
pub mod Splitting
