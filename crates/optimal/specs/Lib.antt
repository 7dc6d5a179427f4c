pub mod Drawing
pub mod Counting
pub mod Theorems
