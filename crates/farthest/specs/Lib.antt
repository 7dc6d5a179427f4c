pub mod Trials
pub mod Distances
pub mod Memories
