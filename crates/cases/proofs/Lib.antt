pub mod Sound
pub mod Holding
pub mod Computed
