pub mod Drawings
pub mod Plans
pub mod Promises
pub mod Standing
