pub mod Figures
pub mod Commands
