pub mod Silences
pub mod Greaters
