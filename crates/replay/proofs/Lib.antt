pub mod Left
pub mod Trying
