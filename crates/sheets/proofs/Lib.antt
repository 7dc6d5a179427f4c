pub mod Trying
pub mod Reporting
