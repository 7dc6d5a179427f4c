pub mod Tools
pub mod Attempts
pub mod Requests
