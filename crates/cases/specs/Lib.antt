pub mod Case
pub mod Listed
