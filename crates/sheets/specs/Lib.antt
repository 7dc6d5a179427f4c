pub mod Sheets
pub mod Trials
pub mod Pages
