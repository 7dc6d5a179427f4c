pub mod Changes
pub mod First
pub mod Full
pub mod Made
pub mod Order
pub mod Stands
pub mod Steps
pub mod Tree
