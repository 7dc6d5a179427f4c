pub mod Answers
pub mod Desks
pub mod Drawing
pub mod Planning
pub mod Promise
