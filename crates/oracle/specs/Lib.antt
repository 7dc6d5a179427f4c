pub mod Costs
pub mod Sets
pub mod Questions
pub mod Answers
