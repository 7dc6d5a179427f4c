pub mod Scopes
pub mod Sites
pub mod Replies
