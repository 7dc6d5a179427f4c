pub mod Words
pub mod Numbers
pub mod Left
pub mod Reading
