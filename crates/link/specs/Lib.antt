pub mod Words
pub mod Linked
