pub mod Words
pub mod Zeros
pub mod Sets
pub mod Rows
pub mod Good
pub mod Labels
