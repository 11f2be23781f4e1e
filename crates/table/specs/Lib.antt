pub mod File
pub mod Named
