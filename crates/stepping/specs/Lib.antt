pub mod Stepping
pub mod Extents
