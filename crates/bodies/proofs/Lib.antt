pub mod Inside
pub mod Fits
