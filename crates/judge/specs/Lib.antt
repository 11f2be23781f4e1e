pub mod Judging
pub mod Clear
