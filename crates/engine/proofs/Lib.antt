pub mod Parts
pub mod Ready
pub mod Taking
pub mod Starting
pub mod Numbers
pub mod Unique
