pub mod Levels
pub mod Feeding
pub mod Cursors
pub mod Writers
