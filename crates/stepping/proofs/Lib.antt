pub mod Kept
pub mod Whole
pub mod Taken
pub mod Crowded
pub mod Ends
