pub mod Laws
pub mod Following
pub mod Numbers
pub mod Passed
pub mod Cleared
