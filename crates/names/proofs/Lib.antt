pub mod Classes
pub mod Finding
pub mod Listing
pub mod Naming
pub mod Seeking
pub mod Spelling
pub mod Table
