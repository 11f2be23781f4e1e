pub mod Bytes
pub mod Names
pub mod Tags
pub mod Streams
pub mod Feeding
pub mod Reading
pub mod Writing
pub mod Faults
