pub mod Watching
pub mod Deciding
pub mod Room
pub mod Demands
