pub mod Places
pub mod Memory
