-- The laws that the proofs of this crate cite, and its theorems (Named, Sound).
pub mod Bytes
pub mod Found
pub mod Header
pub mod Lines
pub mod Named
pub mod Sound
