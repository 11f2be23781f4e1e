-- What the contracts of `pipes` cite.
pub mod Counts
pub mod Outputs
