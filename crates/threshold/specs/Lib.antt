pub mod Threshold
pub mod Ways
