pub mod Range
pub mod Assigned
pub mod Ways
