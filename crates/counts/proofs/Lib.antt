pub mod Adds
pub mod Room
