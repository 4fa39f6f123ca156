pub mod Remainder
pub mod Range
