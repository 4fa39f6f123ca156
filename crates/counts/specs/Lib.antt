pub mod Counts
pub mod Worked
