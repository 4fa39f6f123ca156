pub mod Operations
pub mod Worked
