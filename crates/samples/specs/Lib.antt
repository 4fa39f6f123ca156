pub mod Samples
pub mod Beside
pub mod Worked
