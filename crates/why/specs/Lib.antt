pub mod Why
pub mod Explained
pub mod Explain
pub mod Fits
pub mod Asked
pub mod Worked
pub mod Result
