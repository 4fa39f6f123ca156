pub mod Pointers
pub mod Stored
pub mod Quarters
pub mod Kept
