pub mod Averages
pub mod Quarters
