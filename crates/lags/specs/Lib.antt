pub mod Lags
pub mod Worked
