pub mod Window
pub mod Autocorrelation
pub mod Coefficients
pub mod Pole
pub mod Gain
pub mod Tone
pub mod Worked
