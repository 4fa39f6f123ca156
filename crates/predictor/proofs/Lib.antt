pub mod Turns
pub mod Predictor
pub mod StepUp
pub mod Autocorrelation
pub mod Bounds
pub mod Division
