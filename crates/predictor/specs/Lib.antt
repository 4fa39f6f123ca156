pub mod Schur
pub mod StepUp
pub mod Filter
