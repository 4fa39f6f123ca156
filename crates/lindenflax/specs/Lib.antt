pub mod Run
pub mod Lines
