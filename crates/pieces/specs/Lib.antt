pub mod Lines
pub mod Cut
pub mod Pieces
pub mod Put
pub mod Calls
