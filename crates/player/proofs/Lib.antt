pub mod Steps
pub mod Piece
pub mod Room
pub mod Calls
