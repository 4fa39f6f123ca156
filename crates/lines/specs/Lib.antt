pub mod Hex
pub mod Line
pub mod Answers
pub mod Frames
pub mod Worked
