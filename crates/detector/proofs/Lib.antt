pub mod Result
pub mod Table
pub mod Keeps
pub mod Frames
pub mod Run
pub mod Sentence
pub mod Silence
pub mod Flags
