pub mod Pattern
pub mod Bytes
pub mod Frame
pub mod Beside
