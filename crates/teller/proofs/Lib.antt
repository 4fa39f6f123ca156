pub mod Decimal
pub mod Puts
pub mod Texts
pub mod Steps
pub mod Calls
pub mod Frames
