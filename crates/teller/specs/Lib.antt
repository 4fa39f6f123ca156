pub mod Decimal
pub mod Words
pub mod Told
pub mod Run
pub mod Frames
pub mod Laws
pub mod Fed
