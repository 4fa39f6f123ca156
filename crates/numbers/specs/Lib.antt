pub mod Floor
pub mod Clamp
pub mod Wrap
pub mod Sum
