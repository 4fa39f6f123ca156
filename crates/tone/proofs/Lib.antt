pub mod Largest
pub mod Halves
pub mod Small
pub mod Exact
