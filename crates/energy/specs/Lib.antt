pub mod Energy
pub mod Exact
