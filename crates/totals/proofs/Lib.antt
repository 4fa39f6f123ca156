pub mod Limit
pub mod Reports
pub mod Calls
pub mod Heard
