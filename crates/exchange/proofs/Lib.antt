pub mod Form
pub mod Steps
pub mod Calls
pub mod Orders
