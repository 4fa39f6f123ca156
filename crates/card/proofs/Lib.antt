pub mod Orders
pub mod Shared
pub mod Histories
pub mod Asked
pub mod Results
