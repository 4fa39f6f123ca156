pub mod Line
pub mod Run
pub mod Orders
pub mod Named
pub mod Hears
pub mod Laws
pub mod Fed
pub mod Worked
