pub mod Whole
pub mod Report
pub mod Fed
pub mod Hears
pub mod Laws
pub mod Asked
pub mod Worked
