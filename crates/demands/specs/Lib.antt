pub mod Distance
pub mod Demands
pub mod Worked
pub mod Sums
pub mod Idle
pub mod Covered
pub mod Case
