pub mod Wide
pub mod Shift
pub mod Normal
pub mod Laws
pub mod Top
pub mod Exact
pub mod Lift
