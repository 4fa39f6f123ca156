pub mod Order
pub mod Range
pub mod Worth
