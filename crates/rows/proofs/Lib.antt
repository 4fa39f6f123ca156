pub mod Choice
pub mod Fill
pub mod All
pub mod Sum
pub mod Tail
pub mod Plain
pub mod Lag
pub mod Made
