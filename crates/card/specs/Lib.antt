pub mod Called
pub mod Card
pub mod Result
pub mod History
pub mod Asked
pub mod Instances
