pub mod Parted
pub mod Lossless
pub mod Answers
pub mod Rounds
pub mod Lines
pub mod LineTrip
pub mod Turns
