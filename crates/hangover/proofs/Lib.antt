pub mod Kept
pub mod Bursts
pub mod Sentence
pub mod Instances
