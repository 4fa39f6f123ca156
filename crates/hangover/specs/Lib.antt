pub mod Hangover
pub mod Bursts
pub mod Sentence
