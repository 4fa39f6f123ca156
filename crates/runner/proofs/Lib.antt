pub mod Steps
pub mod Replies
pub mod Calls
pub mod Sentence
pub mod Instances
