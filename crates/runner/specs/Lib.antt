pub mod Said
pub mod Run
pub mod Hears
pub mod Laws
pub mod Fed
pub mod Sentence
pub mod Worked
