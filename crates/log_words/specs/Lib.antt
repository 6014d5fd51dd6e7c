pub mod Sentences
pub mod Worked
