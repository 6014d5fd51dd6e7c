pub mod Captures
pub mod Worked
