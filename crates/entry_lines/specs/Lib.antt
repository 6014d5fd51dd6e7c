pub mod Words
pub mod Found
pub mod Commands
pub mod Worked
