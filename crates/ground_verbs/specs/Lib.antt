pub mod Said
pub mod Done
pub mod Followed
