pub mod Used
pub mod Dwelling
pub mod Commands
pub mod Watched
pub mod Names
pub mod Ranges
pub mod Warned
