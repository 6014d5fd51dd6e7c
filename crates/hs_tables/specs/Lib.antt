pub mod Names
pub mod Apps
pub mod Events
pub mod Counters
pub mod Actions
pub mod Rows
