pub mod Sharing
pub mod Runs
pub mod Parts
