pub mod Runs
pub mod Crowds
pub mod Rows
pub mod RunLaws
