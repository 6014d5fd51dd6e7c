pub mod Parts
pub mod Cooldowns
pub mod Entries
pub mod Paths
pub mod Series
pub mod Counted
pub mod Cooling
