pub mod Wakeups
pub mod Landing
