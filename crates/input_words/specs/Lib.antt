pub mod Inputs
pub mod Counters
pub mod Worked
pub mod Holds
