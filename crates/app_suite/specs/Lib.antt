pub mod Wakes
pub mod Applications
pub mod Landable
pub mod Holding
pub mod Turns
pub mod Jobs
pub mod Activations
pub mod Beginnings
