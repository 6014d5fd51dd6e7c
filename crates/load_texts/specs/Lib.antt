pub mod Headers
pub mod Addresses
pub mod Loaded
pub mod Loads
pub mod Examples
