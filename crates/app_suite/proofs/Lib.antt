pub mod Health
pub mod Taking
pub mod Activating
pub mod Choosing
