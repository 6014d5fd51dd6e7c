pub mod Reasons
pub mod Told
