pub mod Areas
pub mod Wholes
pub mod Listed
pub mod Unused
