pub mod Decoding
pub mod Loads
