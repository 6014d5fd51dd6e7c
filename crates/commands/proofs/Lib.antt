pub mod Tallies
pub mod Answering
pub mod Heard
pub mod Plain
pub mod Lengths
