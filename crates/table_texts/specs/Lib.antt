pub mod Lines
pub mod Endings
pub mod Fronts
pub mod Entries
pub mod Shown
pub mod Sequences
