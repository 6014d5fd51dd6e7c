pub mod Shelves
pub mod Sinks
