pub mod Making
pub mod Told
pub mod Coming
