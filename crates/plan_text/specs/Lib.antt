pub mod Verbs
pub mod Lines
pub mod Plans
pub mod Items
pub mod Readings
pub mod Frames
pub mod Worked
