pub mod Written
pub mod Same
pub mod Frames
pub mod Compared
pub mod Differences
