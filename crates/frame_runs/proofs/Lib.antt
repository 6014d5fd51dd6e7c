pub mod Frames
pub mod Calling
pub mod Obeying
