pub mod KeptFrames
pub mod Shown
pub mod Worked
