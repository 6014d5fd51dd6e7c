pub mod Stamps
pub mod Blocks
pub mod Cuts
mod HexTexts
pub mod LineEnds
