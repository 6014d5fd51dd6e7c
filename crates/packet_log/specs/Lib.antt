pub mod Lines
pub mod Counts
pub mod Standing
pub mod Items
pub mod Sent
pub mod Blocks
pub mod Summaries
pub mod Logged
