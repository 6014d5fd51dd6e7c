pub mod Endings
pub mod Rehearsing
pub mod DraftSinks
pub mod Refusals
pub mod KeptLogs
pub mod AskedWords
pub mod EpochLaws
