pub mod Kinds
pub mod Faults
pub mod Headers
pub mod Files
pub mod Entries
pub mod Rows
