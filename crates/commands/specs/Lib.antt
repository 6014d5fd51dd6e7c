pub mod Rows
pub mod Verdicts
pub mod Inputs
pub mod Counting
pub mod Answering
pub mod Machine
