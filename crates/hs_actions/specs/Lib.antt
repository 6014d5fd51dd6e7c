pub mod Happenings
pub mod Outcomes
pub mod Messages
pub mod Answers
pub mod State
pub mod Performs
pub mod Rows
