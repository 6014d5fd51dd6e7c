pub mod Telling
pub mod Woven
pub mod Appended
pub mod Kept
pub mod Noted
pub mod Surveys
