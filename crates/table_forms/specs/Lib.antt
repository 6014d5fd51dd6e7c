pub mod Layouts
pub mod Names
pub mod Judging
pub mod Payloads
pub mod Headers
pub mod Reading
pub mod Examples
