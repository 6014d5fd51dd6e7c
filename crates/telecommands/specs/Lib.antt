pub mod Commands
pub mod Dictionary
pub mod Examples
