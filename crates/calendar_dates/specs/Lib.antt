pub mod Calendar
pub mod Instants
