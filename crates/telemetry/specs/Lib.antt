pub mod Telemetry
pub mod Dictionary
pub mod Examples
