pub mod Events
pub mod Refusals
pub mod Tables
