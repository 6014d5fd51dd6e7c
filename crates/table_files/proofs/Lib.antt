pub mod Names
pub mod Accepted
pub mod Lists
pub mod Entries
