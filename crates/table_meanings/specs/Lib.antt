pub mod Meanings
pub mod Entries
pub mod Tables
pub mod Sequences
pub mod Texts
pub mod Worked
