pub mod Shelves
pub mod ShelvedBooks
pub mod Rehearsed
pub mod LeftByBooks
pub mod Worked
pub mod Beginnings
