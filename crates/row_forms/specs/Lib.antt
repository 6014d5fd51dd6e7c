pub mod Words
pub mod Lists
pub mod Numbers
pub mod Values
pub mod Rows
pub mod RowNumbers
pub mod Worked
