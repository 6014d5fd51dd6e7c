mod Copies
pub mod Forms
pub mod NameForms
pub mod Checks
pub mod Folding
pub mod Digits
