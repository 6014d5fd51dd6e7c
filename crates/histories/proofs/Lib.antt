pub mod Along
pub mod Lasts
pub mod Fronts
pub mod Firsts
pub mod Entries
pub mod Masks
