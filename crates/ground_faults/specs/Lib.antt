pub mod Firsts
pub mod HeaderMaps
