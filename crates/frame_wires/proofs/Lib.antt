pub mod Offers
pub mod Stamping
pub mod Lines
pub mod Upsets
pub mod Handing
