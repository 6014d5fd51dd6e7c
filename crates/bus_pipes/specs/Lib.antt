pub mod Held
pub mod Pipes
pub mod Watch
pub mod Delivery
pub mod Counted
pub mod Lending
