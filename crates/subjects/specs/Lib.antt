pub mod Plans
pub mod Boxes
pub mod Faults
pub mod Seats
pub mod Crowds
pub mod Calls
pub mod Worked
pub mod Own
