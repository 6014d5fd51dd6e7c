pub mod Filters
pub mod HangingPlans
pub mod Leaving
pub mod Seats
pub mod Rounds
