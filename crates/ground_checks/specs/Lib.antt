pub mod Checked
pub mod Faults
pub mod Loading
pub mod Maps
