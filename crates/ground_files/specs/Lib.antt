pub mod Ends
pub mod Workspaces
pub mod Memory
pub mod Inputs
pub mod Verbs
