pub mod Built
pub mod Manifests
pub mod Placed
