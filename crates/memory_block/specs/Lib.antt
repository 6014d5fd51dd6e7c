pub mod Splice
pub mod Ownership
pub mod Lends
pub mod Zeros
pub mod Parts
