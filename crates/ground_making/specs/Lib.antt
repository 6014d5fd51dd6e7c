pub mod Made
pub mod Refused
pub mod Causes
pub mod Named
pub mod MadeFiles
pub mod ShownFiles
