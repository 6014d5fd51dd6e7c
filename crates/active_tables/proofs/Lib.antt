pub mod Files
pub mod GivenTables
