pub mod Memory
pub mod Port
pub mod Rows
pub mod Calls
