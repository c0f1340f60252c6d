pub mod Power
pub mod Memory
pub mod MemoryLaws
