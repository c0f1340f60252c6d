pub mod Counts
pub mod Sources
pub mod Sinks
pub mod SinkLaws
pub mod MemSources
pub mod MemSinks
pub mod StdSources
pub mod StdSinks
