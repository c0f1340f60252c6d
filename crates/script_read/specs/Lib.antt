pub mod Regions
pub mod Drawing
pub mod State
pub mod Commands
pub mod Reading
pub mod InnerReading
pub mod InnerKnows
