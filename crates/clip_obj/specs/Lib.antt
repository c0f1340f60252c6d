pub mod Order
pub mod OrderLaws
pub mod Clip
pub mod ClipLaws
pub mod Complexity
pub mod InnerBand
