pub mod Limits
pub mod Rows
pub mod Asked
pub mod Places
pub mod PlaceLaws
pub mod Live
