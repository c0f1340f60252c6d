pub mod Classes
pub mod State
pub mod Port
pub mod Given
pub mod Laws
