pub mod Shelf
pub mod Free
pub mod FreeLaws
