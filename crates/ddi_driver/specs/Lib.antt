pub mod Kept
pub mod Modes
pub mod Enabling
pub mod Bitmaps
pub mod Slots
pub mod Stats
pub mod Hook
pub mod HookLaws
