pub mod Tests
pub mod Points
pub mod PointLaws
pub mod Grid
pub mod GridLaws
pub mod Step
pub mod StepLaws
pub mod Drawn
