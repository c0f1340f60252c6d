pub mod Policies
pub mod State
pub mod Answers
