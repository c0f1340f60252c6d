pub mod Names
pub mod Fields
pub mod FieldLaws
pub mod Tails
