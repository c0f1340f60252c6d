pub mod DigitLemmas
pub mod FindLemmas
pub mod LineLemmas
