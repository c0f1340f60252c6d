pub mod TurnLemmas
pub mod OrderLemmas
pub mod WithinLemmas
pub mod BatchLemmas
pub mod BandLemmas
pub mod MovedLemmas
pub mod SameLemmas
