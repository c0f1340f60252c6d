pub mod ScriptLemmas
pub mod KnowsLemmas
pub mod ThereLemmas
pub mod MeaningLemmas
pub mod RegionLemmas
pub mod OperandLemmas
pub mod VerbLemmas
