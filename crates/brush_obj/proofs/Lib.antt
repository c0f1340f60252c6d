pub mod RowLemmas
pub mod WrapLemmas
pub mod BrushLemmas
pub mod SlotLemmas
pub mod MoveLemmas
