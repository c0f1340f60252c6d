pub mod NameLemmas
pub mod RectLemmas
