pub mod RowLemmas
pub mod PartLemmas
pub mod PatternLemmas
pub mod Below
pub mod All
