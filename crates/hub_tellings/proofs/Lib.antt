pub mod RowLemmas
pub mod Below
pub mod All
