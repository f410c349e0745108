pub mod CountLemmas
pub mod TimelyLemmas
pub mod NoteLemmas
pub mod TickLemmas
pub mod Below
pub mod All
