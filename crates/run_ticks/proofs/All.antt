-- The lemmas that the proofs of crates above use.
pub use Rattle.run_ticks.proofs.CountLemmas.{quiet_one, quiet_still}
pub use Rattle.run_ticks.proofs.TickLemmas.{ticked_call, ticked_counted, ticked_first, ticked_orders, ticked_proceed, ticked_tick}
pub use Rattle.run_ticks.proofs.TimelyLemmas.{timely_none, timely_other, timely_tick}
