-- What the command `made` did: the summary of a run of the schedule that a seed makes.
use Rattle.std.specs.Prelude.{◌≡◌, ◌+◌, ℕ, List, Option, Bool, true, false, length, map}
use Rattle.std.specs.List.{list_any}
use Rattle.ws_kinds.specs.ConfigValue.{usual_config}
use Rattle.ws_kinds.specs.NoteValue.{NoteValue}
use Rattle.wire_meaning.specs.Answer.{all_spelled}
use Rattle.mem_net.specs.MemNet.{MemNetState, net_state}
use Rattle.schedule_text.specs.Output.{WritesText}
use Rattle.bus_handler.specs.Bus.{routes_of_bus}
use Rattle.made_schedule.specs.Made.{made_acts}
use Rattle.made_life.specs.Life.{is_drop, is_message, is_want, room}
use Rattle.made_schedule.specs.Summary.{summary_line}
use Rattle.made_schedule.specs.declared.summary.Summary.{Summary}
use Rattle.run_meaning.specs.Counts.{accepted_by, gather, is_accepted, is_gone_in, number_of, total}
use Rattle.run_meaning.specs.Lines.{plain}
use Rattle.run_meaning.specs.Notes.{is_turn}
use Rattle.run_meaning.specs.Replies.{AreReplies}
use Rattle.ws_program.specs.BusServer.{bus_server}
use Rattle.ws_program.specs.Replayed.{IsRunOf}
use Rattle.ws_program.specs.declared.made.Counted.{Counted}
use Rattle.ws_program.specs.declared.made.Counted.TheVariants.{Turns, Messages, Drops}
use Rattle.ws_program.specs.declared.made.Sums.{Sums}
use Rattle.ws_program.specs.declared.status.Status.{Status}
use Rattle.ws_program.specs.declared.status.Status.TheVariants.{Done, WriteFault, OutOfMemory}

-- the sum of a number of each connection that was accepted
abbrev pub over_accepted : (ℕ → ℕ) → List NoteValue → ℕ
over_accepted number notes = total (map number (gather accepted_by notes))

-- It counts these notes, what the links took, and the items of each connection.
pub record Counts (notes : List NoteValue) (taken : ℕ → List ℕ) (items_of : ℕ → ℕ) (summary : Summary) : Type 0 where
  pub turns : summary.turns ≡ number_of is_turn notes
  pub connections : summary.connections ≡ length (gather accepted_by notes)
  pub messages : summary.messages ≡ number_of is_message notes
  pub items : summary.items ≡ over_accepted items_of notes
  pub octets : summary.octets ≡ over_accepted (λ conn. length (taken conn)) notes
  pub dropped : summary.dropped ≡ number_of is_drop notes
  pub sum : summary.sum ≡ over_accepted (λ conn. total (taken conn)) notes

-- It is the summary of a run of the schedule that the seed makes, with the usual configuration, of which 502 turns ended. Nothing was
-- dropped, as the links take any number of octets.
pub record IsSummary (admits : List ℕ → Bool) (seed : ℕ) (summary : Summary) : Type 0 where
  pub notes : List NoteValue
  pub net : MemNetState
  pub held : ℕ → List ℕ
  pub run : IsRunOf admits usual_config routes_of_bus (made_acts seed) notes net held
  -- with whatever texts of replies that agree with the judging
  pub counts : (replies : ℕ → List ℕ) → AreReplies routes_of_bus notes (net_state net).given replies
      → Counts notes (net_state net).taken (λ conn. length (plain (bus_server admits replies) notes conn)) summary
  -- no connection that was accepted is gone
  pub all_stay : (conn : ℕ) → is_accepted conn notes ≡ true → is_gone_in conn notes ≡ false
  -- each link took exactly the items of its connection
  pub all_taken : (replies : ℕ → List ℕ) → AreReplies routes_of_bus notes (net_state net).given replies → (conn : ℕ) → is_accepted conn notes ≡ true
      → (net_state net).taken conn ≡ all_spelled (plain (bus_server admits replies) notes conn)
  pub turns : summary.turns ≡ 502
  pub none_dropped : summary.dropped ≡ 0
  -- where all connections are accepted, all messages are read
  pub all_messages : summary.connections ≡ 64 → summary.messages ≡ 8000
  -- they are, and all items are sent, where memory is not short and the room may be subscribed to
  pub complete : admits room ≡ true → list_any is_want notes ≡ false → (summary.connections ≡ 64) × (summary.items ≡ 504064)
  -- where all items are sent too, 9,080,256 octets are taken
  pub all_octets : summary.connections ≡ 64 → summary.items ≡ 504064 → summary.octets ≡ 9080256

-- these octets are the line of such a summary
abbrev pub IsSummaryLine : (List ℕ → Bool) → ℕ → List ℕ → Type 0
IsSummaryLine admits seed octets = (summary : Summary) × IsSummary admits seed summary × (octets ≡ summary_line seed summary)

-- all of the line of such a summary was written; or a front of it, before a fault of the sink
abbrev pub WritesSummary : (List ℕ → Bool) → ℕ → Bool → (written written' : Option (List ℕ)) → (faults faults' : ℕ) → Type 0
WritesSummary admits seed all written written' faults faults' =
    (octets : List ℕ) × IsSummaryLine admits seed octets × WritesText octets written written' faults faults' all

-- How a run of the command `made` ends, by its status and by what the sink told before it and after it. Later clauses of the program
-- cite this alone.
abbrev pub MadeEnds : (List ℕ → Bool) → ℕ → Status → (written written' : Option (List ℕ)) → (faults faults' : ℕ) → Type 0
MadeEnds admits seed Done written written' faults faults' = WritesSummary admits seed true written written' faults faults'
MadeEnds admits seed WriteFault written written' faults faults' = WritesSummary admits seed false written written' faults faults'
MadeEnds admits seed OutOfMemory written written' faults faults' = (written' ≡ written) × (faults' ≡ faults)
MadeEnds admits seed status written written' faults faults' = ⊥

-- ---- step by step

abbrev pub is_counted : Counted → NoteValue → Bool
is_counted Turns this = is_turn this
is_counted Messages this = is_message this
is_counted Drops this = is_drop this

-- the sums with a connection more, of so many items, whose link took these octets
abbrev pub with_link : ℕ → List ℕ → Sums → Sums
with_link items taken sums = record {
  connections = sums.connections + 1;
  items = sums.items + items;
  octets = sums.octets + length taken;
  sum = sums.sum + total taken;
}

-- the sums over these connections
abbrev pub sums_over : (ℕ → ℕ) → (ℕ → List ℕ) → List ℕ → Sums
sums_over items taken conns = record {
  connections = length conns;
  items = total (map items conns);
  octets = total (map (λ conn. length (taken conn)) conns);
  sum = total (map (λ conn. total (taken conn)) conns);
}
