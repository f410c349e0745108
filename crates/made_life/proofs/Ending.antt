-- What a run of a made schedule comes to, where memory is not short and the room may be subscribed to.
use Rattle.std.proofs.Common.{◌≡◌, ℕ, true, false, List, [], ◌∷◌, ◌++◌, length, map, refl, sym, ap, ◌∙◌}
use Rattle.std.specs.List.{flat_map, list_any}
use Rattle.std.proofs.lemmas.Grind.{flat_map-append}
use Rattle.std.proofs.lemmas.List.Folds.{list_any-append}
use Rattle.ws_kinds.proofs.Facts.{clash, or_left, same_number as itself}
use Rattle.ws_kinds.specs.NoteValue as note
use Rattle.ws_kinds.specs.NoteValue.{NoteValue}
use Rattle.link_trait.specs.declared.net.NetEvent.TheVariants as event
use Rattle.mem_net.specs.Acts.{passes}
use Rattle.mem_net.specs.MemNet.{MemNetState, net_state}
use Rattle.bus_handler.specs.Bus.{routes_of_bus}
use Rattle.made_schedule.specs.Made.{made_acts}
use Rattle.run_meaning.specs.Counts.{accepted_by, gather, total}
use Rattle.run_meaning.specs.Lines.{plain}
use Rattle.run_meaning.specs.Network.{marks_of}
use Rattle.run_meaning.specs.Network as mark
use Rattle.run_meaning.specs.Quiet.{is_tick}
use Rattle.run_meaning.specs.Replies.{AreReplies}
use Rattle.run_meaning.specs.Server.{Server}
use Rattle.made_life.specs.Life.{is_want, room}
use Rattle.made_life.specs.Sending.{numbers}
use Rattle.made_life.specs.Turn.{FirstTurn, RunsMade}
use Rattle.made_life.proofs.Beginning.{first_come, first_heard}
use Rattle.made_life.proofs.Coming.{come_by_acts}
use Rattle.made_life.proofs.Hearing.{come_by, numbers_length}
use Rattle.made_life.proofs.Opening.{IsMadeRun, accepted_all, in_one_room}
use Rattle.made_life.proofs.Passing.{made_arrivals}
use Rattle.made_life.proofs.Running.{bounds, heard_is, messages_all, no_ticks, none_gone}
use Rattle.made_life.proofs.Staying.{no_stretch}

module _ {S : Type 0} (server : (ℕ → List ℕ) → Server S) (now : S) (seed : ℕ) (ns : List NoteValue) (net : MemNetState) (held : ℕ → List ℕ) (replies : ℕ → List ℕ)
    (agree : AreReplies routes_of_bus ns (net_state net).given replies) (r : RunsMade (server replies) now seed ns net held) (t : FirstTurn server now seed ns (net_state net).given)
    (admits : (server replies).admits room ≡ true) (enough : list_any is_want ns ≡ false) where
  come : gather come_by ns ≡ numbers 64
  come =
      come_by_acts (made_acts seed) ns (mark.turn ∷ []) refl (r.ends.right.follows.passed ∙ ap (flat_map marks_of) r.passed ∙ flat_map-append marks_of (passes (made_acts seed)) (event.Stop ∷ []))
      ∙ made_arrivals seed

  unpinged : (front rest : List NoteValue) (c : ℕ) → ns ≡ front ++ note.pinged c ∷ rest → ⊥
  unpinged front rest c split =
      let inside = r.ends.right.timely.inside front rest (note.pinged c) c split (rw (itself c) refl) in
      let none = or_left (list_any is_tick front) (list_any is_tick (note.pinged c ∷ rest))
      (sym (list_any-append is_tick front (note.pinged c ∷ rest)) ∙ ap (list_any is_tick) (sym split) ∙ no_ticks (server replies) now seed ns net held r) in
      clash false refl (no_stretch false front none inside)

  made : IsMadeRun (server replies) seed ns t.before t.later
  made = record {
    says = r.says;
    admits = admits;
    justified = r.ends.right.ordered.justified;
    sound = r.ends.right.sound;
    enough = enough;
    stays = none_gone (server replies) now seed ns net held r;
    unpinged = unpinged;
    come = come;
    heard_is = heard_is (server replies) now seed ns net held r;
    split = t.split;
    come_first = first_come server now seed ns (net_state net).given t replies agree;
    heard_first = first_heard server now seed ns (net_state net).given t replies agree (none_gone (server replies) now seed ns net held r) (heard_is (server replies) now seed ns net held r)
        (bounds (server replies) now seed ns net held r);
  }

  pub all_pass : (length (gather accepted_by ns) ≡ 64) × (total (map (λ c. length (plain (server replies) ns c)) (gather accepted_by ns)) ≡ 504064)
  all_pass =
      let all : length (gather accepted_by ns) ≡ 64 = ap (λ (l : List ℕ). length l) (accepted_all (server replies) seed ns t.before t.later made) ∙ numbers_length 64 in
      (all, in_one_room (server replies) seed ns t.before t.later made (messages_all (server replies) now seed ns net held r all))
