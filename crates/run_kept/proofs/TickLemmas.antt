-- The notes of a tick, and a hub that is as they say.
use Rattle.run_kept.proofs.Below.{◌≡◌, ℕ, List, [], ◌∷◌, ◌++◌, Some, true, false, refl, sym, ap, ◌∙◌, subst, list_all, list_any, PeerEnd, LinkFailed, Idle, Finished, NoteValue, clash, all_follow, none_follow, is_event, is_unserved, is_closed, is_unread, is_accepted, closes, gather, accepted_by, marks_by, Line, noted_all, world, noted_line, notes_by, notes_of-notes, Server, of_notes, notes_of, Advances, advances_does, Ticks, is_of_tick, gathers_none, unclosed, unread_accepts, at_steps, took_after, told_is, Agrees, is_inner, is_idle}
use Rattle.ws_kinds.specs.NoteValue as note
use Rattle.run_meaning.specs.Server as run
use Rattle.run_meaning.specs.Steps.{line_by_all}
use Rattle.run_laws.specs.Agrees.{AgreesAt}
use Rattle.run_kept.proofs.IntakeLemmas.{is_beside, idle_beside}

-- ---- tests

event_one : (n : NoteValue) → is_of_tick n ≡ true → is_event n ≡ false
event_one (note.opened c route param) e = clash false refl e
event_one (note.message c kind body) e = clash false refl e
event_one (note.told c dropped drained) e = clash false refl e
event_one (note.closed c code reason) e = clash false refl e
event_one _ e = refl

pub tick_event : (ns : List NoteValue) → list_all is_of_tick ns ≡ true → list_any is_event ns ≡ false
tick_event ns e = none_follow is_of_tick is_event event_one ns e

unserved_one : (n : NoteValue) → is_of_tick n ≡ true → is_unserved n ≡ false
unserved_one (note.unserved c order why) e = clash false refl e
unserved_one _ e = refl

pub tick_unserved : (ns : List NoteValue) → list_all is_of_tick ns ≡ true → list_any is_unserved ns ≡ false
tick_unserved ns e = none_follow is_of_tick is_unserved unserved_one ns e

closed_one : (n : NoteValue) → is_of_tick n ≡ true → is_closed n ≡ false
closed_one (note.closed c code reason) e = clash false refl e
closed_one _ e = refl

unread_one : (n : NoteValue) → is_of_tick n ≡ true → is_unread n ≡ true
unread_one (note.accepted c) e = e
unread_one (note.given c count) e = e
unread_one (note.gone c PeerEnd) e = e
unread_one (note.gone c LinkFailed) e = refl
unread_one (note.gone c Idle) e = refl
unread_one (note.gone c Finished) e = refl
unread_one _ e = refl

pub tick_unread : (ns : List NoteValue) → list_all is_of_tick ns ≡ true → list_all is_unread ns ≡ true
tick_unread ns e = all_follow is_of_tick is_unread unread_one ns e

unmarked_one : (n : NoteValue) → is_of_tick n ≡ true → marks_by n ≡ []
unmarked_one note.tick e = clash false refl e
unmarked_one note.turn e = clash false refl e
unmarked_one (note.accepted c) e = clash false refl e
unmarked_one (note.busy c) e = clash false refl e
unmarked_one (note.no_room c) e = clash false refl e
unmarked_one _ e = refl

pub tick_unmarked : (ns : List NoteValue) → list_all is_of_tick ns ≡ true → gather marks_by ns ≡ []
tick_unmarked ns e = gathers_none is_of_tick marks_by unmarked_one ns e

accepts_one : (n : NoteValue) → is_of_tick n ≡ true → accepted_by n ≡ []
accepts_one (note.accepted c) e = clash false refl e
accepts_one _ e = refl

pub tick_accepts : (ns : List NoteValue) → list_all is_of_tick ns ≡ true → gather accepted_by ns ≡ []
tick_accepts ns e = gathers_none is_of_tick accepted_by accepts_one ns e

idle_one : (n : NoteValue) → is_of_tick n ≡ true → is_idle n ≡ true
idle_one (note.pinged c) e = refl
idle_one (note.took c offered took) e = refl
idle_one (note.dropped c index held) e = refl
idle_one (note.gone c left) e = refl
idle_one _ e = clash false refl e

pub tick_beside : (c : ℕ) (ns : List NoteValue) → list_all is_of_tick ns ≡ true → list_all (is_beside c) ns ≡ true
tick_beside c ns e = all_follow is_of_tick (is_beside c) (λ n h. idle_beside c n (idle_one n h)) ns e

inner_one : (n : NoteValue) → is_of_tick n ≡ true → is_inner n ≡ true
inner_one (note.pinged c) e = refl
inner_one (note.took c offered took) e = refl
inner_one (note.dropped c index held) e = refl
inner_one (note.gone c PeerEnd) e = clash false refl e
inner_one (note.gone c LinkFailed) e = refl
inner_one (note.gone c Idle) e = refl
inner_one (note.gone c Finished) e = clash false refl e
inner_one _ e = clash false refl e

pub tick_inner : (ns : List NoteValue) → list_all is_of_tick ns ≡ true → list_all is_inner ns ≡ true
tick_inner ns e = all_follow is_of_tick is_inner inner_one ns e

-- ---- a hub

module _ (a b : Server) (x : Ticks a b) where
  pub tick_advances : Advances (note.tick ∷ x.rest) a b
  tick_advances = advances_does (λ _. []) (note.tick ∷ x.rest) a b (x.does (λ _. []))

  pub agrees_tick : {S : Type 0} (r : run.Server S) (ns after : List NoteValue) → Agrees (world r ns) ns a → b.told ≡ Some after → Agrees (noted_all r (note.tick ∷ x.rest) (world r ns)) (ns ++ note.tick ∷ x.rest) b
  agrees_tick r ns after agrees told =
      let made = note.tick ∷ x.rest in
      let does = x.does r.reply in
      let same : notes_of (of_notes (note.tick ∷ x.rest)) ≡ note.tick ∷ x.rest = notes_of-notes (note.tick ∷ x.rest) in
      record {
        tells = tick_advances.net.net.tells ∙ agrees.tells;
        took = λ c. took_after c ns (note.tick ∷ x.rest) a.net b.net tick_advances.net agrees.tells (agrees.took c);
        told = told_is ns (note.tick ∷ x.rest) after a.told b.told tick_advances.told agrees.told told;
        lines = λ c.
            subst (λ (z : Line). AgreesAt c z (ns ++ note.tick ∷ x.rest) b) (notes_by r c (note.tick ∷ x.rest) ((world r ns).line c) ∙ sym (noted_line r c (note.tick ∷ x.rest) (world r ns)))
            (subst (λ (z : List NoteValue). AgreesAt c (line_by_all r c (of_notes (note.tick ∷ x.rest)) ((world r ns).line c)) (ns ++ z) b) same
            (at_steps r c ((world r ns).line c) ns (of_notes (note.tick ∷ x.rest)) a b (agrees.lines c) does
            (ap (is_accepted c) same ∙ unread_accepts c (note.tick ∷ x.rest) (tick_unread x.rest x.of_tick))
            (ap (closes c) same ∙ unclosed (note.tick ∷ x.rest) c (none_follow is_of_tick is_closed closed_one x.rest x.of_tick))));
      }
