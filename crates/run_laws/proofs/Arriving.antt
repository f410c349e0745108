-- A connection that comes, and the note of it.
use Rattle.run_laws.proofs.Below.{◌≡◌, ◌≢◌, ℕ, List, [], ◌∷◌, ◌++◌, Bool, true, false, ◌||◌, length, refl, sym, ap, ◌∙◌, subst, flat_map, PeerEnd, LinkFailed, NoteValue, NetState, HasNoTraffic, NetEvent, writes, taken, given, is_gone_by_in, is_accepted, Follows, marks_of, arrival, accepted-append, NetAfter, FailsAfter, FollowsAt, FollowsBut, or_false}
use Rattle.ws_kinds.specs.NoteValue as note
use Rattle.run_laws.proofs.Adding.{other_accepted, same_or_not, at_adds, marks_come, none_but}
use Rattle.run_laws.proofs.Calling.{call_adds, call_marked}

-- notes that say nothing of a connection follow a net that told nothing of it
pub at_none : (c : ℕ) (ns : List NoteValue) (net : NetState) → given c ns ≡ 0 → taken c ns ≡ 0 → writes c ns ≡ [] → is_gone_by_in c PeerEnd ns ≡ false
    → is_gone_by_in c LinkFailed ns ≡ false → HasNoTraffic c net → FollowsAt c ns net
at_none c ns net g t w ended broken none = record {
  ended = ended ∙ sym none.ended;
  broken = broken ∙ sym none.broken;
  given = ap length none.given ∙ sym g;
  taken = ap length none.taken ∙ sym t;
  wrote = none.wrote ∙ sym w;
}

was_accepted : (c d : ℕ) (ns : List NoteValue) → d ≢ c → is_accepted d (ns ++ note.accepted c ∷ []) ≡ true → is_accepted d ns ≡ true
was_accepted c d ns ne there =
    sym (accepted-append d ns (note.accepted c ∷ []) ∙ ap (λ (z : Bool). is_accepted d ns || z) (other_accepted c d ne) ∙ or_false (is_accepted d ns)) ∙ there

pub accepted_follows : (c : ℕ) (ns : List NoteValue) (a b : NetState) → a.tells ≡ true → FollowsAt c ns a
    → NetAfter (note.accepted c ∷ []) a b → FailsAfter (note.accepted c ∷ []) a b → FollowsBut (arrival c ∷ []) ns a → Follows (ns ++ note.accepted c ∷ []) b
accepted_follows c ns a b tells own after fails f = none_but (ns ++ note.accepted c ∷ []) b (record {
  passed = marks_come ns (note.accepted c ∷ []) (arrival c ∷ []) (arrival c ∷ []) [] (flat_map marks_of b.passed) refl refl
      (f.passed ∙ ap (λ (z : List NetEvent). flat_map marks_of z) (sym (after.told tells).passed));
  lines = λ d there. at_adds d ns (note.accepted c ∷ []) a b
      (same_or_not c d (λ same. subst (λ (z : ℕ). FollowsAt z ns a) (sym same) own) (λ ne. f.lines d (was_accepted c d ns ne there)))
      (call_adds d (note.accepted c ∷ []) a b tells refl refl after fails);
})

pub busy_follows : (c : ℕ) (ns : List NoteValue) (a b : NetState) → a.tells ≡ true → NetAfter (note.busy c ∷ []) a b → FailsAfter (note.busy c ∷ []) a b
    → FollowsBut (arrival c ∷ []) ns a → Follows (ns ++ note.busy c ∷ []) b
busy_follows c ns a b tells after fails f = none_but (ns ++ note.busy c ∷ []) b
    (call_marked ns (note.busy c ∷ []) (arrival c ∷ []) (arrival c ∷ []) [] a b tells refl refl (λ d. refl) (λ d. refl) (λ d. refl) after fails f)

pub no_room_follows : (c : ℕ) (ns : List NoteValue) (a b : NetState) → a.tells ≡ true → NetAfter (note.no_room c ∷ []) a b → FailsAfter (note.no_room c ∷ []) a b
    → FollowsBut (arrival c ∷ []) ns a → Follows (ns ++ note.no_room c ∷ []) b
no_room_follows c ns a b tells after fails f = none_but (ns ++ note.no_room c ∷ []) b
    (call_marked ns (note.no_room c ∷ []) (arrival c ∷ []) (arrival c ∷ []) [] a b tells refl refl (λ d. refl) (λ d. refl) (λ d. refl) after fails f)
