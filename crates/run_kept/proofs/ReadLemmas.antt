-- What is ready was read, step by step.
use Rattle.run_kept.proofs.Below.{◌≡◌, ℕ, List, [], ◌∷◌, Option, Some, None, Bool, true, false, cond, refl, sym, ap, ◌∙◌, list_any, Phase, Head, Open, Leaving, Ending, Gone, NoteValue, NetState, Same, is_of, is_acceptance, has_number, accepted_by, is_accepted, moved, is_reading, HubState, Server, Entry, has_entry, entry_at, is_present, phase_at, none_of, Progress, progress_at, progress_by, progress_after, progress_after_all, unless_gone, Advances, by_cases, clash, phase_of_away, present_is_not_gone, unaccepted, rest_unaccepted, none_moves, AreRead}
use Rattle.ws_kinds.specs.NoteValue as note
use Rattle.hub_lines.specs.State as hub

-- ---- phases

pub reading_shown : (p : Option Phase) → is_reading (unless_gone p) ≡ is_reading p
reading_shown None = refl
reading_shown (Some Head) = refl
reading_shown (Some Open) = refl
reading_shown (Some Leaving) = refl
reading_shown (Some Ending) = refl
reading_shown (Some Gone) = refl

-- an entry's phase, by its progress
pub reads_by : (h : HubState) (c : ℕ) → is_reading (phase_at h c) ≡ is_reading (progress_at h c).phase
reads_by h c = by_cases (has_entry h.entries c)
    (λ has. ap (λ (z : Bool). is_reading (cond z (Some (entry_at h c).phase) None)) has ∙ sym (reading_shown (Some (entry_at h c).phase)))
    (λ none. ap (λ (z : Bool). is_reading (cond z (Some (entry_at h c).phase) None)) none ∙ ap (λ (z : Entry). is_reading (unless_gone (Some z.phase))) (sym (none_of h.entries c none)))

read_before : (p : Option Phase) (n : NoteValue) → moved None n ≡ None → is_reading (moved p n) ≡ true → is_reading p ≡ true
read_before None n still e = clash false refl (sym (ap is_reading still) ∙ e)
read_before (Some Head) n still e = refl
read_before (Some Open) n still e = refl
read_before (Some Leaving) n still e = refl
read_before (Some Ending) (note.gone c left) still e = clash false refl e
read_before (Some Ending) _ still e = clash false refl e
read_before (Some Gone) (note.gone c left) still e = clash false refl e
read_before (Some Gone) _ still e = clash false refl e

one_before : (c : ℕ) (n : NoteValue) (p : Progress) → has_number c (accepted_by n) ≡ false → is_reading (progress_after c n p).phase ≡ true → is_reading p.phase ≡ true
one_before c n p away e = by_cases (is_of c n)
    (λ own. read_before p.phase n (none_moves c n away own) (sym (reading_shown (moved p.phase n)) ∙ sym (ap (λ (z : Bool). is_reading (cond z (progress_by n p) p).phase) own) ∙ e))
    (λ other. sym (ap (λ (z : Bool). is_reading (cond z (progress_by n p) p).phase) other) ∙ e)

all_before : (c : ℕ) (ns : List NoteValue) (p : Progress) → is_accepted c ns ≡ false → is_reading (progress_after_all c ns p).phase ≡ true → is_reading p.phase ≡ true
all_before c [] p away e = e
all_before c (n ∷ ns) p away e =
    let u = rest_unaccepted c n ns away in
    one_before c n p u.0 (all_before c ns (progress_after c n p) u.1 e)

there_reads : (h : HubState) (c : ℕ) → is_reading (phase_at h c) ≡ true → is_present h c ≡ true
there_reads h c e = by_cases (is_present h c) (λ t. t)
    (λ away. clash false refl (sym (reads_by h c ∙ ap is_reading (phase_of_away h c away)) ∙ e))

-- a connection after a call of a hub that does not accept it
read_then : (c : ℕ) (ns : List NoteValue) (a b : Server) → Advances ns a b → is_accepted c ns ≡ false → (is_reading (phase_at a.hub c) ≡ true → a.net.due c ≡ false) → is_reading (phase_at b.hub c) ≡ true → b.net.due c ≡ false
read_then c ns a b x away read e =
    x.net.due c (present_is_not_gone ns c a b x away (there_reads b.hub c e))
    ∙ read (reads_by a.hub c ∙ all_before c ns (progress_at a.hub c) away (sym (ap (λ (z : Progress). is_reading z.phase) (x.progress c)) ∙ sym (reads_by b.hub c) ∙ e))

-- ---- steps

pub read_same : (s : Server) (net : NetState) (reading : Option ℕ) → Same s.net.due net.due → AreRead reading s → AreRead reading (hub.server s.hub net s.told)
read_same s net reading same read c free e = same c ∙ read c free e

pub read_call : (ns : List NoteValue) (a b : Server) (reading : Option ℕ) → Advances ns a b → list_any is_acceptance ns ≡ false → AreRead reading a → AreRead reading b
read_call ns a b reading x away read c free e = read_then c ns a b x (unaccepted ns c away) (read c free) e
