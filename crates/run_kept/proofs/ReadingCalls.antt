-- What a server keeps over a call of the hub that makes a note of one connection, and then notes of what was sent.
use Rattle.run_kept.proofs.Below.{◌≡◌, ◌≢◌, ℕ, List, [], ◌∷◌, ◌++◌, Option, Some, Bool, true, false, ◌&&◌, ◌||◌, nat_eq, refl, sym, ap, ◌∙◌, subst, append_assoc, list_all, list_any, Head, ConfigValue, NoteValue, RouteTable, is_of, is_event, is_unserved, is_acceptance, gather, accepted_by, Line, moved, route_after, param_after, line_after, noted, noted_all, phase, world, heard, last_frame, Follows, is_outgoing, world_frames, lines_after, own_line, outgoing_within, within_no_event, outgoing_no_order, Server, has_entry, Advances, IsTable, table_of, clash, or_left, or_right, is_other, itself, outgoing_unaccepted, unaccepted, Agrees, same_or_not, line_more, IntakeView, HearsAt, RestsAt, IsRouted, SameButReader, Kept}
use Rattle.ws_kinds.specs.NoteValue as note
use Rattle.run_meaning.specs.Server as run
use Rattle.run_kept.proofs.EntryLemmas.{entry_before}
use Rattle.run_kept.proofs.IntakeLemmas.{Seen, is_beside, outgoing_beside, other_beside, heard_beside, taken_lines}
use Rattle.run_kept.proofs.PassingLemmas.{taken_as, seen_beside, kept_plain, same_numbers}

route_stays : (n : NoteValue) (old : ℕ) → is_event n ≡ false → route_after n old ≡ old
route_stays (note.opened c route param) old e = clash true e refl
route_stays _ old e = refl

param_stays : (n : NoteValue) (old : List ℕ) → is_event n ≡ false → param_after n old ≡ old
param_stays (note.opened c route param) old e = clash true e refl
param_stays _ old e = refl

-- ---- the note of a call

-- it is of this connection, gives no event, names no order and accepts nobody
pub record IsOwn (conn : ℕ) (n : NoteValue) : Type 0 where
  pub event : is_event n ≡ false
  pub unserved : is_unserved n ≡ false
  pub accepts : is_acceptance n ≡ false
  pub own : is_of conn n ≡ true
  pub others : (other : ℕ) → other ≢ conn → is_of other n ≡ false

pub own_note : (conn : ℕ) (n : NoteValue) → is_event n ≡ false → is_unserved n ≡ false → is_acceptance n ≡ false → ((c : ℕ) → is_of c n ≡ nat_eq conn c) → IsOwn conn n
own_note conn n event unserved accepts of = record {
  event = event;
  unserved = unserved;
  accepts = accepts;
  own = of conn ∙ itself conn;
  others = λ c ne. of c ∙ is_other conn c (λ q. ne (sym q));
}

none_accepted : (n : NoteValue) (sending : List NoteValue) → is_acceptance n ≡ false → list_all is_outgoing sending ≡ true → list_any is_acceptance (n ∷ sending) ≡ false
none_accepted n sending none e = ap (λ (z : Bool). z || list_any is_acceptance sending) none ∙ outgoing_unaccepted sending e

-- who is an entry after the call was one before
pub entries_stay : (n : NoteValue) (sending : List NoteValue) (a b : Server) → is_acceptance n ≡ false → list_all is_outgoing sending ≡ true → Advances (n ∷ sending) a b → IsTable (table_of a.hub) → IsTable (table_of b.hub)
    → (c : ℕ) → has_entry b.hub.entries c ≡ true → has_entry a.hub.entries c ≡ true
entries_stay n sending a b none e adv before after c = entry_before c (n ∷ sending) a b adv (unaccepted (n ∷ sending) c (none_accepted n sending none e)) before after

one_number : (n : NoteValue) → is_acceptance n ≡ false → accepted_by n ≡ []
one_number (note.accepted c) e = clash true e refl
one_number _ e = refl

pub no_numbers : (ns : List NoteValue) → list_any is_acceptance ns ≡ false → gather accepted_by ns ≡ []
no_numbers [] e = refl
no_numbers (n ∷ ns) e =
    ap (λ (z : List ℕ). z ++ gather accepted_by ns) (one_number n (or_left (is_acceptance n) (list_any is_acceptance ns) e)) ∙ no_numbers ns (or_right (is_acceptance n) (list_any is_acceptance ns) e)

module _ {S : Type 0} (r : run.Server S) (config : ConfigValue) (table : RouteTable) (conn : ℕ) (ns : List NoteValue) (n : NoteValue) (own : IsOwn conn n) where
  abbrev l : Line
  l = (world r ns).line conn

  -- what is kept of the connection right behind its note
  pub seen_own : (octets : List ℕ) (intake : IntakeView) (done here : Type 0) → HearsAt table config.max_message (moved (phase r ns conn) n) (last_frame r ns conn) (heard conn (ns ++ n ∷ [])) octets intake.reader
      → (done → RestsAt table (moved (phase r ns conn) n) octets intake.reader) → (here → IsRouted intake ((world r ns).line conn))
      → Seen table config.max_message (heard conn (ns ++ n ∷ [])) octets intake done here (line_after r conn n ((world r ns).line conn))
  seen_own octets intake done here hears rests routed =
      subst (λ (z : Line). Seen table config.max_message (heard conn (ns ++ n ∷ [])) octets intake done here z) (sym (own_line r conn n l own.own)) (record {
        hears = hears;
        rests = rests;
        routed = λ h. let y = routed h in (y.0 ∙ sym (route_stays n l.route own.event), y.1 ∙ sym (param_stays n l.param own.event));
      })

  module _ (sending : List NoteValue) (sent : list_all is_outgoing sending ≡ true) where
    -- and after what was sent, unless it is in phase Head
    pub seen_sent : (octets : List ℕ) (intake : IntakeView) (done here : Type 0) → moved (phase r ns conn) n ≢ Some Head → Seen table config.max_message (heard conn (ns ++ n ∷ [])) octets intake done here (line_after r conn n ((world r ns).line conn))
        → Seen table config.max_message (heard conn (ns ++ n ∷ sending)) octets intake done here (lines_after r conn (n ∷ sending) ((world r ns).line conn))
    seen_sent octets intake done here ne seen =
        let events : list_any is_event (n ∷ []) ≡ false = ap (λ (z : Bool). z || false) own.event in
        let named : list_any is_unserved (n ∷ []) ≡ false = ap (λ (z : Bool). z || false) own.unserved in
        (taken_as (sym (ap (heard conn) (append_assoc ns (n ∷ []) sending)) ∙ heard_beside conn (ns ++ n ∷ []) sending (outgoing_beside conn sending sent)) refl refl (λ d. d) (λ h. h) refl
        (taken_lines r conn table config.max_message (heard conn (ns ++ n ∷ [])) octets intake done here sending (line_after r conn n l) (outgoing_beside conn sending sent) (record {
          seen = seen;
          counted = sym (ap (λ (z : Line). z.frames) (line_more r ns (n ∷ []) conn events named)) ∙ world_frames r (ns ++ n ∷ []) conn;
          calm = λ head. absurd (ne (sym (ap (λ (z : Line). z.phase) (own_line r conn n l own.own)) ∙ head));
        }))).seen

    -- all is kept, where what was heard of the connection is known
    pub kept_call : (a b : Server) (now : S) (intakes news : ℕ → IntakeView) (reading later : Option ℕ) → Kept r config table ns a now intakes reading → ((c : ℕ) → c ≢ conn → reading ≢ Some c)
        → Agrees (noted_all r sending (noted r n (world r ns))) (ns ++ n ∷ sending) b → Follows (ns ++ n ∷ sending) b.net → b.hub.config ≡ a.hub.config
        → ((c : ℕ) → has_entry b.hub.entries c ≡ true → has_entry a.hub.entries c ≡ true) → SameButReader conn intakes news → ((c : ℕ) → c ≢ conn → b.net.given c ≡ a.net.given c)
        → Seen table config.max_message (heard conn (ns ++ n ∷ sending)) (b.net.given conn) (news conn) (later ≢ Some conn) (has_entry b.hub.entries conn ≡ true) (lines_after r conn (n ∷ sending) ((world r ns).line conn))
        → Kept r config table (ns ++ n ∷ sending) b now news later
    kept_call a b now intakes news reading later k away agrees follows configured entries same given seen =
        kept_plain r config table ns (n ∷ sending) a b now intakes news reading later k
        (ap (λ (z : Bool). z || list_any is_event sending) own.event ∙ within_no_event sending (outgoing_within sending sent)) (ap (λ (z : Bool). z || list_any is_unserved sending) own.unserved ∙ outgoing_no_order sending sent)
        agrees follows (same_numbers ns (n ∷ sending) (no_numbers (n ∷ sending) (none_accepted n sending own.accepts sent)) k.unlike) configured
        (λ c. same_or_not conn c
        (λ e. subst (λ (z : ℕ). Seen table config.max_message (heard z (ns ++ n ∷ sending)) (b.net.given z) (news z) (later ≢ Some z) (has_entry b.hub.entries z ≡ true) (lines_after r z (n ∷ sending) ((world r ns).line z))) (sym e) seen)
        (λ ne. seen_beside r config table ns (n ∷ sending) a b now intakes news reading later k c (λ z. absurd (away c ne z))
        (ap (λ (z : Bool). z && list_all (is_beside c) sending) (other_beside c n (own.others c ne)) ∙ outgoing_beside c sending sent) (given c ne) (same.others c ne) (λ free. away c ne) (entries c)))
