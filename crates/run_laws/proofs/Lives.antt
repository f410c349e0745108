-- From what was heard to the relation of a run, and what notes say was heard.
use Rattle.run_laws.proofs.Below.{◌≡◌, ℕ, List, [], ◌∷◌, ◌++◌, Bool, true, false, not, refl, sym, ap, ◌∙◌, subst, append-nil, nat_eq, list_all, itself, and_left, and_right, NoteValue, Event, RouteTable, only_if, is_gone_phase, phase, Heard, opened, refused, read, heard, heard_by, to_hear, last_frame, Reaches, Lived, gather-append, heard_one, HearsAll, HearsFront, is_unheard, note_of_event}
use Rattle.ws_kinds.specs.NoteValue as note
use Rattle.wire_meaning.specs.Event as wire
use Rattle.run_meaning.specs.Server.{Server}
use Rattle.run_laws.proofs.HearLemmas.{silent}

reaches_all : {A : Type 0} (b : Bool) (xs : List A) → Reaches b xs xs
reaches_all true xs = ([], sym (append-nil xs))
reaches_all false xs = refl

module _ {S : Type 0} (server : Server S) (table : RouteTable) (max : ℕ) (notes : List NoteValue) (conn : ℕ) (octets : List ℕ) where
  pub lived_of_all : HearsAll table max (last_frame server notes conn) (heard conn notes) octets → Lived server table max notes conn octets
  lived_of_all h = record {
    life = h.life;
    is = h.is;
    reaches = subst (λ (hs : List Heard). Reaches (is_gone_phase (phase server notes conn)) (heard conn notes) hs) h.all (reaches_all (is_gone_phase (phase server notes conn)) (heard conn notes));
    begun = λ none. silent table max octets h.life (last_frame server notes conn) h.is (sym h.all ∙ none);
  }

  pub lived_of_front : HearsFront table max (last_frame server notes conn) (heard conn notes) octets → is_gone_phase (phase server notes conn) ≡ true → Lived server table max notes conn octets
  lived_of_front h gone = record {
    life = h.life;
    is = h.is;
    reaches = subst (λ b. Reaches b (heard conn notes) (to_hear (last_frame server notes conn) h.life)) (sym gone) (h.behind, h.front);
    begun = h.begun;
  }

-- what is heard by some notes and by more
pub heard-append : (conn : ℕ) (notes later : List NoteValue) → heard conn (notes ++ later) ≡ heard conn notes ++ heard conn later
heard-append conn notes later = gather-append (heard_by conn) notes later

not_only : {A : Type 0} (b : Bool) (x : A) → not b ≡ true → only_if b x ≡ []
not_only true x h = cc
not_only false x h = refl

-- a note that says of nothing that it was heard
pub unheard_one : (conn : ℕ) (this : NoteValue) → is_unheard conn this ≡ true → heard_by conn this ≡ []
unheard_one conn (note.head other status) h = not_only (nat_eq other conn) (refused status) h
unheard_one conn (note.opened other route param) h = not_only (nat_eq other conn) (opened route param) h
unheard_one conn (note.message other kind body) h = not_only (nat_eq other conn) (read (wire.message kind body)) h
unheard_one conn (note.ping_got other body) h = not_only (nat_eq other conn) (read (wire.ping body)) h
unheard_one conn (note.pong_got other body) h = not_only (nat_eq other conn) (read (wire.pong body)) h
unheard_one conn (note.peer_close other code reason) h = not_only (nat_eq other conn) (read (wire.closed code reason)) h
unheard_one conn (note.failed other code) h = not_only (nat_eq other conn) (read (wire.failed code)) h
unheard_one conn _ h = refl

pub unheard_all : (conn : ℕ) (notes : List NoteValue) → list_all (is_unheard conn) notes ≡ true → heard conn notes ≡ []
unheard_all conn [] h = refl
unheard_all conn (first ∷ rest) h =
    ap (λ (hs : List Heard). hs ++ heard conn rest) (unheard_one conn first (and_left (is_unheard conn first) (list_all (is_unheard conn) rest) h))
    ∙ unheard_all conn rest (and_right (is_unheard conn first) (list_all (is_unheard conn) rest) h)

pub heard_unheard : (conn : ℕ) (notes later : List NoteValue) → list_all (is_unheard conn) later ≡ true → heard conn (notes ++ later) ≡ heard conn notes
heard_unheard conn notes later h = heard-append conn notes later ∙ ap (λ (hs : List Heard). heard conn notes ++ hs) (unheard_all conn later h) ∙ append-nil (heard conn notes)

own_only : {A : Type 0} (n : ℕ) (x : A) → only_if (nat_eq n n) x ≡ x ∷ []
own_only n x = rw (itself n) refl

-- a connection's own note of what was heard
pub heard_head : (conn status : ℕ) → heard_by conn (note.head conn status) ≡ refused status ∷ []
heard_head conn status = own_only conn (refused status)

pub heard_opened : (conn route : ℕ) (param : List ℕ) → heard_by conn (note.opened conn route param) ≡ opened route param ∷ []
heard_opened conn route param = own_only conn (opened route param)

pub heard_event : (conn : ℕ) (event : Event) → heard_by conn (note_of_event conn event) ≡ read event ∷ []
heard_event conn (wire.message kind body) = own_only conn (read (wire.message kind body))
heard_event conn (wire.ping body) = own_only conn (read (wire.ping body))
heard_event conn (wire.pong body) = own_only conn (read (wire.pong body))
heard_event conn (wire.closed code reason) = own_only conn (read (wire.closed code reason))
heard_event conn (wire.failed code) = own_only conn (read (wire.failed code))

-- and with the notes before it
one_more : (conn : ℕ) (this : NoteValue) (what : Heard) (notes : List NoteValue) → heard_by conn this ≡ what ∷ [] → heard conn (notes ++ this ∷ []) ≡ heard conn notes ++ what ∷ []
one_more conn this what notes is = heard_one conn notes this ∙ ap (λ (hs : List Heard). heard conn notes ++ hs) is

pub heard_then_head : (conn status : ℕ) (notes : List NoteValue) → heard conn (notes ++ note.head conn status ∷ []) ≡ heard conn notes ++ refused status ∷ []
heard_then_head conn status notes = one_more conn (note.head conn status) (refused status) notes (heard_head conn status)

pub heard_then_opened : (conn route : ℕ) (param : List ℕ) (notes : List NoteValue) → heard conn (notes ++ note.opened conn route param ∷ []) ≡ heard conn notes ++ opened route param ∷ []
heard_then_opened conn route param notes = one_more conn (note.opened conn route param) (opened route param) notes (heard_opened conn route param)

pub heard_then_event : (conn : ℕ) (event : Event) (notes : List NoteValue) → heard conn (notes ++ note_of_event conn event ∷ []) ≡ heard conn notes ++ read event ∷ []
heard_then_event conn event notes = one_more conn (note_of_event conn event) (read event) notes (heard_event conn event)
