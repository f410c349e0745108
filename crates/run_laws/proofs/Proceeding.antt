-- Notes of a call that read nothing, and of what it sent.
use Rattle.run_laws.proofs.Below.{◌≡◌, ℕ, List, [], ◌∷◌, ◌++◌, Bool, true, false, ◌||◌, nat_eq, refl, sym, ap, ◌∙◌, list_all, and_from, not-true, PeerEnd, LinkFailed, Idle, Finished, NoteValue, is_left, is_gone_by, gather, accepted_by, given_by, given, has_number, total, is_gone_by_in, is_accepted, NetState, Follows, Mark, marks_by, gather-append, list_all-append, Server, is_outgoing, all_follow, NetAfter, FailsAfter, Proceeds, clash, and_left, and_right, FollowsBut, is_unread, is_of_orders}
use Rattle.std.proofs.lemmas.Bool as bools
use Rattle.ws_kinds.specs.NoteValue as note
use Rattle.run_laws.proofs.Adding.{gathers_none, but_none, none_but}
use Rattle.run_laws.proofs.Calling.{call_plain, call_marked}

-- ---- one note

accepts_none : (this : NoteValue) → is_unread this ≡ true → accepted_by this ≡ []
accepts_none (note.accepted d) e = clash false refl e
accepts_none _ e = refl

gives_none : (c : ℕ) (this : NoteValue) → is_unread this ≡ true → given_by c this ≡ []
gives_none c (note.given d k) e = clash false refl e
gives_none c _ e = refl

ends_none : (c : ℕ) (this : NoteValue) → is_unread this ≡ true → is_gone_by c PeerEnd this ≡ false
ends_none c (note.gone d left) e = bools.and_right (nat_eq d c) (is_left PeerEnd left) (not-true (is_left PeerEnd left) e)
ends_none c _ e = refl

-- ---- all of them

pub unread_accepts : (c : ℕ) (made : List NoteValue) → list_all is_unread made ≡ true → is_accepted c made ≡ false
unread_accepts c made e = ap (λ (z : List ℕ). has_number c z) (gathers_none is_unread accepted_by accepts_none made e)

pub unread_given : (c : ℕ) (made : List NoteValue) → list_all is_unread made ≡ true → given c made ≡ 0
unread_given c made e = ap total (gathers_none is_unread (given_by c) (gives_none c) made e)

pub unread_ended : (c : ℕ) (made : List NoteValue) → list_all is_unread made ≡ true → is_gone_by_in c PeerEnd made ≡ false
unread_ended c [] e = refl
unread_ended c (this ∷ rest) e =
    ap (λ (z : Bool). z || is_gone_by_in c PeerEnd rest) (ends_none c this (and_left (is_unread this) (list_all is_unread rest) e))
    ∙ unread_ended c rest (and_right (is_unread this) (list_all is_unread rest) e)

-- ---- what was sent

outgoing_unread : (this : NoteValue) → is_outgoing this ≡ true → is_unread this ≡ true
outgoing_unread (note.accepted c) e = e
outgoing_unread (note.given c k) e = e
outgoing_unread (note.gone c LinkFailed) e = refl
outgoing_unread (note.gone c PeerEnd) e = e
outgoing_unread (note.gone c Idle) e = refl
outgoing_unread (note.gone c Finished) e = refl
outgoing_unread _ e = refl

outgoing_unmarked : (this : NoteValue) → is_outgoing this ≡ true → marks_by this ≡ []
outgoing_unmarked note.turn e = clash false refl e
outgoing_unmarked note.tick e = clash false refl e
outgoing_unmarked (note.accepted c) e = clash false refl e
outgoing_unmarked (note.busy c) e = clash false refl e
outgoing_unmarked (note.no_room c) e = clash false refl e
outgoing_unmarked _ e = refl

sent_unread : (sending : List NoteValue) → list_all is_outgoing sending ≡ true → list_all is_unread sending ≡ true
sent_unread [] e = refl
sent_unread (this ∷ rest) e =
    and_from (is_unread this) (list_all is_unread rest) (outgoing_unread this (and_left (is_outgoing this) (list_all is_outgoing rest) e))
    (sent_unread rest (and_right (is_outgoing this) (list_all is_outgoing rest) e))

sent_unmarked : (sending : List NoteValue) → list_all is_outgoing sending ≡ true → gather marks_by sending ≡ []
sent_unmarked [] e = refl
sent_unmarked (this ∷ rest) e =
    ap (λ (z : List Mark). z ++ gather marks_by rest) (outgoing_unmarked this (and_left (is_outgoing this) (list_all is_outgoing rest) e))
    ∙ sent_unmarked rest (and_right (is_outgoing this) (list_all is_outgoing rest) e)

-- ---- the first notes, those of what was sent, and the last ones

between_unread : (first sending last : List NoteValue) → list_all is_outgoing sending ≡ true → list_all is_unread (first ++ last) ≡ true → list_all is_unread (first ++ (sending ++ last)) ≡ true
between_unread first sending last s e =
    let both = sym (list_all-append is_unread first last) ∙ e in
    let before = and_left (list_all is_unread first) (list_all is_unread last) both in
    let after = and_right (list_all is_unread first) (list_all is_unread last) both in
    list_all-append is_unread first (sending ++ last)
    ∙ and_from (list_all is_unread first) (list_all is_unread (sending ++ last)) before
    (list_all-append is_unread sending last ∙ and_from (list_all is_unread sending) (list_all is_unread last) (sent_unread sending s) after)

between_marks : (first sending last : List NoteValue) → list_all is_outgoing sending ≡ true → gather marks_by (first ++ (sending ++ last)) ≡ gather marks_by (first ++ last)
between_marks first sending last s =
    gather-append marks_by first (sending ++ last)
    ∙ ap (λ (z : List Mark). gather marks_by first ++ z) (gather-append marks_by sending last ∙ ap (λ (z : List Mark). z ++ gather marks_by last) (sent_unmarked sending s))
    ∙ sym (gather-append marks_by first last)

pub proceeds_follows : (ns first last : List NoteValue) (coming marks rest : List Mark) (a b : Server) → a.net.tells ≡ true → list_all is_unread (first ++ last) ≡ true
    → gather marks_by (first ++ last) ≡ marks → coming ≡ marks ++ rest → (p : Proceeds first last a b) → FollowsBut coming ns a.net → FollowsBut rest (ns ++ (first ++ (p.sending ++ last))) b.net
proceeds_follows ns first last coming marks rest a b tells e k come p f =
    let made = first ++ (p.sending ++ last) in
    let unread = between_unread first p.sending last p.outgoing e in
    call_marked ns made coming marks rest a.net b.net tells (between_marks first p.sending last p.outgoing ∙ k) come
    (λ c. unread_accepts c made unread) (λ c. unread_given c made unread) (λ c. unread_ended c made unread) p.advances.net p.fails f

-- ---- orders

orders_unread : (this : NoteValue) → is_of_orders this ≡ true → is_unread this ≡ true
orders_unread (note.unserved c i y) e = refl
orders_unread (note.gone c left) e = outgoing_unread (note.gone c left) e
orders_unread (note.accepted c) e = e
orders_unread (note.given c k) e = e
orders_unread _ e = refl

orders_unmarked : (this : NoteValue) → is_of_orders this ≡ true → marks_by this ≡ []
orders_unmarked note.turn e = clash false refl e
orders_unmarked note.tick e = clash false refl e
orders_unmarked (note.accepted c) e = clash false refl e
orders_unmarked (note.busy c) e = clash false refl e
orders_unmarked (note.no_room c) e = clash false refl e
orders_unmarked _ e = refl

-- the notes that are made while orders are served follow the net
pub orders_follow : (ns ms : List NoteValue) (a b : NetState) → a.tells ≡ true → list_all is_of_orders ms ≡ true → NetAfter ms a b → FailsAfter ms a b → Follows ns a → Follows (ns ++ ms) b
orders_follow ns ms a b tells e after fails follows =
    let unread = all_follow is_of_orders is_unread orders_unread ms e in
    none_but (ns ++ ms) b (call_plain ns ms [] a b tells (gathers_none is_of_orders marks_by orders_unmarked ms e) (λ c. unread_given c ms unread) (λ c. unread_ended c ms unread) after fails (but_none ns a follows))
