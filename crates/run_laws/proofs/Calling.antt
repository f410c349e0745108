-- Notes that a call of a hub makes.
use Rattle.run_laws.proofs.Below.{◌≡◌, ◌+◌, ℕ, List, [], ◌∷◌, ◌++◌, Bool, true, false, ◌||◌, length, refl, sym, ap, ◌∙◌, arith, PeerEnd, LinkFailed, NoteValue, NetState, gather, given, is_gone_by_in, is_accepted, accepted_by, has_number, Mark, marks_by, NetAfter, FailsAfter, FollowsBut, or_false}
use Rattle.ws_kinds.specs.NoteValue as note
use Rattle.run_laws.proofs.Adding.{Adds, but_adds}

-- the call reads nothing, so the notes say neither that octets were read nor that a peer ended
pub after_adds : (c : ℕ) (made : List NoteValue) (a b : NetState) → a.tells ≡ true → given c made ≡ 0 → is_gone_by_in c PeerEnd made ≡ false
    → b.broken c ≡ (a.broken c || is_gone_by_in c LinkFailed made) → NetAfter made a b → Adds c made a b
after_adds c made a b tells unread unended broken after = record {
  ended = (after.told tells).ended c ∙ sym (or_false (a.ended c)) ∙ ap (λ (z : Bool). a.ended c || z) (sym unended);
  broken = broken;
  given = ap length ((after.told tells).given c) ∙ plus_none (length (a.given c)) (given c made) unread;
  taken = (after.told tells).taken c;
  wrote = (after.told tells).wrote c;
}
  where
    plus_none : (n m : ℕ) → m ≡ 0 → n ≡ n + m
    plus_none n m e = omega arith

pub call_adds : (c : ℕ) (made : List NoteValue) (a b : NetState) → a.tells ≡ true → given c made ≡ 0 → is_gone_by_in c PeerEnd made ≡ false
    → NetAfter made a b → FailsAfter made a b → Adds c made a b
call_adds c made a b tells unread unended after fails = after_adds c made a b tells unread unended (fails.broken tells c) after

-- ---- a note that accepts a connection has a mark

nil_left : {A : Type 0} (xs ys : List A) → xs ++ ys ≡ [] → xs ≡ []
nil_left [] ys e = refl
nil_left (x ∷ xs) ys e = cc

nil_right : {A : Type 0} (xs ys : List A) → xs ++ ys ≡ [] → ys ≡ []
nil_right [] ys e = e
nil_right (x ∷ xs) ys e = cc

unmarked_one : (this : NoteValue) → marks_by this ≡ [] → accepted_by this ≡ []
unmarked_one (note.accepted c) e = cc
unmarked_one _ e = refl

unmarked : (made : List NoteValue) → gather marks_by made ≡ [] → gather accepted_by made ≡ []
unmarked [] e = refl
unmarked (this ∷ rest) e =
    ap (λ (z : List ℕ). z ++ gather accepted_by rest) (unmarked_one this (nil_left (marks_by this) (gather marks_by rest) e))
    ∙ unmarked rest (nil_right (marks_by this) (gather marks_by rest) e)

pub none_accepted : (made : List NoteValue) → gather marks_by made ≡ [] → (c : ℕ) → is_accepted c made ≡ false
none_accepted made e c = ap (λ (z : List ℕ). has_number c z) (unmarked made e)

pub call_marked : (ns made : List NoteValue) (coming first rest : List Mark) (a b : NetState) → a.tells ≡ true → gather marks_by made ≡ first → coming ≡ first ++ rest
    → ((c : ℕ) → is_accepted c made ≡ false) → ((c : ℕ) → given c made ≡ 0) → ((c : ℕ) → is_gone_by_in c PeerEnd made ≡ false)
    → NetAfter made a b → FailsAfter made a b → FollowsBut coming ns a → FollowsBut rest (ns ++ made) b
call_marked ns made coming first rest a b tells e k none unread unended after fails f =
    but_adds ns made coming first rest a b e k none (after.told tells).passed (λ c. call_adds c made a b tells (unread c) (unended c) after fails) f

pub call_plain : (ns made : List NoteValue) (coming : List Mark) (a b : NetState) → a.tells ≡ true → gather marks_by made ≡ []
    → ((c : ℕ) → given c made ≡ 0) → ((c : ℕ) → is_gone_by_in c PeerEnd made ≡ false)
    → NetAfter made a b → FailsAfter made a b → FollowsBut coming ns a → FollowsBut coming (ns ++ made) b
call_plain ns made coming a b tells e unread unended after fails f =
    call_marked ns made coming [] coming a b tells e refl (none_accepted made e) unread unended after fails f
