-- What `next` and `shut` of a net, and single notes, leave of the notes beside the net.
use Rattle.run_laws.proofs.Below.{◌≡◌, ◌<◌, ◌+◌, ◌||◌, ◌&&◌, nat_eq, ◌^◌, ◌-◌, ℕ, List, [], ◌∷◌, ◌++◌, Bool, true, false, cond, nat_lt, length, refl, sym, ap, ◌∙◌, append-nil, arith, nat_tests, flat_map-append, flat_map, Left, PeerEnd, LinkFailed, NoteValue, NetState, Nexts, Shuts, SameTraffic, passing, passed_after, NetEvent, writes, taken, given, is_gone_by_in, is_accepted, Follows, Mark, marks_by, marks_of, is_aside, is_inner, follows_aside, other_left, clash, or_none, below, plus_none, FollowsBut, or_false}
use Rattle.ws_kinds.specs.NoteValue as note
use Rattle.link_trait.specs.declared.net.NetEvent.TheVariants as event
use Rattle.run_laws.proofs.Adding.{Adds, at_same, but_adds, but_none, none_but}

-- the marks of what passed
marks_passing : (answer : NetEvent) → flat_map marks_of (passing answer) ≡ marks_of answer
marks_passing (event.Accept c) = refl
marks_passing (event.Readable c) = refl
marks_passing (event.Writable c) = refl
marks_passing event.Tick = refl
marks_passing event.Turn = refl
marks_passing event.Stop = refl
marks_passing event.Failed = refl

marks_after : (passed : List NetEvent) (answer : NetEvent) → length passed < 2 ^ 64 - 1 → flat_map marks_of (passed_after passed answer) ≡ flat_map marks_of passed ++ marks_of answer
marks_after passed answer few =
    ap (λ (z : Bool). flat_map marks_of (cond z (passed ++ passing answer) passed)) (below (length passed) (2 ^ 64 - 1) few)
    ∙ flat_map-append marks_of passed (passing answer) ∙ ap (λ (z : List Mark). flat_map marks_of passed ++ z) (marks_passing answer)

same_either : (b : Bool) (passed : List NetEvent) → cond b (passed ++ []) passed ≡ passed
same_either true passed = append-nil passed
same_either false passed = refl

-- what the net told is the same but for these marks
but_same : (ns : List NoteValue) (coming : List Mark) (a b : NetState) → SameTraffic a b → flat_map marks_of b.passed ≡ flat_map marks_of a.passed → FollowsBut coming ns a → FollowsBut coming ns b
but_same ns coming a b same marks f = record { passed = f.passed ∙ sym marks; lines = λ c there. at_same c ns a b same (f.lines c there) }

pub next_but : (answer : NetEvent) (ns : List NoteValue) (a b : NetState) → a.tells ≡ true → length a.passed < 2 ^ 64 - 1 → Nexts answer a b → Follows ns a → FollowsBut (marks_of answer) ns b
next_but answer ns a b tells few n f =
    let told = n.told tells in
    record {
      passed = ap (λ (z : List Mark). z ++ marks_of answer) f.passed ∙ sym (marks_after a.passed answer few) ∙ sym (ap (λ (z : List NetEvent). flat_map marks_of z) told.passed);
      lines = λ c there. at_same c ns a b told.traffic ((but_none ns a f).lines c there);
    }

-- an answer that does not count among those that passed
pub next_unmarked : (answer : NetEvent) (ns : List NoteValue) (a b : NetState) → passing answer ≡ [] → a.tells ≡ true → Nexts answer a b → Follows ns a → Follows ns b
next_unmarked answer ns a b none tells n f =
    let told = n.told tells in
    let still = told.passed ∙ ap (λ (z : List NetEvent). cond (nat_lt (length a.passed) (2 ^ 64 - 1)) (a.passed ++ z) a.passed) none
    ∙ same_either (nat_lt (length a.passed) (2 ^ 64 - 1)) a.passed in
    none_but ns b (but_same ns [] a b told.traffic (ap (λ (z : List NetEvent). flat_map marks_of z) still) (but_none ns a f))

pub shut_but : (c : ℕ) (ns : List NoteValue) (coming : List Mark) (a b : NetState) → a.tells ≡ true → Shuts c a b → FollowsBut coming ns a → FollowsBut coming ns b
shut_but c ns coming a b tells s f =
    let told = s.told tells in
    but_same ns coming a b told.traffic (ap (λ (z : List NetEvent). flat_map marks_of z) told.passed) f

pub shut_follows : (c : ℕ) (ns : List NoteValue) (a b : NetState) → a.tells ≡ true → Shuts c a b → Follows ns a → Follows ns b
shut_follows c ns a b tells s f = none_but ns b (shut_but c ns [] a b tells s (but_none ns a f))

same_traffic : (net : NetState) → SameTraffic net net
same_traffic net = record { given = λ c. refl; taken = λ c. refl; wrote = λ c. refl; ended = λ c. refl; broken = λ c. refl }

pub aside_follows : (ns : List NoteValue) (this : NoteValue) (net : NetState) → is_aside this ≡ true → marks_by this ≡ [] → Follows ns net → Follows (ns ++ this ∷ []) net
aside_follows ns this net aside unmarked f =
    follows_aside ns this net net aside (same_traffic net) (sym (ap (λ (z : List Mark). flat_map marks_of net.passed ++ z) unmarked ∙ append-nil (flat_map marks_of net.passed))) f

-- ---- a note that says nothing of a link

none_accepted : (c : ℕ) (this : NoteValue) → is_aside this ≡ true → is_accepted c (this ∷ []) ≡ false
none_accepted c (note.accepted d) e = clash false refl e
none_accepted c _ e = refl

none_wrote : (c : ℕ) (this : NoteValue) → is_aside this ≡ true → writes c (this ∷ []) ≡ []
none_wrote c (note.took d o t) e = clash false refl e
none_wrote c _ e = refl

none_taken : (c : ℕ) (this : NoteValue) → is_aside this ≡ true → taken c (this ∷ []) ≡ 0
none_taken c (note.took d o t) e = clash false refl e
none_taken c _ e = refl

none_given : (c : ℕ) (this : NoteValue) → is_aside this ≡ true → given c (this ∷ []) ≡ 0
none_given c (note.given d k) e = clash false refl e
none_given c _ e = refl

none_gone : (c : ℕ) (l : Left) (this : NoteValue) → is_inner l ≡ false → is_aside this ≡ true → is_gone_by_in c l (this ∷ []) ≡ false
none_gone c l (note.gone d m) e h = ap (λ (z : Bool). (nat_eq d c && z) || false) (other_left l m e h) ∙ both (nat_eq d c)
  where
    both : (b : Bool) → ((b && false) || false) ≡ false
    both true = refl
    both false = refl
none_gone c l _ e h = refl

aside_adds : (c : ℕ) (this : NoteValue) (net : NetState) → is_aside this ≡ true → Adds c (this ∷ []) net net
aside_adds c this net aside = record {
  ended = or_none (net.ended c) (is_gone_by_in c PeerEnd (this ∷ [])) (none_gone c PeerEnd this refl aside);
  broken = or_none (net.broken c) (is_gone_by_in c LinkFailed (this ∷ [])) (none_gone c LinkFailed this refl aside);
  given = plus_none (length (net.given c)) (given c (this ∷ [])) (none_given c this aside);
  taken = plus_none (length (net.taken c)) (taken c (this ∷ [])) (none_taken c this aside);
  wrote = sym (append-nil (net.wrote c)) ∙ ap (λ (z : List (ℕ × ℕ)). net.wrote c ++ z) (sym (none_wrote c this aside));
}

pub aside_but : (ns : List NoteValue) (this : NoteValue) (coming rest : List Mark) (net : NetState) → is_aside this ≡ true → coming ≡ marks_by this ++ rest
    → FollowsBut coming ns net → FollowsBut rest (ns ++ this ∷ []) net
aside_but ns this coming rest net aside come f =
    but_adds ns (this ∷ []) coming (marks_by this) rest net net (append-nil (marks_by this)) come (λ c. none_accepted c this aside) refl (λ c. aside_adds c this net aside) f
