-- What notes add for a connection, beside what a net adds for it.
use Rattle.run_laws.proofs.Below.{◌≡◌, ◌≢◌, ◌+◌, ℕ, List, [], ◌∷◌, ◌++◌, Bool, true, false, ◌||◌, length, nat_eq, refl, sym, ap, ◌∙◌, append-nil, append_assoc, arith, nat_tests, flat_map, list_all, PeerEnd, LinkFailed, NoteValue, NetState, SameTraffic, NetEvent, gather, writes, taken, given, is_gone_by_in, is_accepted, Follows, Mark, marks_by, marks_of, gather-append, writes-append, taken-append, given-append, gone_by-append, accepted-append, by_cases, clash, and_left, and_right, itself, is_same, is_other, FollowsAt, FollowsBut, or_false}
use Rattle.ws_kinds.specs.NoteValue as note

pub same_or_not : {A : Type 0} (c d : ℕ) → (d ≡ c → A) → (d ≢ c → A) → A
same_or_not c d own other = by_cases (nat_eq d c) (λ e. own (is_same d c e)) (λ e. other (λ same. clash (nat_eq d c) e (ap (λ (k : ℕ). nat_eq k c) same ∙ itself c)))

pub same_number : (c d : ℕ) → nat_eq c d ≡ nat_eq d c
same_number c d = grind (arith, nat_tests)

-- a test that none of these notes gives anything
pub gathers_none : {A : Type 0} (p : NoteValue → Bool) (f : NoteValue → List A) → ((n : NoteValue) → p n ≡ true → f n ≡ []) → (ns : List NoteValue) → list_all p ns ≡ true → gather f ns ≡ []
gathers_none p f one [] e = refl
gathers_none {A = A} p f one (n ∷ ns) e =
    ap (λ (z : List A). z ++ gather f ns) (one n (and_left (p n) (list_all p ns) e)) ∙ gathers_none p f one ns (and_right (p n) (list_all p ns) e)

-- who does not come now
pub other_accepted : (c d : ℕ) → d ≢ c → is_accepted d (note.accepted c ∷ []) ≡ false
other_accepted c d ne = ap (λ (z : Bool). z || false) (is_other d c ne)

-- the net adds what the notes say
pub record Adds (conn : ℕ) (notes : List NoteValue) (old new : NetState) : Type 0 where
  pub ended : new.ended conn ≡ (old.ended conn || is_gone_by_in conn PeerEnd notes)
  pub broken : new.broken conn ≡ (old.broken conn || is_gone_by_in conn LinkFailed notes)
  pub given : length (new.given conn) ≡ length (old.given conn) + given conn notes
  pub taken : length (new.taken conn) ≡ length (old.taken conn) + taken conn notes
  pub wrote : new.wrote conn ≡ old.wrote conn ++ writes conn notes

pub at_adds : (c : ℕ) (ns made : List NoteValue) (a b : NetState) → FollowsAt c ns a → Adds c made a b → FollowsAt c (ns ++ made) b
at_adds c ns made a b f x = record {
  ended = gone_by-append c PeerEnd ns made ∙ ap (λ (z : Bool). z || is_gone_by_in c PeerEnd made) f.ended ∙ sym x.ended;
  broken = gone_by-append c LinkFailed ns made ∙ ap (λ (z : Bool). z || is_gone_by_in c LinkFailed made) f.broken ∙ sym x.broken;
  given = x.given ∙ ap (λ (z : ℕ). z + given c made) f.given ∙ sym (given-append c ns made);
  taken = x.taken ∙ ap (λ (z : ℕ). z + taken c made) f.taken ∙ sym (taken-append c ns made);
  wrote = x.wrote ∙ ap (λ (z : List (ℕ × ℕ)). z ++ writes c made) f.wrote ∙ sym (writes-append c ns made);
}

pub at_same : (c : ℕ) (ns : List NoteValue) (a b : NetState) → SameTraffic a b → FollowsAt c ns a → FollowsAt c ns b
at_same c ns a b same f = record {
  ended = f.ended ∙ sym (same.ended c);
  broken = f.broken ∙ sym (same.broken c);
  given = ap length (same.given c) ∙ f.given;
  taken = ap length (same.taken c) ∙ f.taken;
  wrote = same.wrote c ∙ f.wrote;
}

-- ---- the marks

pub marks_more : (ns made : List NoteValue) (rest : List Mark) → gather marks_by (ns ++ made) ++ rest ≡ gather marks_by ns ++ (gather marks_by made ++ rest)
marks_more ns made rest = ap (λ (z : List Mark). z ++ rest) (gather-append marks_by ns made) ∙ append_assoc (gather marks_by ns) (gather marks_by made) rest

-- the next marks that come are those of the notes
pub marks_come : (ns made : List NoteValue) (coming first rest all : List Mark) → gather marks_by made ≡ first → coming ≡ first ++ rest
    → gather marks_by ns ++ coming ≡ all → gather marks_by (ns ++ made) ++ rest ≡ all
marks_come ns made coming first rest all e k p =
    marks_more ns made rest ∙ ap (λ (z : List Mark). gather marks_by ns ++ (z ++ rest)) e ∙ ap (λ (z : List Mark). gather marks_by ns ++ z) (sym k) ∙ p

-- ---- notes of which none accepts a connection

pub was_accepted : (c : ℕ) (ns made : List NoteValue) → is_accepted c made ≡ false → is_accepted c (ns ++ made) ≡ true → is_accepted c ns ≡ true
was_accepted c ns made none there =
    sym (accepted-append c ns made ∙ ap (λ (z : Bool). is_accepted c ns || z) none ∙ or_false (is_accepted c ns)) ∙ there

pub but_adds : (ns made : List NoteValue) (coming first rest : List Mark) (a b : NetState) → gather marks_by made ≡ first → coming ≡ first ++ rest
    → ((c : ℕ) → is_accepted c made ≡ false) → b.passed ≡ a.passed → ((c : ℕ) → Adds c made a b) → FollowsBut coming ns a → FollowsBut rest (ns ++ made) b
but_adds ns made coming first rest a b e k none passed adds f = record {
  passed = marks_come ns made coming first rest (flat_map marks_of b.passed) e k (f.passed ∙ ap (λ (z : List NetEvent). flat_map marks_of z) (sym passed));
  lines = λ c there. at_adds c ns made a b (f.lines c (was_accepted c ns made (none c) there)) (adds c);
}

-- ---- the words

pub but_none : (ns : List NoteValue) (net : NetState) → Follows ns net → FollowsBut [] ns net
but_none ns net f = record {
  passed = append-nil (gather marks_by ns) ∙ f.passed;
  lines = λ c there. record { ended = f.ended c there; broken = f.broken c there; given = f.given c there; taken = f.taken c there; wrote = f.wrote c there };
}

pub none_but : (ns : List NoteValue) (net : NetState) → FollowsBut [] ns net → Follows ns net
none_but ns net f = record {
  passed = sym (append-nil (gather marks_by ns)) ∙ f.passed;
  ended = λ c there. (f.lines c there).ended;
  broken = λ c there. (f.lines c there).broken;
  given = λ c there. (f.lines c there).given;
  taken = λ c there. (f.lines c there).taken;
  wrote = λ c there. (f.lines c there).wrote;
}

pub follows_none : (net : NetState) → net.passed ≡ [] → Follows [] net
follows_none net none = record {
  passed = sym (ap (λ (z : List NetEvent). flat_map marks_of z) none);
  ended = λ c there. clash false refl there;
  broken = λ c there. clash false refl there;
  given = λ c there. clash false refl there;
  taken = λ c there. clash false refl there;
  wrote = λ c there. clash false refl there;
}
