-- Connections that are finished, one after another, as a turn ends.
use Rattle.hub_core.proofs.Below.{length, inl, ◌≡◌, ◌≢◌, ◌<◌, ◌≤◌, ◌+◌, ◌-◌, ◌^◌, ℕ, List, [], ◌∷◌, ◌++◌, Option, Some, Bool, true, false, not, ◌||◌, nat_eq, nat_lt, refl, sym, ap, ◌∙◌, subst, append-nil, arith, nat_tests, Finished, Phase, Ending, NoteValue, IsNoted, NetState, Item, has_number, joined, HubState, Entry, TellingValue, Server, server, is_gone, has_entry, is_present, entry_at, ring_at, cork_at, pending_at, StandsFor, nothing, present_entry, FailsAfter, TakesAll, items_at, Advances, Appends, by_cases, clash, or_false, or_assoc, same, fails_then, fails_same, advances_then, advances_same, appends_before_nothing, appends_same, IsTable, table_of, tell_of, tell_at, held_in, may_leave_by, at_turn, is_turn, list_any, Goes, Rise, finishes, FinishesOne, FinishesIfEmpty, EndsTurn, or_true, no}
use Rattle.ws_kinds.specs.NoteValue as note
use Rattle.hub_core.proofs.NoteLemmas.{NotesOne, advances_noted, fails_noted, appends_noted}
use Rattle.hub_core.proofs.StateLemmas.{same_or_not}
use Rattle.hub_core.proofs.CallLemmas.{phase_known as phase_of}
use Rattle.hub_core.proofs.LeaveLemmas.{all_later}

-- these were finished, in order, the last one with a number up to `after`; who is still ending up to there holds octets
pub record Finishing (after : ℕ) (old new : Server) : Type 0 where
  pub finished : List ℕ
  pub rising : Rise 0 finished
  pub last : (c : ℕ) → has_number c finished ≡ true → c ≤ after
  pub advances : Advances (finishes finished) old new
  pub fails : FailsAfter (finishes finished) old.net new.net
  pub appends : Appends nothing old new
  pub away : (c : ℕ) → has_number c finished ≡ true → is_present new.hub c ≡ false
  pub known : (c : ℕ) → has_number c finished ≡ true → c ≤ old.hub.named
  pub whole : (c : ℕ) → has_number c finished ≡ true → items_at old.hub c < 2 ^ 64 - 1 → (items : List Item) → StandsFor c old items → TakesAll c items new.net new.told
  pub below : (c : ℕ) → c ≤ after → (entry_at new.hub c).phase ≡ Ending → ring_at new.hub c ≢ []

-- ---- lists of numbers

has_more : (c d : ℕ) (ns : List ℕ) → has_number c (ns ++ d ∷ []) ≡ (has_number c ns || nat_eq c d)
has_more c d [] = sym (or_false (nat_eq c d))
has_more c d (n ∷ ns) = ap (λ (z : Bool). nat_eq c n || z) (has_more c d ns) ∙ or_assoc (nat_eq c n) (has_number c ns) (nat_eq c d)

here : (n : ℕ) (rest : Bool) → (nat_eq n n || rest) ≡ true
here n rest = ap (λ (z : Bool). z || rest) (same n)

there : (d n : ℕ) (ns : List ℕ) → has_number d ns ≡ true → (nat_eq d n || has_number d ns) ≡ true
there d n ns e = ap (λ (z : Bool). nat_eq d n || z) e ∙ or_true (nat_eq d n)

one_of : {A : Type 0} (d c : ℕ) (ns : List ℕ) → (has_number d ns ≡ true → A) → (d ≡ c → A) → has_number d (ns ++ c ∷ []) ≡ true → A
one_of d c ns first last e = by_cases (has_number d ns) first (λ f.
    last (let h : (false || nat_eq d c) ≡ true = ap (λ (z : Bool). z || nat_eq d c) (sym f) ∙ sym (has_more d c ns) ∙ e in grind (arith, nat_tests)))

at_or_below : {A : Type 0} (d after c : ℕ) → d ≤ c → (d ≤ after → A) → (after < d → d < c → A) → (d ≡ c → A) → A
at_or_below d after c few low mid high = by_cases (nat_eq d c)
    (λ e. high (grind (arith, nat_tests)))
    (λ e. by_cases (nat_lt after d) (λ z. mid (grind (arith, nat_tests)) (grind (arith, nat_tests))) (λ z. low (grind (arith, nat_tests))))

known_later : (d : ℕ) (old mid : Server) → Appends nothing old mid → d ≤ old.hub.named → d ≤ mid.hub.named
known_later d old mid x few = let n = x.lines.named in omega arith

stays_away : (d : ℕ) (mid new : Server) → Appends nothing mid new → d ≤ mid.hub.named → is_present mid.hub d ≡ false → is_present new.hub d ≡ false
stays_away d mid new x few away = by_cases (is_present new.hub d)
    (λ e. clash (is_present mid.hub d) away ((x.lines.lines d few).present e))
    (λ e. e)

counted : (i j last : ℕ) → (i + 0 < last → j ≡ i + 0) → i < last → j < last
counted i j last h few = let g : i + 0 < last = omega arith in let k = h g in omega arith

pub fewer : (c : ℕ) (old mid : Server) → Appends nothing old mid → c ≤ old.hub.named → is_present mid.hub c ≡ true → items_at old.hub c < 2 ^ 64 - 1 → items_at mid.hub c < 2 ^ 64 - 1
fewer c old mid x few there e = counted (items_at old.hub c) (items_at mid.hub c) 18446744073709551615 ((x.fronts c few).count there) e

pub stood : (c : ℕ) (old mid : Server) → Appends nothing old mid → c ≤ old.hub.named → is_present mid.hub c ≡ true → (items : List Item) → StandsFor c old items → StandsFor c mid items
stood c old mid x few there items s = subst (λ (z : List Item). StandsFor c mid z) (append-nil items) ((x.lines.lines c few).stands there items s)

finishes_more : (ns : List ℕ) (c : ℕ) → finishes (ns ++ c ∷ []) ≡ finishes ns ++ note.gone c Finished ∷ []
finishes_more [] c = refl
finishes_more (n ∷ ns) c = ap (λ (z : List NoteValue). note.gone n Finished ∷ z) (finishes_more ns c)

rise_more : (least c : ℕ) (ns : List ℕ) → least < c → ((d : ℕ) → has_number d ns ≡ true → d < c) → Rise least ns → Rise least (ns ++ c ∷ [])
rise_more least c [] above all r = (above, tt {0})
rise_more least c (n ∷ ns) above all r = (r.0, rise_more n c ns (all n (here n (has_number n ns))) (λ d e. all d (there d n ns e)) r.1)

-- ---- what was taken of one that is finished

-- ---- one more

pub finishing_starts : (s : Server) → ((c : ℕ) → c ≤ 0 → (entry_at s.hub c).phase ≢ Ending) → Finishing 0 s s
finishing_starts s none = record {
  finished = [];
  rising = tt {0};
  last = λ c e. absurd (no e);
  advances = advances_same s;
  fails = fails_same s.net;
  appends = appends_same s;
  away = λ c e. absurd (no e);
  known = λ c e. absurd (no e);
  whole = λ c e. absurd (no e);
  below = λ c few ending. absurd (none c few ending);
}

pub finishing_next : (after c : ℕ) (old mid new : Server) → Finishing after old mid → FinishesOne c mid new → after < c → c ≤ mid.hub.named → c ≤ old.hub.named
    → is_present mid.hub c ≡ true
    → ((d : ℕ) → after < d → d < c → (entry_at mid.hub d).phase ≢ Ending) → (entry_at new.hub c).phase ≢ Ending → Finishing c old new
finishing_next after c old mid new f one above named was_named there none gone =
    let ns = f.finished in
    let tells : mid.net.tells ≡ old.net.tells = f.advances.net.net.tells in
    record {
      finished = ns ++ c ∷ [];
      rising = rise_more 0 c ns (omega arith) (λ d e. let l = f.last d e in omega arith) f.rising;
      last = λ d e. one_of d c ns (λ z. let l = f.last d z in omega arith) (λ z. omega arith) e;
      advances = subst (λ (z : List NoteValue). Advances z old new) (sym (finishes_more ns c)) (advances_then (finishes ns) (note.gone c Finished ∷ []) old mid new f.advances one.advances);
      fails = subst (λ (z : List NoteValue). FailsAfter z old.net new.net) (sym (finishes_more ns c)) (fails_then (finishes ns) (note.gone c Finished ∷ []) old.net mid.net new.net tells f.fails one.fails);
      appends = appends_before_nothing nothing old mid new f.appends one.appends;
      away = λ d e. one_of d c ns (λ z. stays_away d mid new one.appends (known_later d old mid f.appends (f.known d z)) (f.away d z)) (λ z. subst (λ (w : ℕ). is_present new.hub w ≡ false) (sym z) one.away) e;
      known = λ d e. one_of d c ns (f.known d) (λ z. subst (λ (w : ℕ). w ≤ old.hub.named) (sym z) was_named) e;
      whole = λ d e. one_of d c ns
          (λ z few items s. let k = one.appends.fronts d (known_later d old mid f.appends (f.known d z)) in
          all_later d items mid.net new.net mid.told new.told (k.taken (f.away d z)) (k.drops (f.away d z)) (f.whole d z few items s))
          (λ z. subst (λ (w : ℕ). items_at old.hub w < 2 ^ 64 - 1 → (items : List Item) → StandsFor w old items → TakesAll w items new.net new.told) (sym z)
          (λ few items s. one.whole (fewer c old mid f.appends was_named there few) items (stood c old mid f.appends was_named there items s))) e;
      below = λ d few ending empty. at_or_below d after c few
          (λ z. f.below d z (one.ending d ending).0 (sym (one.ending d ending).1 ∙ empty))
          (λ low high. none d low high (one.ending d ending).0)
          (λ z. gone (subst (λ (w : ℕ). (entry_at new.hub w).phase ≡ Ending) z ending));
    }

-- a connection that is ending and holds octets is passed over
pub finishing_skip : (after c : ℕ) (old mid : Server) → Finishing after old mid → after < c → ((d : ℕ) → after < d → d < c → (entry_at mid.hub d).phase ≢ Ending) → ring_at mid.hub c ≢ [] → Finishing c old mid
finishing_skip after c old mid f above none holds = record {
  finished = f.finished;
  rising = f.rising;
  last = λ d e. let l = f.last d e in omega arith;
  advances = f.advances;
  fails = f.fails;
  appends = f.appends;
  away = f.away;
  known = f.known;
  whole = f.whole;
  below = λ d few ending empty. at_or_below d after c few
      (λ z. f.below d z ending empty)
      (λ low high. none d low high ending)
      (λ z. holds (subst (λ (w : ℕ). ring_at mid.hub w ≡ []) z empty));
}

pub at_any : {A : Type 0} (after c : ℕ) → (c ≤ after → A) → (after < c → A) → A
at_any after c low high = by_cases (nat_lt after c) (λ e. high (grind (arith, nat_tests))) (λ e. low (grind (arith, nat_tests)))

pub empty_or_not : {A : Type 0} (xs : List ℕ) → (xs ≡ [] → A) → (xs ≢ [] → A) → A
empty_or_not [] empty some = empty refl
empty_or_not (x ∷ xs) empty some = some (λ e. cc)

away_is_not_ending : (e : Entry) → not (is_gone e.phase) ≡ false → e.phase ≢ Ending
away_is_not_ending e away same = clash (not (is_gone e.phase)) away (ap (λ (z : Phase). not (is_gone z)) same)

-- the next connection that is ending is finished, or passed over
pub finishing_step : (after c : ℕ) (old mid new : Server) → Finishing after old mid → FinishesIfEmpty c mid new → after < c → c ≤ mid.hub.named → c ≤ old.hub.named
    → (entry_at mid.hub c).phase ≡ Ending → ((d : ℕ) → after < d → d < c → (entry_at mid.hub d).phase ≢ Ending) → Finishing c old new
finishing_step after c old mid new f one above named was_named ending none = empty_or_not (ring_at mid.hub c)
    (λ e. let x = one.empty e in finishing_next after c old mid new f x above named was_named (ap (λ (z : Phase). not (is_gone z)) ending) none (away_is_not_ending (entry_at new.hub c) x.away))
    (λ e. subst (λ (z : Server). Finishing c old z) (sym (one.holds e)) (finishing_skip after c old mid f above none e))

ring_empty : (xs ys : List ℕ) → xs ++ ys ≡ [] → xs ≡ []
ring_empty [] ys e = refl
ring_empty (x ∷ xs) ys e = cc

finishes_turnless : (ns : List ℕ) → list_any is_turn (finishes ns) ≡ false
finishes_turnless [] = refl
finishes_turnless (n ∷ ns) = finishes_turnless ns

-- the turn's end, at which it is found what is to be told of each connection
abbrev pub with_tellings : HubState → List TellingValue → HubState
with_tellings h tellings = record h { tellings = tellings }

notes_turn : (h : HubState) (tellings : List TellingValue) → NotesOne 0 note.turn h (with_tellings h tellings)
notes_turn h tellings = record {
  others = λ d ne. refl;
  may = λ own. clash false refl own;
  here = refl;
  elsewhere = λ d ne. refl;
  tells = λ e. clash true e refl;
  counts = λ e d there. (there, refl);
}

appends_turn : (h : HubState) (tellings : List TellingValue) (net : NetState) (t t' : Option (List NoteValue)) → IsNoted t note.turn t' → Appends nothing (server h net t) (server (with_tellings h tellings) net t')
appends_turn h tellings net t t' told = appends_noted h (with_tellings h tellings) net t t' note.turn refl (omega arith) told (λ d. refl) (λ d. inl (record { held = refl; gone = refl }))

module _ {after : ℕ} {old : Server} {h : HubState} {net : NetState} {t : Option (List NoteValue)} (f : Finishing after old (server h net t)) (tellings : List TellingValue) (t' : Option (List NoteValue)) (told : IsNoted t note.turn t') where
  -- the turn is noted, and nobody above is ending
  pub finishing_ends : ((c : ℕ) → after < c → (entry_at h c).phase ≢ Ending) → ((c : ℕ) → tell_of tellings c ≡ at_turn (held_in h c) (tell_at h c)) → EndsTurn old (server (with_tellings h tellings) net t')
  finishing_ends none tells = record {
    finished = f.finished;
    rising = f.rising;
    proceeds = record {
      sending = [];
      outgoing = refl;
      advances = advances_then (finishes f.finished) (note.turn ∷ []) old (server h net t) (server (with_tellings h tellings) net t') f.advances (advances_noted 0 note.turn h (with_tellings h tellings) net t t' told refl (notes_turn h tellings));
      fails = fails_then (finishes f.finished) (note.turn ∷ []) old.net net net f.advances.net.net.tells f.fails (fails_noted note.turn net refl);
    };
    tells = λ c. tells c ∙ ap (at_turn (held_in h c)) (f.advances.tells (finishes_turnless f.finished) c);
    ending = λ c e empty. at_any after c
        (λ low. f.below c low (phase_of h c Ending e) (ring_empty (ring_at h c) (cork_at h c ++ joined (pending_at h c)) empty))
        (λ high. none c high (phase_of h c Ending e));
    whole = λ c e few items s. let k = (appends_turn h tellings net t t' told).fronts c (known_later c old (server h net t) f.appends (f.known c e)) in
        all_later c items net net t t' (k.taken (f.away c e)) (k.drops (f.away c e)) (f.whole c e few items s);
  }

  pub appends_finished : Appends nothing old (server (with_tellings h tellings) net t')
  appends_finished = appends_before_nothing nothing old (server h net t) (server (with_tellings h tellings) net t') f.appends (appends_turn h tellings net t t' told)

-- there is no connection 0
pub none_at_zero : (h : HubState) (net : NetState) (t : Option (List NoteValue)) → IsTable (table_of h) → Finishing 0 (server h net t) (server h net t)
none_at_zero h net t whole = finishing_starts (server h net t) (λ c few ending.
    let has : has_entry h.entries c ≡ true = present_entry h.entries c (ap (λ (z : Phase). not (is_gone z)) ending) in
    let one = whole.first c has in absurd (omega arith))

pub is_known : (h : HubState) (c : ℕ) → IsTable (table_of h) → (entry_at h c).phase ≡ Ending → c ≤ h.named
is_known h c whole ending = whole.named c (present_entry h.entries c (ap (λ (z : Phase). not (is_gone z)) ending))

-- a connection that is ending, for which nothing is held, is finished
pub finishes_one : {c : ℕ} {a b : Server} → Goes c Finished a b → (entry_at a.hub c).phase ≡ Ending → ring_at a.hub c ≡ [] → FinishesOne c a b
finishes_one {c} {a} {b} g ending empty = record {
  advances = g.advances (ap (λ (z : Phase). may_leave_by (Some z) Finished) ending);
  fails = g.fails refl;
  appends = g.appends;
  away = g.away;
  whole = g.whole empty;
  ending = λ d e. same_or_not c d
      (λ q. clash (is_present b.hub d) (ap (is_present b.hub) q ∙ g.away) (ap (λ (z : Phase). not (is_gone z)) e))
      (λ ne. (ap (λ (z : Entry). z.phase) (sym (g.leaves.change.table.entries d ne)) ∙ e, ap (λ (z : Entry). z.ring) (g.leaves.change.table.entries d ne)));
}

pub no_octets : (xs : List ℕ) → length xs ≡ 0 → xs ≡ []
no_octets [] e = refl
no_octets (x ∷ xs) e = absurd (omega arith)

pub finishes_empty : {c : ℕ} {a b : Server} → Goes c Finished a b → (entry_at a.hub c).phase ≡ Ending → length (ring_at a.hub c) ≡ 0 → FinishesIfEmpty c a b
finishes_empty {c} {a} g ending none = record { empty = finishes_one g ending; holds = λ some. absurd (some (no_octets (ring_at a.hub c) none)) }

pub passes_over : (c : ℕ) (a : Server) → (length (ring_at a.hub c) ≡ 0 → ⊥) → FinishesIfEmpty c a a
passes_over c a some = record { empty = λ e. absurd (some (ap length e)); holds = λ _. refl }
