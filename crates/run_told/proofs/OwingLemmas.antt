-- A connection that has something to tell has so after more steps, or is past Open, unless the handler was told of it by them.
use Rattle.run_told.proofs.Below.{◌≡◌, ◌⊎◌, inl, inr, ⊎_elim, ◌<◌, ◌+◌, ◌-◌, ◌^◌, min, ℕ, List, [], ◌∷◌, Option, Some, Bool, true, false, cond, not, ◌&&◌, ◌||◌, nat_eq, nat_lt, refl, sym, ap, ◌∙◌, subst, arith, and-false, or-true, nat_tests, list_any, Phase, Open, NoteValue, OrderValue, send, subscribe, unsubscribe, publish, close, with_topic, without_topic, and_left, and_right, and_true, by_cases, clash, stays_false, accepted_by, has_number, is_accepted, closing, is_open, leaves_open, moved, topics_left, is_of, unless_gone, Step, by_note, by_order, notes_of, Tell, has_news, is_telling, is_told, marked, nothing_told, one_dropped, tell_by, tell_by_all, none_moves, Progress, may_all_step, may_come, may_step, progress_after, progress_by, progress_by_steps, progress_obeys, rest_unaccepted, is_early, early_before}
use Rattle.ws_kinds.specs.NoteValue as note
use Rattle.run_told.proofs.PhaseLemmas.{early_shown, late_closing, open_is}

-- it was told of or is past Open, or it is open and has something to tell
abbrev pub Owes : Bool → Option Phase → Tell → Type 0
Owes told p t = ((told || not (is_early p)) ≡ true) ⊎ ((is_open p && has_news t) ≡ true)

-- ---- one note of the connection

some_dropped : (n last : ℕ) → 0 < last → nat_lt 0 (min (n + 1) last) ≡ true
some_dropped n last l = grind (arith, nat_tests)

dropped_news : (t : Tell) → has_news (one_dropped t) ≡ true
dropped_news t = ap (λ (z : Bool). z || t.drained) (some_dropped t.dropped (2 ^ 64 - 1) (omega arith))

-- what it makes of what stands to be told
tell_own : NoteValue → Tell → Tell
tell_own (note.opened c route param) t = marked t
tell_own (note.told c dropped drained) t = marked t
tell_own (note.dropped c index held) t = one_dropped t
tell_own (note.gone c left) t = nothing_told
tell_own _ t = t

tell_is : (c : ℕ) (n : NoteValue) (t : Tell) → tell_by c n t ≡ cond (is_of c n) (tell_own n t) t
unfolding tell_own
tell_is c (note.opened d route param) t = refl
tell_is c (note.told d dropped drained) t = refl
tell_is c (note.dropped d index held) t = refl
tell_is c (note.gone d left) t = refl
tell_is c n t = one (is_of c n)
  where
    one : (b : Bool) → t ≡ cond b t t
    one true = refl
    one false = refl

told_is : (c : ℕ) (n : NoteValue) → is_told c n ≡ (is_of c n && is_telling n)
told_is c (note.told d dropped drained) = and_true (nat_eq d c)
told_is c n = sym (and-false (is_of c n))

own_owes : (n : NoteValue) (t : Tell) → may_come (Some Open) n ≡ true → has_news t ≡ true → Owes (is_telling n) (unless_gone (moved (Some Open) n)) (tell_own n t)
unfolding tell_own
own_owes (note.told c dropped drained) t may news = inl refl
own_owes (note.peer_close c code reason) t may news = inl refl
own_owes (note.failed c code) t may news = inl refl
own_owes (note.gone c left) t may news = inl refl
own_owes (note.dropped c index held) t may news = inr (dropped_news t)
own_owes (note.opened c route param) t may news = clash false refl may
own_owes _ t may news = inr news

-- ---- one step

note_owes : (c : ℕ) (n : NoteValue) (p : Progress) (t : Tell) → may_step c (by_note n) p ≡ true → (is_open p.phase && has_news t) ≡ true → Owes (is_told c n) (progress_after c n p).phase (tell_by c n t)
note_owes c n p t may owes =
    subst (λ (z : Tell). Owes (is_told c n) (progress_after c n p).phase z) (sym (tell_is c n t))
    (subst (λ (z : Bool). Owes z (progress_after c n p).phase (cond (is_of c n) (tell_own n t) t)) (sym (told_is c n)) (one (is_of c n) may))
  where
    now : p.phase ≡ Some Open
    now = open_is p.phase (and_left (is_open p.phase) (has_news t) owes)

    one : (b : Bool) → cond b (may_come p.phase n) true ≡ true → Owes (b && is_telling n) (cond b (progress_by n p) p).phase (cond b (tell_own n t) t)
    one true may = subst (λ (z : Option Phase). Owes (is_telling n) (unless_gone (moved z n)) (tell_own n t)) (sym now)
        (own_owes n t (ap (λ (z : Option Phase). may_come z n) (sym now) ∙ may) (and_right (is_open p.phase) (has_news t) owes))
    one false may = inr owes

note_late : (c : ℕ) (n : NoteValue) (p : Progress) → has_number c (accepted_by n) ≡ false → is_early p.phase ≡ false → is_early (progress_after c n p).phase ≡ false
note_late c n p e late = by_cases (is_of c n)
    (λ own. ap (λ (z : Bool). is_early (cond z (progress_by n p) p).phase) own ∙ early_shown (moved p.phase n)
    ∙ stays_false (is_early p.phase) (is_early (moved p.phase n)) (early_before p.phase n (none_moves c n e own)) late)
    (λ other. ap (λ (z : Bool). is_early (cond z (progress_by n p) p).phase) other ∙ late)

-- an order leaves the phase, or closes it
order_phase : (P : Option Phase → Type 0) (from c : ℕ) (o : OrderValue) (p : Progress) → P p.phase → P (closing p.phase) → P (progress_obeys from c o p).phase
order_phase P from c (send to kind body) p stays closes = stays
order_phase P from c (publish topic kind body) p stays closes = stays
order_phase P from c (subscribe topic) p stays closes = one (nat_eq from c)
  where
    one : (b : Bool) → P (cond b (record { phase = p.phase; topics = with_topic topic p.topics; due = p.due }) p).phase
    one true = stays
    one false = stays
order_phase P from c (unsubscribe topic) p stays closes = one (nat_eq from c)
  where
    one : (b : Bool) → P (cond b (record { phase = p.phase; topics = without_topic topic p.topics; due = p.due }) p).phase
    one true = stays
    one false = stays
order_phase P from c (close code reason) p stays closes = one (nat_eq from c) (cond (leaves_open p.phase (closing p.phase)) (Some (code, reason)) p.due)
  where
    one : (b : Bool) (due : Option (ℕ × List ℕ)) → P (cond b (record { phase = closing p.phase; topics = topics_left p.phase (closing p.phase) p.topics; due = due }) p).phase
    one true due = closes
    one false due = stays

order_owes : (from c : ℕ) (o : OrderValue) (p : Progress) (t : Tell) → (is_open p.phase && has_news t) ≡ true → Owes false (progress_obeys from c o p).phase t
order_owes from c o p t owes = order_phase (λ (z : Option Phase). Owes false z t) from c o p (inr owes)
    (inl (ap (λ (z : Option Phase). not (is_early (closing z))) (open_is p.phase (and_left (is_open p.phase) (has_news t) owes))))

-- ---- steps

pub steps_late : (c : ℕ) (xs : List Step) (p : Progress) → is_accepted c (notes_of xs) ≡ false → is_early p.phase ≡ false → is_early (progress_by_steps c xs p).phase ≡ false
steps_late c [] p e late = late
steps_late c (by_note n ∷ xs) p e late =
    let u = rest_unaccepted c n (notes_of xs) e in
    steps_late c xs (progress_after c n p) u.1 (note_late c n p u.0 late)
steps_late c (by_order from o ∷ xs) p e late = steps_late c xs (progress_obeys from c o p) e (order_phase (λ (z : Option Phase). is_early z ≡ false) from c o p late (late_closing p.phase late))

-- told of or past Open by the first step, and by the others
pub done_first : (now later was is : Bool) → (now || not was) ≡ true → (was ≡ false → is ≡ false) → ((now || later) || not is) ≡ true
done_first true later was is e stays = refl
done_first false later true is e stays = clash false refl e
done_first false later false is e stays = ap (λ (z : Bool). later || not z) (stays refl) ∙ or-true later

pub done_later : (now later is : Bool) → (later || not is) ≡ true → ((now || later) || not is) ≡ true
done_later true later is e = refl
done_later false later is e = e

pub steps_owe : (c : ℕ) (xs : List Step) (p : Progress) (t : Tell) → may_all_step c xs p ≡ true → is_accepted c (notes_of xs) ≡ false → (is_open p.phase && has_news t) ≡ true
    → Owes (list_any (is_told c) (notes_of xs)) (progress_by_steps c xs p).phase (tell_by_all c (notes_of xs) t)
steps_owe c [] p t may e owes = inr owes
steps_owe c (by_note n ∷ xs) p t may e owes =
    let q = progress_after c n p in
    let u = rest_unaccepted c n (notes_of xs) e in
    let later = list_any (is_told c) (notes_of xs) in
    let last = is_early (progress_by_steps c xs q).phase in
    ⊎_elim
    (λ (done : (is_told c n || not (is_early q.phase)) ≡ true). inl (done_first (is_told c n) later (is_early q.phase) last done (steps_late c xs q u.1)))
    (λ (still : (is_open q.phase && has_news (tell_by c n t)) ≡ true). ⊎_elim
    (λ (done : (later || not last) ≡ true). inl (done_later (is_told c n) later last done))
    (λ owed. inr owed)
    (steps_owe c xs q (tell_by c n t) (and_right (may_step c (by_note n) p) (may_all_step c xs q) may) u.1 still))
    (note_owes c n p t (and_left (may_step c (by_note n) p) (may_all_step c xs q) may) owes)
steps_owe c (by_order from o ∷ xs) p t may e owes =
    let q = progress_obeys from c o p in
    let later = list_any (is_told c) (notes_of xs) in
    ⊎_elim
    (λ (done : not (is_early q.phase) ≡ true). inl (done_first false later (is_early q.phase) (is_early (progress_by_steps c xs q).phase) done (steps_late c xs q e)))
    (λ still. steps_owe c xs q t (and_right (may_step c (by_order from o) p) (may_all_step c xs q) may) e still)
    (order_owes from c o p t owes)
