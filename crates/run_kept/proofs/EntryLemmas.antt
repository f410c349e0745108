-- Who is an entry of a hub after a call was one before.
use Rattle.run_kept.proofs.Below.{◌≡◌, ◌⊎◌, inl, inr, ⊎_elim, ℕ, List, [], ◌∷◌, Option, Some, None, is_some, Bool, true, false, cond, nat_eq, not, ◌||◌, refl, sym, ap, ◌∙◌, subst, Phase, Head, Open, Leaving, Ending, Gone, NoteValue, OrderValue, send, subscribe, unsubscribe, publish, close, is_of, has_number, accepted_by, is_accepted, moved, closing, leaves_open, topics_left, with_topic, without_topic, cause_of, unless_gone, Step, by_note, by_order, notes_of, none_moves, HubState, Server, has_entry, entry_at, phase_at, Progress, progress_at, due_at, progress_by, progress_after, progress_after_all, progress_obeys, progress_by_steps, Advances, Does, IsTable, table_of, by_cases, clash, or_left, or_right, rest_unaccepted}
use Rattle.hub_lines.specs.State as hub

-- where nothing is left of a connection
pub record IsAway (p : Progress) : Type 0 where
  pub phase : p.phase ≡ None
  pub due : p.due ≡ None

there_shows : (p : Phase) → not (hub.is_gone p) ≡ is_some (unless_gone (Some p))
there_shows Head = refl
there_shows Open = refl
there_shows Leaving = refl
there_shows Ending = refl
there_shows Gone = refl

-- an entry is not gone, or its Closed event is due
entry_shows : (h : HubState) (c : ℕ) → IsTable (table_of h) → has_entry h.entries c ≡ (is_some (progress_at h c).phase || is_some (progress_at h c).due)
entry_shows h c table = table.kept c ∙ ap (λ (z : Bool). z || is_some (due_at h c)) (there_shows (entry_at h c).phase)

is_none : {A : Type 0} (x : Option A) → is_some x ≡ false → x ≡ None
is_none None e = refl
is_none (Some x) e = clash true e refl

pub entry_none : (h : HubState) (c : ℕ) → IsTable (table_of h) → has_entry h.entries c ≡ false → IsAway (progress_at h c)
entry_none h c table none =
    let p = progress_at h c in
    let both = sym (entry_shows h c table) ∙ none in
    record { phase = is_none p.phase (or_left (is_some p.phase) (is_some p.due) both); due = is_none p.due (or_right (is_some p.phase) (is_some p.due) both) }

none_entry : (h : HubState) (c : ℕ) → IsTable (table_of h) → IsAway (progress_at h c) → has_entry h.entries c ≡ false
none_entry h c table x = entry_shows h c table ∙ ap (λ (z : Option Phase). is_some z || is_some (progress_at h c).due) x.phase ∙ ap is_some x.due

-- ---- it stays so

away_note : (c : ℕ) (n : NoteValue) (p : Progress) → has_number c (accepted_by n) ≡ false → IsAway p → IsAway (progress_after c n p)
away_note c n p new x = by_cases (is_of c n)
    (λ own.
    let still : moved p.phase n ≡ None = ap (λ (z : Option Phase). moved z n) x.phase ∙ none_moves c n new own in
    record {
      phase = ap (λ (z : Bool). (cond z (progress_by n p) p).phase) own ∙ ap unless_gone still;
      due = ap (λ (z : Bool). (cond z (progress_by n p) p).due) own ∙ ap (λ (z : Option Phase). cond (leaves_open z (moved p.phase n)) (Some (cause_of n)) p.due) x.phase ∙ x.due;
    })
    (λ other. record { phase = ap (λ (z : Bool). (cond z (progress_by n p) p).phase) other ∙ x.phase; due = ap (λ (z : Bool). (cond z (progress_by n p) p).due) other ∙ x.due })

-- an order closes a phase, or leaves it
pub order_phase : (from c : ℕ) (o : OrderValue) (p : Progress) → ((progress_obeys from c o p).phase ≡ p.phase) ⊎ ((progress_obeys from c o p).phase ≡ closing p.phase)
order_phase from c (send to kind body) p = inl refl
order_phase from c (publish topic kind body) p = inl refl
order_phase from c (subscribe topic) p = one (nat_eq from c)
  where
    one : (b : Bool) → ((cond b (record { phase = p.phase; topics = with_topic topic p.topics; due = p.due }) p).phase ≡ p.phase) ⊎ ((cond b (record { phase = p.phase; topics = with_topic topic p.topics; due = p.due }) p).phase ≡ closing p.phase)
    one true = inl refl
    one false = inl refl
order_phase from c (unsubscribe topic) p = one (nat_eq from c)
  where
    one : (b : Bool) → ((cond b (record { phase = p.phase; topics = without_topic topic p.topics; due = p.due }) p).phase ≡ p.phase) ⊎ ((cond b (record { phase = p.phase; topics = without_topic topic p.topics; due = p.due }) p).phase ≡ closing p.phase)
    one true = inl refl
    one false = inl refl
order_phase from c (close code reason) p = one (nat_eq from c) (cond (leaves_open p.phase (closing p.phase)) (Some (code, reason)) p.due)
  where
    one : (b : Bool) (due : Option (ℕ × List ℕ)) → ((cond b (record { phase = closing p.phase; topics = topics_left p.phase (closing p.phase) p.topics; due = due }) p).phase ≡ p.phase)
        ⊎ ((cond b (record { phase = closing p.phase; topics = topics_left p.phase (closing p.phase) p.topics; due = due }) p).phase ≡ closing p.phase)
    one true due = inr refl
    one false due = inl refl

none_order : (from c : ℕ) (o : OrderValue) (p : Progress) → p.phase ≡ None → (progress_obeys from c o p).phase ≡ None
none_order from c o p e = ⊎_elim (λ same. same ∙ e) (λ closed. closed ∙ ap closing e) (order_phase from c o p)

away_order : (from c : ℕ) (o : OrderValue) (p : Progress) → IsAway p → IsAway (progress_obeys from c o p)
away_order from c o p x = record { phase = none_order from c o p x.phase; due = due o }
  where
    either : (b : Bool) (q p : Progress) → q.due ≡ None → p.due ≡ None → (cond b q p).due ≡ None
    either true q p e h = e
    either false q p e h = h

    due : (o : OrderValue) → (progress_obeys from c o p).due ≡ None
    due (send to kind body) = x.due
    due (publish topic kind body) = x.due
    due (subscribe topic) = either (nat_eq from c) (record { phase = p.phase; topics = with_topic topic p.topics; due = p.due }) p x.due x.due
    due (unsubscribe topic) = either (nat_eq from c) (record { phase = p.phase; topics = without_topic topic p.topics; due = p.due }) p x.due x.due
    due (close code reason) =
        either (nat_eq from c) (record { phase = closing p.phase; topics = topics_left p.phase (closing p.phase) p.topics; due = cond (leaves_open p.phase (closing p.phase)) (Some (code, reason)) p.due }) p
        (ap (λ (z : Option Phase). cond (leaves_open z (closing z)) (Some (code, reason)) p.due) x.phase ∙ x.due) x.due

away_steps : (c : ℕ) (xs : List Step) (p : Progress) → is_accepted c (notes_of xs) ≡ false → IsAway p → IsAway (progress_by_steps c xs p)
away_steps c [] p new x = x
away_steps c (by_note n ∷ xs) p new x =
    let u = rest_unaccepted c n (notes_of xs) new in
    away_steps c xs (progress_after c n p) u.1 (away_note c n p u.0 x)
away_steps c (by_order from o ∷ xs) p new x = away_steps c xs (progress_obeys from c o p) new (away_order from c o p x)

away_notes : (c : ℕ) (ns : List NoteValue) (p : Progress) → is_accepted c ns ≡ false → IsAway p → IsAway (progress_after_all c ns p)
away_notes c [] p new x = x
away_notes c (n ∷ ns) p new x = let u = rest_unaccepted c n ns new in away_notes c ns (progress_after c n p) u.1 (away_note c n p u.0 x)

-- ---- calls

pub entry_before : (c : ℕ) (ns : List NoteValue) (a b : Server) → Advances ns a b → is_accepted c ns ≡ false → IsTable (table_of a.hub) → IsTable (table_of b.hub) → has_entry b.hub.entries c ≡ true → has_entry a.hub.entries c ≡ true
entry_before c ns a b x new was now has = by_cases (has_entry a.hub.entries c) (λ here. here)
    (λ none. clash (has_entry b.hub.entries c) (none_entry b.hub c now (subst IsAway (sym (x.progress c)) (away_notes c ns (progress_at a.hub c) new (entry_none a.hub c was none)))) has)

-- the same of a call by its steps, where nothing was left of who was no entry
pub entry_through : (c : ℕ) (texts : ℕ → List ℕ) (xs : List Step) (a b : Server) → Does texts xs a b → is_accepted c (notes_of xs) ≡ false → IsTable (table_of b.hub) → IsAway (progress_at a.hub c) → has_entry b.hub.entries c ≡ false
entry_through c texts xs a b x new now away = none_entry b.hub c now (subst IsAway (sym (x.progress c)) (away_steps c xs (progress_at a.hub c) new away))

-- and of a call that accepts nobody
pub away_after : (c : ℕ) (ns : List NoteValue) (a b : Server) → Advances ns a b → is_accepted c ns ≡ false → IsAway (progress_at a.hub c) → IsAway (progress_at b.hub c)
away_after c ns a b x new away = subst IsAway (sym (x.progress c)) (away_notes c ns (progress_at a.hub c) new away)

-- a connection in a phase is an entry
pub phase_has_entry : (h : HubState) (c : ℕ) (p : Phase) → phase_at h c ≡ Some p → has_entry h.entries c ≡ true
phase_has_entry h c p e = by_cases (has_entry h.entries c) (λ has. has)
    (λ none. absurd (let z : None ≡ Some p = sym (ap (λ (z : Bool). cond z (Some (entry_at h c).phase) None) none) ∙ e in cc))
