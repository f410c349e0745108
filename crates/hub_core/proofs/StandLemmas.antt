-- What connections are after octets went out.
use Rattle.hub_core.proofs.Below.{◌≡◌, ◌⊎◌, inl, inr, ◌^◌, ◌-◌, ℕ, List, [], ◌∷◌, ◌++◌, Option, Some, None, Bool, true, false, cond, not, length, refl, sym, ap, ◌∙◌, subst, append-nil, list_all, Phase, Head, Open, Leaving, Ending, Gone, NoteValue, Item, is_of, is_open, unless_gone, HubState, Server, is_present, is_gone, entry_at, KeepsLine, is_outgoing, Progress, progress_at, progress_by, progress_after, progress_after_all, standings_at, KeepsFront, items_at, TakesFront, DropsFairly, Proceeds, Appends, by_cases, clash, and_left, and_right, append_assoc, length-append, has_topic, drops_still, fairly_longer, front_later, fewer, unaccepted, outgoing_unaccepted, none_stays, away_by_phase}
use Rattle.ws_kinds.specs.NoteValue as note

abbrev progress : Option Phase → List (List ℕ) → Option (ℕ × List ℕ) → Progress
progress p ts x = record { phase = p; topics = ts; due = x }

-- ---- a note of what was to be sent

some_is : (p : Phase) → None ≡ Some p → ⊥
some_is p e = cc

own_outgoing : (n : NoteValue) (p : Option Phase) (ts : List (List ℕ)) (x : Option (ℕ × List ℕ)) → is_outgoing n ≡ true → unless_gone p ≡ p → (progress_by n (progress p ts x) ≡ progress p ts x) ⊎ ((progress_by n (progress p ts x)).phase ≡ None)
own_outgoing (note.took c o t) None ts x e h = inl refl
own_outgoing (note.took c o t) (Some Head) ts x e h = inl refl
own_outgoing (note.took c o t) (Some Open) ts x e h = inl refl
own_outgoing (note.took c o t) (Some Leaving) ts x e h = inl refl
own_outgoing (note.took c o t) (Some Ending) ts x e h = inl refl
own_outgoing (note.took c o t) (Some Gone) ts x e h = absurd (some_is Gone h)
own_outgoing (note.dropped c i k) None ts x e h = inl refl
own_outgoing (note.dropped c i k) (Some Head) ts x e h = inl refl
own_outgoing (note.dropped c i k) (Some Open) ts x e h = inl refl
own_outgoing (note.dropped c i k) (Some Leaving) ts x e h = inl refl
own_outgoing (note.dropped c i k) (Some Ending) ts x e h = inl refl
own_outgoing (note.dropped c i k) (Some Gone) ts x e h = absurd (some_is Gone h)
own_outgoing (note.gone c left) None ts x e h = inr refl
own_outgoing (note.gone c left) (Some Head) ts x e h = inr refl
own_outgoing (note.gone c left) (Some Open) ts x e h = inr refl
own_outgoing (note.gone c left) (Some Leaving) ts x e h = inr refl
own_outgoing (note.gone c left) (Some Ending) ts x e h = inr refl
own_outgoing (note.gone c left) (Some Gone) ts x e h = inr refl
own_outgoing _ p ts x e h = clash false refl e

one_outgoing : (c : ℕ) (n : NoteValue) (p : Progress) → is_outgoing n ≡ true → unless_gone p.phase ≡ p.phase → (progress_after c n p ≡ p) ⊎ ((progress_after c n p).phase ≡ None)
one_outgoing c n p e h = one (is_of c n) (own_outgoing n p.phase p.topics p.due e h)
  where
    one : (b : Bool) → (progress_by n p ≡ p) ⊎ ((progress_by n p).phase ≡ None) → (cond b (progress_by n p) p ≡ p) ⊎ ((cond b (progress_by n p) p).phase ≡ None)
    one true z = z
    one false z = inl refl

-- notes of what was to be sent leave a connection as it was, or it is gone
pub all_outgoing : (c : ℕ) (ns : List NoteValue) (p : Progress) → list_all is_outgoing ns ≡ true → unless_gone p.phase ≡ p.phase → (progress_after_all c ns p ≡ p) ⊎ ((progress_after_all c ns p).phase ≡ None)
all_outgoing c [] p e h = inl refl
all_outgoing c (n ∷ ns) p e h = then_all (all_outgoing c ns p rest h) (one_outgoing c n p (and_left (is_outgoing n) (list_all is_outgoing ns) e) h)
  where
    rest : list_all is_outgoing ns ≡ true
    rest = and_right (is_outgoing n) (list_all is_outgoing ns) e

    back : progress_after c n p ≡ p → (progress_after_all c ns p ≡ p) ⊎ ((progress_after_all c ns p).phase ≡ None) → (progress_after_all c ns (progress_after c n p) ≡ p) ⊎ ((progress_after_all c ns (progress_after c n p)).phase ≡ None)
    back same (inl z) = inl (ap (progress_after_all c ns) same ∙ z)
    back same (inr z) = inr (ap (λ (q : Progress). (progress_after_all c ns q).phase) same ∙ z)

    then_all : (progress_after_all c ns p ≡ p) ⊎ ((progress_after_all c ns p).phase ≡ None) → (progress_after c n p ≡ p) ⊎ ((progress_after c n p).phase ≡ None)
        → (progress_after_all c ns (progress_after c n p) ≡ p) ⊎ ((progress_after_all c ns (progress_after c n p)).phase ≡ None)
    then_all later (inl same) = back same later
    then_all later (inr away) = inr (none_stays c ns (progress_after c n p) (unaccepted ns c (outgoing_unaccepted ns rest)) away)

shown_twice : (p : Option Phase) → unless_gone (unless_gone p) ≡ unless_gone p
shown_twice None = refl
shown_twice (Some Head) = refl
shown_twice (Some Open) = refl
shown_twice (Some Leaving) = refl
shown_twice (Some Ending) = refl
shown_twice (Some Gone) = refl

-- so after a call that sends and does nothing else
pub sent_or_gone : (a b : Server) → Proceeds [] [] a b → (c : ℕ) → (progress_at b.hub c ≡ progress_at a.hub c) ⊎ (is_present b.hub c ≡ false)
sent_or_gone a b x c = one (all_outgoing c x.sending (progress_at a.hub c) x.outgoing (shown_twice (Some (entry_at a.hub c).phase)))
  where
    adv : progress_at b.hub c ≡ progress_after_all c x.sending (progress_at a.hub c)
    adv = x.advances.progress c ∙ ap (λ (z : List NoteValue). progress_after_all c z (progress_at a.hub c)) (append-nil x.sending)

    one : (progress_after_all c x.sending (progress_at a.hub c) ≡ progress_at a.hub c) ⊎ ((progress_after_all c x.sending (progress_at a.hub c)).phase ≡ None)
        → (progress_at b.hub c ≡ progress_at a.hub c) ⊎ (is_present b.hub c ≡ false)
    one (inl same) = inl (adv ∙ same)
    one (inr away) = inr (away_by_phase b.hub c (ap (λ (z : Progress). z.phase) adv ∙ away))

-- ---- further items of those who are gone

front_more : (c : ℕ) (xs more : List Item) (a b : Server) → is_present b.hub c ≡ false → KeepsFront c xs a b → KeepsFront c (xs ++ more) a b
front_more c xs more a b away x = record {
  tells = x.tells;
  told = x.told;
  count = λ there. clash (is_present b.hub c) away there;
  front = λ was gone few items stands.
      subst (λ (z : List Item). TakesFront c z b.net b.told) (append_assoc items xs more)
      (front_later c (items ++ xs) more b.net b.net b.told b.told refl (drops_still c b.told)
      (x.front was gone (fewer (items_at a.hub c) (length xs) (length more) (length (xs ++ more)) (2 ^ 64 - 1) (length-append xs more) few) items stands));
  taken = x.taken;
  drops = x.drops;
  fair = λ was gone few items stands fair.
      subst (λ (z : List Item). DropsFairly c a.hub.config.limit z b.net b.told) (append_assoc items xs more)
      (fairly_longer c a.hub.config.limit (items ++ xs) more b.net b.told
      (x.fair was gone (fewer (items_at a.hub c) (length xs) (length more) (length (xs ++ more)) (2 ^ 64 - 1) (length-append xs more) few) items stands fair));
  stays = x.stays;
}

-- what is appended for those who are gone may be told as more
pub appends_gone : (f g : ℕ → List Item) (a b : Server) → Appends f a b → ((c : ℕ) → (f c ≡ g c) ⊎ ((is_present b.hub c ≡ false) × (more : List Item) × (g c ≡ f c ++ more))) → Appends g a b
appends_gone f g a b x h = record {
  lines = record { config = x.lines.config; named = x.lines.named; lines = λ c low. line c (h c) (x.lines.lines c low) };
  fronts = λ c low. front c (h c) (x.fronts c low);
  short = x.short;
  waits = x.waits;
}
  where
    line : (c : ℕ) → (f c ≡ g c) ⊎ ((is_present b.hub c ≡ false) × (more : List Item) × (g c ≡ f c ++ more)) → KeepsLine c (f c) a b → KeepsLine c (g c) a b
    line c (inl e) k = subst (λ (z : List Item). KeepsLine c z a b) e k
    line c (inr e) k = record { present = λ there. clash (is_present b.hub c) e.0 there; stands = λ there. clash (is_present b.hub c) e.0 there; fair = λ there. clash (is_present b.hub c) e.0 there }

    front : (c : ℕ) → (f c ≡ g c) ⊎ ((is_present b.hub c ≡ false) × (more : List Item) × (g c ≡ f c ++ more)) → KeepsFront c (f c) a b → KeepsFront c (g c) a b
    front c (inl e) k = subst (λ (z : List Item). KeepsFront c z a b) e k
    front c (inr e) k = subst (λ (z : List Item). KeepsFront c z a b) (sym e.2) (front_more c (f c) e.1 a b e.0 k)

-- ---- who is open

there_open : (p : Phase) → is_open (unless_gone (Some p)) ≡ true → not (is_gone p) ≡ true
there_open Head e = refl
there_open Open e = refl
there_open Leaving e = refl
there_open Ending e = refl
there_open Gone e = clash false refl e

pub present_open : (h : HubState) (c : ℕ) → is_open (standings_at h c).phase ≡ true → is_present h c ≡ true
present_open h c e = there_open (entry_at h c).phase e

pub open_has : (h : HubState) (c : ℕ) (topic : List ℕ) → (is_open (standings_at h c).phase ≡ false → (standings_at h c).topics ≡ []) → has_topic topic (standings_at h c).topics ≡ true → is_open (standings_at h c).phase ≡ true
open_has h c topic ends has = by_cases (is_open (standings_at h c).phase)
    (λ now. now)
    (λ off. clash false refl (sym (ap (has_topic topic) (ends off)) ∙ has))
