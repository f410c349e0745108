-- What a hub has to tell beside what its notes say, and what the handler was told.
use Rattle.run_told.proofs.Below.{◌≡◌, ◌<◌, ◌+◌, ◌-◌, ◌^◌, ℕ, List, [], ◌∷◌, ◌++◌, Option, Bool, true, false, cond, not, is_some, ◌&&◌, length, refl, sym, ap, ◌∙◌, subst, append-nil, append_assoc, length-append, arith, or-true, list_all, list_any, Phase, ConfigValue, NoteValue, OrderValue, by_cases, clash, all_spelled, taken, drops, is_accepted, is_turn, kept, kept_of, Carries, World, is_open, is_gone_phase, phase, plain, world, is_away, is_outgoing, notes_of, Tell, has_news, at_turn, tell_by_all, is_telling, tell, held_after, has_to_tell, IsToldRight, ToldRight, place_of, place_of_one, drops-append, taken-append, list_any-append, early, late, old, new, all_follow, none_follow, none_then, world_plain, open_shown, HubState, TellingValue, entry_at, is_present, ring_at, Settled, Proceeds, standings_at, ServesAll, TellsBy, EndsTelling, held_in, tell_at, tell_of, EndsTurn, finishes, Agrees, is_of_orders, rests_of, agrees_carried, orders_notes, outgoing_of_orders, phase_some, IsTold, TellsNext, Tellings, HoldsAs, IsNextTold, news_at}
use Rattle.ws_kinds.specs.NoteValue as note
use Rattle.run_meaning.specs.Server as run
use Rattle.hub_lines.specs.State.{Server}
use Rattle.run_told.proofs.PhaseLemmas.{away_shown, present_shown, here_known}
use Rattle.run_told.proofs.TellLemmas.{tell_within, tell_turn}

-- ---- notes of orders, and of what was sent, end no turn and do not say that the handler was told

orders_turnless : (ns : List NoteValue) → list_all is_of_orders ns ≡ true → list_any is_turn ns ≡ false
orders_turnless ns e = none_follow is_of_orders is_turn one ns e
  where
    one : (n : NoteValue) → is_of_orders n ≡ true → is_turn n ≡ false
    one note.turn e = clash false refl e
    one _ e = refl

orders_silent : (ns : List NoteValue) → list_all is_of_orders ns ≡ true → list_any is_telling ns ≡ false
orders_silent ns e = none_follow is_of_orders is_telling one ns e
  where
    one : (n : NoteValue) → is_of_orders n ≡ true → is_telling n ≡ false
    one (note.told c dropped drained) e = clash false refl e
    one _ e = refl

sent_of_orders : (ns : List NoteValue) → list_all is_outgoing ns ≡ true → list_all is_of_orders ns ≡ true
sent_of_orders ns e = all_follow is_outgoing is_of_orders outgoing_of_orders ns e

pub finishes_turnless : (cs : List ℕ) → list_any is_turn (finishes cs) ≡ false
finishes_turnless [] = refl
finishes_turnless (c ∷ cs) = finishes_turnless cs

pub finishes_silent : (cs : List ℕ) → list_any is_telling (finishes cs) ≡ false
finishes_silent [] = refl
finishes_silent (c ∷ cs) = finishes_silent cs

module _ (f : ConfigValue) (admits : List ℕ → Bool) (from number : ℕ) (os : List OrderValue) (a b : Server) (x : ServesAll f admits from number os a b) where
  pub served_of_orders : list_all is_of_orders (notes_of x.steps) ≡ true
  served_of_orders = orders_notes is_of_orders f admits from outgoing_of_orders (λ i why. refl) os number x.steps (standings_at a.hub) x.performs

  pub served_turnless : list_any is_turn (notes_of x.steps) ≡ false
  served_turnless = orders_turnless (notes_of x.steps) served_of_orders

-- ---- what is held

-- what is held is what is kept without what was taken
rest_held : (gone : Bool) (took held octets : List ℕ) (count : ℕ) → gone ≡ false → Carries gone took held octets → length took ≡ count → length octets - count ≡ length held
rest_held gone took held octets count e carries same =
    let whole : took ++ held ≡ octets = subst (λ (z : Bool). Carries z took held octets) e carries in
    less (length octets) (length took) (length held) count (sym (ap length whole) ∙ length-append took held) same
  where
    less : (n t h k : ℕ) → n ≡ t + h → t ≡ k → n - k ≡ h
    less n t h k e f = omega arith

module _ {S : Type 0} (r : run.Server S) where
  -- ---- the hub has to tell what the notes say

  pub tellings_first : (h : HubState) → h.tellings ≡ [] → Tellings r [] h
  tellings_first h none c = ap (λ (z : List TellingValue). tell_of z c) none

  pub tellings_call : (ns ms : List NoteValue) (h k : HubState) → list_any is_turn ms ≡ false → TellsBy ms h k → Tellings r ns h → Tellings r (ns ++ ms) k
  tellings_call ns ms h k e by t c = by e c ∙ ap (tell_by_all c ms) (t c) ∙ sym (tell_within r ns ms c e)

  pub tellings_proceed : (ns first last : List NoteValue) (a b : Server) (x : Proceeds first last a b) → list_any is_turn first ≡ false → list_any is_turn last ≡ false → Tellings r ns a.hub
      → Tellings r (ns ++ (first ++ (x.sending ++ last))) b.hub
  tellings_proceed ns first last a b x e g t =
      let sent = orders_turnless x.sending (sent_of_orders x.sending x.outgoing) in
      tellings_call ns (first ++ (x.sending ++ last)) a.hub b.hub (none_then is_turn first (x.sending ++ last) e (none_then is_turn x.sending last sent g)) x.advances.tells t

  pub tellings_orders : (ns : List NoteValue) (f : ConfigValue) (admits : List ℕ → Bool) (from number : ℕ) (os : List OrderValue) (a b : Server) (x : ServesAll f admits from number os a b) → Tellings r ns a.hub
      → Tellings r (ns ++ notes_of x.steps) b.hub
  tellings_orders ns f admits from number os a b x = tellings_call ns (notes_of x.steps) a.hub b.hub (served_turnless f admits from number os a b x) (x.does (λ _. [])).tells

  -- that a turn ends changes nothing of what is held
  held_turn : (ns : List NoteValue) (c : ℕ) → held_after r (ns ++ note.turn ∷ []) c ≡ held_after r ns c
  held_turn ns c =
      let all = ns ++ note.turn ∷ [] in
      ap (λ (w : World S). cond (is_away (w.line c).phase) 0 (length (all_spelled (kept_of (drops c all) (w.line c).items)) - taken c all)) (world_plain r ns note.turn refl refl)
      ∙ ap (λ (ds : List ℕ). cond (is_away (phase r ns c)) 0 (length (all_spelled (kept_of ds (plain r ns c))) - taken c all)) (drops-append c ns (note.turn ∷ []) ∙ append-nil (drops c ns))
      ∙ ap (λ (k : ℕ). cond (is_away (phase r ns c)) 0 (length (all_spelled (kept r ns c)) - k)) (taken-append c ns (note.turn ∷ []) ∙ add_zero (taken c ns))
    where
      add_zero : (k : ℕ) → k + 0 ≡ k
      add_zero k = omega arith

  pub tellings_turn : (ns ms : List NoteValue) (h k : HubState) → list_any is_turn ms ≡ false → EndsTelling ms h k → HoldsAs r (ns ++ (ms ++ note.turn ∷ [])) k → Tellings r ns h → Tellings r (ns ++ (ms ++ note.turn ∷ [])) k
  tellings_turn ns ms h k e ends holds t c =
      let whole : (ns ++ ms) ++ note.turn ∷ [] ≡ ns ++ (ms ++ note.turn ∷ []) = append_assoc ns ms (note.turn ∷ []) in
      let held : held_in k c ≡ held_after r (ns ++ ms) c = sym (holds c) ∙ ap (λ (z : List NoteValue). held_after r z c) (sym whole) ∙ held_turn (ns ++ ms) c in
      ends c ∙ ap (λ (z : Tell). at_turn (held_in k c) (tell_by_all c ms z)) (t c) ∙ ap (at_turn (held_in k c)) (sym (tell_within r ns ms c e))
      ∙ ap (λ (z : ℕ). at_turn z (tell r (ns ++ ms) c)) held ∙ sym (tell_turn r (ns ++ ms) c) ∙ ap (λ (z : List NoteValue). tell r z c) whole

  pub tellings_end : (ns : List NoteValue) (a b : Server) (x : EndsTurn a b) → HoldsAs r (ns ++ (x.proceeds.sending ++ (finishes x.finished ++ note.turn ∷ []))) b.hub → Tellings r ns a.hub
      → Tellings r (ns ++ (x.proceeds.sending ++ (finishes x.finished ++ note.turn ∷ []))) b.hub
  tellings_end ns a b x =
      let sent = x.proceeds.sending in
      subst (λ (z : List NoteValue). HoldsAs r (ns ++ z) b.hub → Tellings r ns a.hub → Tellings r (ns ++ z) b.hub) (append_assoc sent (finishes x.finished) (note.turn ∷ []))
      (tellings_turn ns (sent ++ finishes x.finished) a.hub b.hub (none_then is_turn sent (finishes x.finished) (orders_turnless sent (sent_of_orders sent x.proceeds.outgoing)) (finishes_turnless x.finished)) x.tells)

  -- ---- what is held

  -- a connection is an entry that is not gone exactly where it is not away by the notes
  away_is : (ns : List NoteValue) (s : Server) → Agrees (world r ns) ns s → (c : ℕ) → is_away (phase r ns c) ≡ not (is_present s.hub c)
  away_is ns s x c =
      away_shown (phase r ns c) ∙ ap (λ (z : Option Phase). not (is_some z)) (sym (rests_of c ((world r ns).line c) ns s (x.lines c)).shown) ∙ ap not (present_shown (entry_at s.hub c).phase)

  pub holds_as : (ns : List NoteValue) (s : Server) → Agrees (world r ns) ns s → Settled s.hub → ((c : ℕ) → length (plain r ns c) < 2 ^ 64 - 1)
      → ((c : ℕ) → is_accepted c ns ≡ true → length (s.net.taken c) ≡ taken c ns) → HoldsAs r ns s.hub
  holds_as ns s x settled few took c =
      let p = phase r ns c in
      let rest = length (all_spelled (kept r ns c)) - taken c ns in
      by_cases (is_present s.hub c)
      (λ there.
      let here : is_away p ≡ false = away_is ns s x c ∙ ap not there in
      let known = here_known p here in
      let accepted : is_accepted c ns ≡ true = sym (phase_some r c ns) ∙ known.0 in
      ap (λ (z : Bool). cond z 0 rest) here
      ∙ rest_held (is_gone_phase p) (s.net.taken c) (ring_at s.hub c) (all_spelled (kept r ns c)) (taken c ns) known.1 (agrees_carried r ns s x settled c (few c) accepted) (took c accepted)
      ∙ ap (λ (z : Bool). cond z (length (ring_at s.hub c)) 0) (sym there))
      (λ gone. ap (λ (z : Bool). cond z 0 rest) (away_is ns s x c ∙ ap not gone) ∙ ap (λ (z : Bool). cond z (length (ring_at s.hub c)) 0) (sym gone))

  -- ---- what the handler was told

  pub news_is : (ns : List NoteValue) (s : Server) → Agrees (world r ns) ns s → Tellings r ns s.hub → (c : ℕ) → news_at s.hub c ≡ has_to_tell r ns c
  news_is ns s x t c =
      ap (λ (z : Option Phase). is_open z && has_news (tell_at s.hub c)) (rests_of c ((world r ns).line c) ns s (x.lines c)).shown
      ∙ ap (λ (z : Bool). z && has_news (tell_at s.hub c)) (open_shown (phase r ns c)) ∙ ap (λ (z : Tell). is_open (phase r ns c) && has_news z) (t c)

  pub next_right : (ns : List NoteValue) (after c d : ℕ) (b : Bool) (s : Server) → Agrees (world r ns) ns s → Tellings r ns s.hub → IsNextTold after c d b s.hub → IsToldRight r ns c d b
  next_right ns after c d b s x t next = record {
    dropped_is = next.dropped_is ∙ ap (λ (z : Tell). z.dropped) (t c);
    drained_is = next.drained_is ∙ ap (λ (z : Tell). z.drained) (t c);
    news = sym (news_is ns s x t c) ∙ next.news;
  }

  pub right_first : ToldRight r []
  right_first before rest c d b e = absurd (nothing before e)
    where
      nothing : (before : List NoteValue) → [] ≡ before ++ note.told c d b ∷ rest → ⊥
      nothing [] e = cc
      nothing (n ∷ before) e = cc

  pub right_more : (ns ms : List NoteValue) → list_any is_telling ms ≡ false → ToldRight r ns → ToldRight r (ns ++ ms)
  right_more ns ms none right before rest c d b e =
      elim (place_of ns ms before rest (note.told c d b) e) [
        | early more p q ↦ right before more c d b p
        | late more p q ↦ clash (list_any is_telling ms) none (ap (list_any is_telling) q ∙ list_any-append is_telling more (note.told c d b ∷ rest) ∙ or-true (list_any is_telling more))
      ]

  pub right_proceed : (ns first last : List NoteValue) (a b : Server) (x : Proceeds first last a b) → list_any is_telling first ≡ false → list_any is_telling last ≡ false → ToldRight r ns
      → ToldRight r (ns ++ (first ++ (x.sending ++ last)))
  right_proceed ns first last a b x e g =
      let sent = orders_silent x.sending (sent_of_orders x.sending x.outgoing) in
      right_more ns (first ++ (x.sending ++ last)) (none_then is_telling first (x.sending ++ last) e (none_then is_telling x.sending last sent g))

  pub right_orders : (ns : List NoteValue) (f : ConfigValue) (admits : List ℕ → Bool) (from number : ℕ) (os : List OrderValue) (a b : Server) (x : ServesAll f admits from number os a b) → ToldRight r ns
      → ToldRight r (ns ++ notes_of x.steps)
  right_orders ns f admits from number os a b x = right_more ns (notes_of x.steps) (orders_silent (notes_of x.steps) (served_of_orders f admits from number os a b x))

  pub right_told : (ns : List NoteValue) (conn dropped : ℕ) (drained : Bool) → IsToldRight r ns conn dropped drained → ToldRight r ns → ToldRight r (ns ++ note.told conn dropped drained ∷ [])
  right_told ns conn dropped drained now right before rest c d b e =
      elim (place_of_one ns before rest (note.told conn dropped drained) (note.told c d b) e) [
        | old more p q ↦ right before more c d b p
        | new p y q ↦
            let i : conn ≡ c = cc in
            let j : dropped ≡ d = cc in
            let k : drained ≡ b = cc in
            subst (λ (z : List NoteValue). IsToldRight r z c d b) (sym p)
            (subst (λ (z : ℕ). IsToldRight r ns z d b) i (subst (λ (z : ℕ). IsToldRight r ns conn z b) j (subst (λ (z : Bool). IsToldRight r ns conn dropped z) k now)))
      ]

  -- ---- both

  pub told_first : (h : HubState) → h.tellings ≡ [] → IsTold r [] h
  told_first h none = record { tellings = tellings_first h none; right = right_first }

  pub told_call : (ns ms : List NoteValue) (h k : HubState) → list_any is_turn ms ≡ false → list_any is_telling ms ≡ false → TellsBy ms h k → IsTold r ns h → IsTold r (ns ++ ms) k
  told_call ns ms h k turnless silent by x = record { tellings = tellings_call ns ms h k turnless by x.tellings; right = right_more ns ms silent x.right }

  pub told_proceed : (ns first last : List NoteValue) (a b : Server) (x : Proceeds first last a b) → list_any is_turn first ≡ false → list_any is_turn last ≡ false → list_any is_telling first ≡ false → list_any is_telling last ≡ false
      → IsTold r ns a.hub → IsTold r (ns ++ (first ++ (x.sending ++ last))) b.hub
  told_proceed ns first last a b x e g f h t = record { tellings = tellings_proceed ns first last a b x e g t.tellings; right = right_proceed ns first last a b x f h t.right }

  pub told_orders : (ns : List NoteValue) (f : ConfigValue) (admits : List ℕ → Bool) (from number : ℕ) (os : List OrderValue) (a b : Server) (x : ServesAll f admits from number os a b) → IsTold r ns a.hub
      → IsTold r (ns ++ notes_of x.steps) b.hub
  told_orders ns f admits from number os a b x t = record { tellings = tellings_orders ns f admits from number os a b x t.tellings; right = right_orders ns f admits from number os a b x t.right }

  pub told_next : (ns : List NoteValue) (after c d : ℕ) (b : Bool) (s t : Server) → Agrees (world r ns) ns s → TellsNext after c d b s t → IsTold r ns s.hub → IsTold r (ns ++ note.told c d b ∷ []) t.hub
  told_next ns after c d b s t x next told = record {
    tellings = tellings_call ns (note.told c d b ∷ []) s.hub t.hub refl next.makes.advances.tells told.tellings;
    right = right_told ns c d b (next_right ns after c d b s x told.tellings next.next) told.right;
  }

  pub told_end : (ns : List NoteValue) (a b : Server) (x : EndsTurn a b) → HoldsAs r (ns ++ (x.proceeds.sending ++ (finishes x.finished ++ note.turn ∷ []))) b.hub → IsTold r ns a.hub
      → IsTold r (ns ++ (x.proceeds.sending ++ (finishes x.finished ++ note.turn ∷ []))) b.hub
  told_end ns a b x holds told = record {
    tellings = tellings_end ns a b x holds told.tellings;
    right = right_proceed ns [] (finishes x.finished ++ note.turn ∷ []) a b x.proceeds refl (none_then is_telling (finishes x.finished) (note.turn ∷ []) (finishes_silent x.finished) refl) told.right;
  }
