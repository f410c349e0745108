-- What a hub handed out is noted as told.
use Rattle.run_told.proofs.Below.{◌≡◌, ℕ, List, [], ◌∷◌, Option, Some, Bool, true, false, cond, ◌&&◌, nat_eq, refl, sym, ap, ◌∙◌, subst, Phase, Head, Open, Leaving, Ending, Gone, NoteValue, IsNoted, by_cases, clash, and_left, equal_is, no_more, NetState, is_open, unless_gone, has_news, HubState, server, entry_at, is_present, ring_at, nothing, keeps_note, short_silent, split_told, Appends, KeepsFront, SameDrops, fairly_later, items_at, NetAfter, FailsAfter, progress_at, progress_by, progress_after, may_come, standings_at, topics_at, due_at, tell_at, appends_after_nothing, net_same, fails_same, told_one, TellsNext, TakesTold}
use Rattle.ws_kinds.specs.NoteValue as note
use Rattle.run_told.proofs.PhaseLemmas.{open_is}

-- ---- what a hub makes of the note

own_told : (c d : ℕ) (b : Bool) (phase : Phase) (topics : List (List ℕ)) (due : Option (ℕ × List ℕ))
    → progress_by (note.told c d b) (record { phase = unless_gone (Some phase); topics = topics; due = due }) ≡ record { phase = unless_gone (Some phase); topics = topics; due = due }
own_told c d b Head topics due = refl
own_told c d b Open topics due = refl
own_told c d b Leaving topics due = refl
own_told c d b Ending topics due = refl
own_told c d b Gone topics due = refl

told_still : (h : HubState) (e c d : ℕ) (b : Bool) → progress_after e (note.told c d b) (progress_at h e) ≡ progress_at h e
told_still h e c d b = one (nat_eq c e)
  where
    one : (own : Bool) → cond own (progress_by (note.told c d b) (progress_at h e)) (progress_at h e) ≡ progress_at h e
    one true = own_told c d b (entry_at h e).phase (topics_at h e) (due_at h e)
    one false = refl

may_tell : (h : HubState) (e c d : ℕ) (b : Bool) → is_open (standings_at h c).phase ≡ true → (cond (nat_eq c e) (may_come (progress_at h e).phase (note.told c d b)) true && true) ≡ true
may_tell h e c d b now = by_cases (nat_eq c e)
    (λ own.
    let here : (progress_at h e).phase ≡ Some Open = subst (λ (z : ℕ). (progress_at h z).phase ≡ Some Open) (equal_is c e own) (open_is (standings_at h c).phase now) in
    ap (λ (z : Bool). cond z (may_come (progress_at h e).phase (note.told c d b)) true && true) own ∙ ap (λ (z : Option Phase). may_come z (note.told c d b) && true) here)
    (λ other. ap (λ (z : Bool). cond z (may_come (progress_at h e).phase (note.told c d b)) true && true) other)

-- ---- what it leaves of the net, and of the lines

told_net : (c d : ℕ) (b : Bool) (net : NetState) → NetAfter (note.told c d b ∷ []) net net
told_net c d b net =
    let x = net_same net in
    record {
      net = x.net;
      told = λ tells. let y = x.told tells in record { wrote = y.wrote; taken = y.taken; given = y.given; ended = y.ended; passed = refl; rested = refl };
      live = x.live;
      due = λ e stays. refl;
      named = refl;
      port = refl;
      room = x.room;
    }

told_fails : (c d : ℕ) (b : Bool) (net : NetState) → FailsAfter (note.told c d b ∷ []) net net
told_fails c d b net = let x = fails_same net in record { broken = x.broken; faults = x.faults }

module _ (h : HubState) (net : NetState) (t t' : Option (List NoteValue)) (c d : ℕ) (b : Bool) (noted : IsNoted t (note.told c d b) t') where
  drops_nothing : (e : ℕ) → SameDrops e t t'
  drops_nothing e notes now = let q = split_told t t' (note.told c d b) notes noted now in (q.0, note.told c d b ∷ [], q.1, q.2, λ i. refl)

  told_front : (e : ℕ) → KeepsFront e [] (server h net t) (server h net t')
  told_front e = record {
    tells = refl;
    told = λ notes now. let q = split_told t t' (note.told c d b) notes noted now in (q.0, q.1);
    count = λ there few. no_more (items_at h e);
    front = λ there away few items stands. clash (is_present h e) away there;
    taken = λ away. refl;
    drops = λ away. drops_nothing e;
    fair = λ there away few items stands fair. clash (is_present h e) away there;
    stays = λ away limit items. fairly_later e limit items net net t t' refl (drops_nothing e);
  }

  told_appends : Appends nothing (server h net t) (server h net t')
  told_appends = record {
    lines = keeps_note h net net t t' (note.told c d b) (λ e. refl) noted (λ e. refl);
    fronts = λ e below. told_front e;
    short = λ s e there. short_silent e (ring_at h e) t t' (note.told c d b) noted refl (s e there);
    waits = λ w. w;
  }

-- ---- both

pub noted_next : (after c d : ℕ) (b : Bool) (old new : HubState) (net : NetState) (t t' : Option (List NoteValue)) → TakesTold after c d b old new → Appends nothing (server old net t) (server new net t)
    → IsNoted t (note.told c d b) t' → TellsNext after c d b (server old net t) (server new net t')
noted_next after c d b old new net t t' x app noted = record {
  next = x.next;
  makes = record {
    advances = record {
      told = told_one t t' (note.told c d b) noted;
      may_come = λ e. may_tell old e c d b (and_left (is_open (standings_at old c).phase) (has_news (tell_at old c)) x.next.news);
      progress = λ e. x.progress e ∙ sym (told_still old e c d b);
      tells = λ turnless e. x.tells e;
      counts = λ uncounted. x.counts;
      net = told_net c d b net;
    };
    fails = told_fails c d b net;
  };
  appends = appends_after_nothing nothing (server old net t) (server new net t) (server new net t') app (told_appends new net t t' c d b noted);
}
