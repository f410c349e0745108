-- What is kept of connections of which no frames are read.
use Rattle.run_kept.proofs.Below.{◌≡◌, ℕ, List, Option, Some, None, Bool, true, false, cond, sym, ap, ◌∙◌, subst, Phase, Head, Open, Leaving, Ending, Gone, ConfigValue, NoteValue, RouteTable, ReaderView, phase, world, Heard, heard, last_frame, HubState, Server, has_entry, entry_at, phase_at, unless_gone, by_cases, agrees_phase, IntakeView, HearsAt, RestsAt, IsRouted, Kept}
use Rattle.run_meaning.specs.Server as run

-- ---- no entry

none_at : (h : HubState) (c : ℕ) → has_entry h.entries c ≡ false → phase_at h c ≡ None
none_at h c e = ap (λ (z : Bool). cond z (Some (entry_at h c).phase) None) e

hears_away : (table : RouteTable) (max : ℕ) (p : Option Phase) (last : Option ℕ) (hs : List Heard) (os : List ℕ) (old new : ReaderView) → unless_gone p ≡ None → HearsAt table max p last hs os old → HearsAt table max p last hs os new
hears_away table max None last hs os old new e h = h
hears_away table max (Some Head) last hs os old new e h = absurd (let z : Some Head ≡ None = e in cc)
hears_away table max (Some Open) last hs os old new e h = absurd (let z : Some Open ≡ None = e in cc)
hears_away table max (Some Leaving) last hs os old new e h = absurd (let z : Some Leaving ≡ None = e in cc)
hears_away table max (Some Ending) last hs os old new e h = absurd (let z : Some Ending ≡ None = e in cc)
hears_away table max (Some Gone) last hs os old new e h = h

rests_away : (table : RouteTable) (p : Option Phase) (os : List ℕ) (rd : ReaderView) → unless_gone p ≡ None → RestsAt table p os rd
rests_away table None os rd e = tt {0}
rests_away table (Some Head) os rd e = absurd (let z : Some Head ≡ None = e in cc)
rests_away table (Some Open) os rd e = absurd (let z : Some Open ≡ None = e in cc)
rests_away table (Some Leaving) os rd e = absurd (let z : Some Leaving ≡ None = e in cc)
rests_away table (Some Ending) os rd e = tt {0}
rests_away table (Some Gone) os rd e = tt {0}

module _ {S : Type 0} (r : run.Server S) where
  module _ (config : ConfigValue) (table : RouteTable) where
    pub shut_kept : (ns : List NoteValue) (s : Server) (now : S) (intakes left : ℕ → IntakeView) (reading : Option ℕ) → Kept r config table ns s now intakes reading
        → ((c : ℕ) → has_entry s.hub.entries c ≡ true → left c ≡ intakes c) → Kept r config table ns s now left reading
    shut_kept ns s now intakes left reading k same = record {
      agrees = k.agrees;
      follows = k.follows;
      ordered = k.ordered;
      state = k.state;
      unlike = k.unlike;
      configured = k.configured;
      hears = λ c. by_cases (has_entry s.hub.entries c)
          (λ there. subst (λ (z : IntakeView). HearsAt table config.max_message (phase r ns c) (last_frame r ns c) (heard c ns) (s.net.given c) z.reader) (sym (same c there)) (k.hears c))
          (λ none. hears_away table config.max_message (phase r ns c) (last_frame r ns c) (heard c ns) (s.net.given c) (intakes c).reader (left c).reader (away c none) (k.hears c));
      rests = λ c free. by_cases (has_entry s.hub.entries c)
          (λ there. subst (λ (z : IntakeView). RestsAt table (phase r ns c) (s.net.given c) z.reader) (sym (same c there)) (k.rests c free))
          (λ none. rests_away table (phase r ns c) (s.net.given c) (left c).reader (away c none));
      routed = λ c there. subst (λ (z : IntakeView). IsRouted z ((world r ns).line c)) (sym (same c there)) (k.routed c there);
    }
      where
        away : (c : ℕ) → has_entry s.hub.entries c ≡ false → unless_gone (phase r ns c) ≡ None
        away c none = sym (agrees_phase (world r ns) ns s k.agrees c) ∙ ap (λ (z : Option Phase). unless_gone z) (none_at s.hub c none)
