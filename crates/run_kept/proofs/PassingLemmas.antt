-- What is kept over calls that give no event and serve no order.
use Rattle.run_kept.proofs.Below.{◌≡◌, ◌≢◌, ℕ, List, [], ◌++◌, Option, Some, None, true, false, refl, sym, ap, ◌∙◌, subst, append-nil, list_any, list_all, Head, ConfigValue, NoteValue, RouteTable, is_event, is_unserved, gather, accepted_by, Line, World, noted_all, world, phase, Heard, heard, Follows, world_frames, lines_after, all_follow, none_follow, gather-append, Server, has_entry, clash, Agrees, AreUnlike, gathers_none, world_more, line_more, ordered_more, state_more, IntakeView, HearsAt, RestsAt, IsRouted, Kept, is_passing}
use Rattle.ws_kinds.specs.NoteValue as note
use Rattle.run_meaning.specs.Server as run
use Rattle.run_kept.proofs.IntakeLemmas.{Seen, Taken, is_beside, rests_judged, heard_beside, taken_lines}

pub none_reads : (c : ℕ) → None ≢ Some c
none_reads c e = let z : None ≡ Some c = e in cc

-- what the watch told is known
pub same_told : (xs ys : List NoteValue) (told : Option (List NoteValue)) → told ≡ Some xs → told ≡ Some ys → xs ≡ ys
same_told xs ys told e h = let z : Some xs ≡ Some ys = sym e ∙ h in cc

-- ---- one connection

pub taken_as : {table : RouteTable} {max : ℕ} {hs ks : List Heard} {os later : List ℕ} {i j : IntakeView} {done done' here here' : Type 0} {l m : Line} → ks ≡ hs → later ≡ os → j ≡ i → (done' → done) → (here' → here) → m ≡ l
    → Taken table max hs os i done here l → Taken table max ks later j done' here' m
taken_as {table = t} {max = max} {hs = hs} {ks = ks} {os = os} {later = later} {i = i} {j = j} {done = done} {done' = done'} {here = here} {here' = here'} {l = l} {m = m} heard octets intake finished there line x =
    subst (λ (z : Line). Taken t max ks later j done' here' z) (sym line)
    (subst (λ (z : IntakeView). Taken t max ks later z done' here' l) (sym intake)
    (subst (λ (z : List ℕ). Taken t max ks z i done' here' l) (sym octets)
    (subst (λ (z : List Heard). Taken t max z os i done' here' l) (sym heard) (record {
      seen = record { hears = x.seen.hears; rests = λ d. x.seen.rests (finished d); routed = λ h. x.seen.routed (there h) };
      counted = x.counted;
      calm = x.calm;
    }))))

module _ {S : Type 0} (r : run.Server S) (config : ConfigValue) (table : RouteTable) where
  -- one of which all octets that came were judged, if it is in phase Head
  pub taken_of : (ns : List NoteValue) (s : Server) (now : S) (intakes : ℕ → IntakeView) (reading : Option ℕ) → Kept r config table ns s now intakes reading → (c : ℕ) → (reading ≡ Some c → phase r ns c ≢ Some Head)
      → Taken table config.max_message (heard c ns) (s.net.given c) (intakes c) (reading ≢ Some c) (has_entry s.hub.entries c ≡ true) ((world r ns).line c)
  taken_of ns s now intakes reading k c calm = record {
    seen = record { hears = k.hears c; rests = k.rests c; routed = k.routed c };
    counted = world_frames r ns c;
    calm = λ head. rests_judged table (phase r ns c) (s.net.given c) (intakes c).reader (k.rests c (λ z. calm z head)) head;
  }

  -- one of which the notes of a call say nothing that was heard
  pub seen_beside : (ns ms : List NoteValue) (a b : Server) (now : S) (intakes news : ℕ → IntakeView) (reading later : Option ℕ) → Kept r config table ns a now intakes reading → (c : ℕ) → (reading ≡ Some c → phase r ns c ≢ Some Head)
      → list_all (is_beside c) ms ≡ true → b.net.given c ≡ a.net.given c → news c ≡ intakes c → (later ≢ Some c → reading ≢ Some c) → (has_entry b.hub.entries c ≡ true → has_entry a.hub.entries c ≡ true)
      → Seen table config.max_message (heard c (ns ++ ms)) (b.net.given c) (news c) (later ≢ Some c) (has_entry b.hub.entries c ≡ true) (lines_after r c ms ((world r ns).line c))
  seen_beside ns ms a b now intakes news reading later k c calm beside given same done here =
      (taken_as (heard_beside c ns ms beside) given same done here refl
      (taken_lines r c table config.max_message (heard c ns) (a.net.given c) (intakes c) (reading ≢ Some c) (has_entry a.hub.entries c ≡ true) ms ((world r ns).line c) beside (taken_of ns a now intakes reading k c calm))).seen

  -- ---- all of them

  pub kept_plain : (ns ms : List NoteValue) (a b : Server) (now : S) (intakes news : ℕ → IntakeView) (reading later : Option ℕ) → Kept r config table ns a now intakes reading
      → list_any is_event ms ≡ false → list_any is_unserved ms ≡ false → Agrees (noted_all r ms (world r ns)) (ns ++ ms) b → Follows (ns ++ ms) b.net → AreUnlike (gather accepted_by (ns ++ ms)) → b.hub.config ≡ a.hub.config
      → ((c : ℕ) → Seen table config.max_message (heard c (ns ++ ms)) (b.net.given c) (news c) (later ≢ Some c) (has_entry b.hub.entries c ≡ true) (lines_after r c ms ((world r ns).line c)))
      → Kept r config table (ns ++ ms) b now news later
  kept_plain ns ms a b now intakes news reading later k events named agrees follows unlike configured seen =
      let more : world r (ns ++ ms) ≡ noted_all r ms (world r ns) = world_more r ns ms events named in
      let line : (c : ℕ) → (world r (ns ++ ms)).line c ≡ lines_after r c ms ((world r ns).line c) = λ c. line_more r ns ms c events named in
      record {
        agrees = subst (λ (z : World S). Agrees z (ns ++ ms) b) (sym more) agrees;
        follows = follows;
        ordered = ordered_more r config ns ms events named k.ordered;
        state = k.state ∙ sym (ap (λ (z : World S). z.state) more ∙ state_more r ms (world r ns));
        unlike = unlike;
        configured = configured ∙ k.configured;
        hears = λ c. subst (λ (z : Line). HearsAt table config.max_message z.phase z.last_frame (heard c (ns ++ ms)) (b.net.given c) (news c).reader) (sym (line c)) (seen c).hears;
        rests = λ c free. subst (λ (z : Line). RestsAt table z.phase (b.net.given c) (news c).reader) (sym (line c)) ((seen c).rests free);
        routed = λ c there. subst (λ (z : Line). IsRouted (news c) z) (sym (line c)) ((seen c).routed there);
      }

-- ---- notes by which nothing is heard and nobody comes

passing_event : (n : NoteValue) → is_passing n ≡ true → is_event n ≡ false
passing_event (note.opened c route param) e = clash false refl e
passing_event (note.message c kind body) e = clash false refl e
passing_event (note.told c dropped drained) e = clash false refl e
passing_event (note.closed c code reason) e = clash false refl e
passing_event _ e = refl

passing_unserved : (n : NoteValue) → is_passing n ≡ true → is_unserved n ≡ false
passing_unserved (note.unserved c order reason) e = clash false refl e
passing_unserved _ e = refl

pub passing_accepts : (n : NoteValue) → is_passing n ≡ true → accepted_by n ≡ []
passing_accepts (note.accepted c) e = clash false refl e
passing_accepts _ e = refl

passing_beside : (c : ℕ) (n : NoteValue) → is_passing n ≡ true → is_beside c n ≡ true
passing_beside c (note.unserved d i y) e = refl
passing_beside c note.turn e = refl
passing_beside c note.tick e = refl
passing_beside c (note.busy d) e = refl
passing_beside c (note.no_room d) e = refl
passing_beside c (note.took d o t) e = refl
passing_beside c (note.dropped d i h) e = refl
passing_beside c (note.gone d left) e = refl
passing_beside c _ e = clash false refl e

pub same_numbers : (ns ms : List NoteValue) → gather accepted_by ms ≡ [] → AreUnlike (gather accepted_by ns) → AreUnlike (gather accepted_by (ns ++ ms))
same_numbers ns ms e unlike =
    subst AreUnlike (sym (gather-append accepted_by ns ms ∙ ap (λ (z : List ℕ). gather accepted_by ns ++ z) e ∙ append-nil (gather accepted_by ns))) unlike

-- what a server keeps goes on by such notes, where hub and net are as they say
pub kept_passing : {S : Type 0} (r : run.Server S) (f : ConfigValue) (t : RouteTable) (ns ms : List NoteValue) (a b : Server) (now : S) (is : ℕ → IntakeView) → Kept r f t ns a now is None
    → list_all is_passing ms ≡ true → Agrees (noted_all r ms (world r ns)) (ns ++ ms) b → Follows (ns ++ ms) b.net → b.hub.config ≡ a.hub.config → ((c : ℕ) → b.net.given c ≡ a.net.given c)
    → ((c : ℕ) → has_entry b.hub.entries c ≡ true → has_entry a.hub.entries c ≡ true) → Kept r f t (ns ++ ms) b now is None
kept_passing r f t ns ms a b now is k e agrees follows config given entries =
    kept_plain r f t ns ms a b now is is None None k (none_follow is_passing is_event passing_event ms e) (none_follow is_passing is_unserved passing_unserved ms e) agrees follows
    (same_numbers ns ms (gathers_none is_passing accepted_by passing_accepts ms e) k.unlike) config
    (λ c. seen_beside r f t ns ms a b now is is None None k c (λ z. absurd (none_reads c z)) (all_follow is_passing (is_beside c) (passing_beside c) ms e) (given c) refl (λ free. free) (entries c))
