-- Calls in the forms in which a hub states them.
use Rattle.run_laws.proofs.Below.{◌≡◌, ◌≢◌, ℕ, List, [], ◌∷◌, ◌++◌, Option, Some, None, Bool, true, false, cond, not, nat_eq, ◌&&◌, ◌||◌, refl, sym, ap, ◌∙◌, subst, append-nil, ⊎_elim, arith, cases_eq, not-true, nat_tests, list_any, list_all, Phase, Head, Open, Leaving, Ending, Gone, ConfigValue, NoteValue, OrderValue, Pong, Item, reply, whole, close_item, is_of, is_acceptance, Line, World, appended, sends, is_open, line_after, after_own, noted, noted_all, HubState, Server, PartingValue, Entry, entry_at, no_entry, phase_at, nothing, only, served, Standing, standings, unless_gone, why_at, due_at, progress_at, standing_in, standings_at, topics_of, topics_at, Advances, Proceeds, Appends, clash, and_left, and_right, outgoing_unaccepted, unaccepted_then, TakesDue, table_of, noted_line, all_follow, all_then, none_follow, none_then, open_shown, Agrees, is_closed, is_wordless, is_quiet}
use Rattle.ws_kinds.specs.NoteValue as note
use Rattle.run_meaning.specs.Server as run
use Rattle.hub_lines.specs.State as hub
use Rattle.run_laws.proofs.ProgressLemmas.{wordless_lines, outgoing_wordless, outgoing_unclosed, progress_is}
use Rattle.run_laws.proofs.AgreeLemmas.{agrees_call}
use Rattle.run_laws.proofs.CarryLemmas.{agrees_phase}

-- ---- tests of notes

quiet_acceptance : (n : NoteValue) → is_quiet n ≡ true → is_acceptance n ≡ false
quiet_acceptance n e = not-true (is_acceptance n) (and_left (not (is_acceptance n)) (not (is_closed n)) (and_right (is_wordless n) (not (is_acceptance n) && not (is_closed n)) e))

quiet_closed : (n : NoteValue) → is_quiet n ≡ true → is_closed n ≡ false
quiet_closed n e = not-true (is_closed n) (and_right (not (is_acceptance n)) (not (is_closed n)) (and_right (is_wordless n) (not (is_acceptance n) && not (is_closed n)) e))

pub quiet_unaccepted : (ns : List NoteValue) → list_all is_quiet ns ≡ true → list_any is_acceptance ns ≡ false
quiet_unaccepted ns e = none_follow is_quiet is_acceptance quiet_acceptance ns e

pub quiet_unclosed : (ns : List NoteValue) → list_all is_quiet ns ≡ true → list_any is_closed ns ≡ false
quiet_unclosed ns e = none_follow is_quiet is_closed quiet_closed ns e

pub quiet_wordless : (ns : List NoteValue) → list_all is_quiet ns ≡ true → list_all is_wordless ns ≡ true
quiet_wordless ns e = all_follow is_quiet is_wordless (λ n. and_left (is_wordless n) (not (is_acceptance n) && not (is_closed n))) ns e

-- ---- calls

module _ {S : Type 0} (r : run.Server S) where
  wordless_call : (w : World S) (ns after ms : List NoteValue) (a b : Server) → Agrees w ns a → Advances ms a b → Appends nothing a b → b.told ≡ Some after
      → list_any is_acceptance ms ≡ false → list_any is_closed ms ≡ false → list_all is_wordless ms ≡ true → Agrees (noted_all r ms w) (ns ++ ms) b
  wordless_call w ns after ms a b x adv app told away none silent =
      agrees_call r w ns after ms nothing a b x adv app told away none
      (λ c. ap (λ (z : Line). z.items) (noted_line r c ms w) ∙ wordless_lines r c ms (w.line c) silent ∙ sym (append-nil (w.line c).items))

  -- quiet notes
  pub agrees_quiet : (w : World S) (ns after ms : List NoteValue) (a b : Server) → Agrees w ns a → Advances ms a b → Appends nothing a b → b.told ≡ Some after → list_all is_quiet ms ≡ true → Agrees (noted_all r ms w) (ns ++ ms) b
  agrees_quiet w ns after ms a b x adv app told quiet = wordless_call w ns after ms a b x adv app told (quiet_unaccepted ms quiet) (quiet_unclosed ms quiet) (quiet_wordless ms quiet)

  -- what is held is sent, and then quiet notes
  pub agrees_last : (w : World S) (ns after last : List NoteValue) (a b : Server) (x : Proceeds [] last a b) → Agrees w ns a → Appends nothing a b → b.told ≡ Some after → list_all is_quiet last ≡ true
      → Agrees (noted_all r (x.sending ++ last) w) (ns ++ (x.sending ++ last)) b
  agrees_last w ns after last a b x agrees app told quiet =
      wordless_call w ns after (x.sending ++ last) a b agrees x.advances app told
      (unaccepted_then x.sending last (outgoing_unaccepted x.sending x.outgoing) (quiet_unaccepted last quiet))
      (none_then is_closed x.sending last (outgoing_unclosed x.sending x.outgoing) (quiet_unclosed last quiet))
      (all_then is_wordless x.sending last (outgoing_wordless x.sending x.outgoing) (quiet_wordless last quiet))

  -- a note, and then what is sent
  pub agrees_note : (w : World S) (ns after : List NoteValue) (n : NoteValue) (f : ℕ → List Item) (a b : Server) (x : Proceeds (n ∷ []) [] a b) → Agrees w ns a → Appends f a b → b.told ≡ Some after
      → is_acceptance n ≡ false → is_closed n ≡ false → ((c : ℕ) → ((noted r n w).line c).items ≡ (w.line c).items ++ f c) → Agrees (noted_all r x.sending (noted r n w)) (ns ++ n ∷ x.sending) b
  agrees_note w ns after n f a b x agrees app told away none items =
      agrees_call r w ns after (n ∷ x.sending) f a b agrees (subst (λ (z : List NoteValue). Advances (n ∷ z) a b) (append-nil x.sending) x.advances) app told
      (ap (λ (z : Bool). z || list_any is_acceptance x.sending) away ∙ outgoing_unaccepted x.sending x.outgoing)
      (ap (λ (z : Bool). z || list_any is_closed x.sending) none ∙ outgoing_unclosed x.sending x.outgoing)
      (λ c. ap (λ (z : Line). z.items) (noted_line r c x.sending (noted r n w)) ∙ wordless_lines r c x.sending ((noted r n w).line c) (outgoing_wordless x.sending x.outgoing) ∙ items c)

  -- ---- what a note appends

  appended_if : (b : Bool) (n : NoteValue) (l : Line) → (cond b (after_own r n l) l).items ≡ l.items ++ cond b (appended r l.phase n) []
  appended_if true n l = refl
  appended_if false n l = sym (append-nil l.items)

  -- to its own connection, and nothing to the others
  appends_of : (conn c : ℕ) (n : NoteValue) (item : Item) (l : Line) → is_of c n ≡ nat_eq conn c → appended r l.phase n ≡ item ∷ [] → (line_after r c n l).items ≡ l.items ++ only conn item c
  appends_of conn c n item l own e =
      appended_if (is_of c n) n l ∙ ap (λ (z : Bool). l.items ++ cond z (appended r l.phase n) []) own ∙ ap (λ (z : List Item). l.items ++ cond (nat_eq conn c) z []) e
      ∙ ap (λ (z : List Item). l.items ++ z) (for_one conn c item)
    where
      for_one : (conn c : ℕ) (item : Item) → cond (nat_eq conn c) (item ∷ []) [] ≡ only conn item c
      for_one conn c item = grind (arith, nat_tests)

  pub items_opened : (w : World S) (conn c route : ℕ) (param : List ℕ) → ((noted r (note.opened conn route param) w).line c).items ≡ (w.line c).items ++ only conn (reply (r.reply conn)) c
  items_opened w conn c route param = appends_of conn c (note.opened conn route param) (reply (r.reply conn)) (w.line c) refl refl

  pub items_head : (w : World S) (conn c status : ℕ) (text : List ℕ) → sends [] None (note.head conn status) ≡ reply text ∷ []
      → ((noted r (note.head conn status) w).line c).items ≡ (w.line c).items ++ only conn (reply text) c
  items_head w conn c status text e = appends_of conn c (note.head conn status) (reply text) (w.line c) refl e

  pub items_ping : (w : World S) (conn c : ℕ) (body : List ℕ) → ((noted r (note.ping_got conn body) w).line c).items ≡ (w.line c).items ++ only conn (whole Pong body) c
  items_ping w conn c body = appends_of conn c (note.ping_got conn body) (whole Pong body) (w.line c) refl refl

  close_where_open : (p : Option Phase) (conn code : ℕ) (reason : List ℕ) → appended r p (note.peer_close conn code reason) ≡ cond (is_open p) (close_item code ∷ []) []
  close_where_open None conn code reason = refl
  close_where_open (Some Head) conn code reason = refl
  close_where_open (Some Open) conn code reason = refl
  close_where_open (Some Leaving) conn code reason = refl
  close_where_open (Some Ending) conn code reason = refl
  close_where_open (Some Gone) conn code reason = refl

  fail_where_open : (p : Option Phase) (conn code : ℕ) → appended r p (note.failed conn code) ≡ cond (is_open p) (close_item code ∷ []) []
  fail_where_open None conn code = refl
  fail_where_open (Some Head) conn code = refl
  fail_where_open (Some Open) conn code = refl
  fail_where_open (Some Leaving) conn code = refl
  fail_where_open (Some Ending) conn code = refl
  fail_where_open (Some Gone) conn code = refl

  -- a close frame where the connection is open
  closes_of : (w : World S) (conn c : ℕ) (n : NoteValue) (item : Item) → is_of c n ≡ nat_eq conn c → appended r (w.line c).phase n ≡ cond (is_open (w.line c).phase) (item ∷ []) []
      → (line_after r c n (w.line c)).items ≡ (w.line c).items ++ served (is_open (w.line conn).phase) (only conn item) c
  closes_of w conn c n item own e =
      let l = w.line c in
      appended_if (is_of c n) n l ∙ ap (λ (z : Bool). l.items ++ cond z (appended r l.phase n) []) own ∙ ap (λ (z : List Item). l.items ++ cond (nat_eq conn c) z []) e
      ∙ ap (λ (z : List Item). l.items ++ z) (⊎_elim
      (λ (q : c ≡ conn).
      ap (λ (z : ℕ). cond (nat_eq conn c) (cond (is_open (w.line z).phase) (item ∷ []) []) []) q ∙ same (is_open (w.line conn).phase) conn c q)
      (λ (ne : c ≢ conn). other (is_open l.phase) (is_open (w.line conn).phase) conn c ne)
      (cases_eq c conn))
    where
      same : (b : Bool) (conn c : ℕ) → c ≡ conn → cond (nat_eq conn c) (cond b (item ∷ []) []) [] ≡ served b (only conn item) c
      same true conn c q = grind (arith, nat_tests)
      same false conn c q = grind (arith, nat_tests)

      other : (a b : Bool) (conn c : ℕ) → c ≢ conn → cond (nat_eq conn c) (cond a (item ∷ []) []) [] ≡ served b (only conn item) c
      other a true conn c ne = grind (arith, nat_tests)
      other a false conn c ne = grind (arith, nat_tests)

  pub items_close : (w : World S) (conn c code : ℕ) (reason : List ℕ)
      → ((noted r (note.peer_close conn code reason) w).line c).items ≡ (w.line c).items ++ served (is_open (w.line conn).phase) (only conn (close_item code)) c
  items_close w conn c code reason = closes_of w conn c (note.peer_close conn code reason) (close_item code) refl (close_where_open (w.line c).phase conn code reason)

  pub items_failed : (w : World S) (conn c code : ℕ) → ((noted r (note.failed conn code) w).line c).items ≡ (w.line c).items ++ served (is_open (w.line conn).phase) (only conn (close_item code)) c
  items_failed w conn c code = closes_of w conn c (note.failed conn code) (close_item code) refl (fail_where_open (w.line c).phase conn code)

-- ---- phases

there : (p : Phase) → hub.is_gone p ≡ false → unless_gone (Some p) ≡ Some p
there Head stays = refl
there Open stays = refl
there Leaving stays = refl
there Ending stays = refl
there Gone stays = clash true stays refl

none_hidden : (p : Phase) → hub.is_gone p ≡ false → None ≡ unless_gone (Some p) → ⊥
none_hidden Head stays e = let z : None ≡ Some Head = e in cc
none_hidden Open stays e = let z : None ≡ Some Open = e in cc
none_hidden Leaving stays e = let z : None ≡ Some Leaving = e in cc
none_hidden Ending stays e = let z : None ≡ Some Ending = e in cc
none_hidden Gone stays e = clash true stays refl

phase_shown : (p : Phase) (q : Option Phase) → hub.is_gone p ≡ false → unless_gone q ≡ unless_gone (Some p) → q ≡ Some p
phase_shown p None stays e = absurd (none_hidden p stays e)
phase_shown p (Some Gone) stays e = absurd (none_hidden p stays e)
phase_shown p (Some Head) stays e = e ∙ there p stays
phase_shown p (Some Open) stays e = e ∙ there p stays
phase_shown p (Some Leaving) stays e = e ∙ there p stays
phase_shown p (Some Ending) stays e = e ∙ there p stays

pub agrees_open : {S : Type 0} (w : World S) (ns : List NoteValue) (s : Server) → Agrees w ns s → (c : ℕ) → is_open (phase_at s.hub c) ≡ is_open (w.line c).phase
agrees_open w ns s x c = sym (open_shown (phase_at s.hub c)) ∙ ap is_open (agrees_phase w ns s x c) ∙ open_shown (w.line c).phase

pub agrees_told_phase : {S : Type 0} (w : World S) (ns : List NoteValue) (s : Server) → Agrees w ns s → (c : ℕ) (p : Phase) → hub.is_gone p ≡ false → phase_at s.hub c ≡ Some p → (w.line c).phase ≡ Some p
agrees_told_phase w ns s x c p stays e = phase_shown p (w.line c).phase stays (sym (agrees_phase w ns s x c) ∙ ap unless_gone e)

pub agrees_hub_phase : {S : Type 0} (w : World S) (ns : List NoteValue) (s : Server) → Agrees w ns s → (c : ℕ) (p : Phase) → hub.is_gone p ≡ false → (w.line c).phase ≡ Some p → phase_at s.hub c ≡ Some p
agrees_hub_phase w ns s x c p stays e = phase_shown p (phase_at s.hub c) stays (agrees_phase w ns s x c ∙ ap unless_gone e)

-- the hub finds the reason that its notes do
pub agrees_why : {S : Type 0} (w : World S) (ns : List NoteValue) (s : Server) → Agrees w ns s → (config : ConfigValue) (admits : List ℕ → Bool) (from : ℕ) (o : OrderValue)
    → why_at config admits from (standings_at s.hub) o ≡ why_at config admits from (standings w) o
agrees_why w ns s x config admits from o = ap (λ (z : ℕ → Standing). why_at config admits from z o) (λ k d. (ap standing_in (x.lines d).progress) k)

-- ---- a Closed event is taken from the table

entry_or_none : (q : Entry) → unless_gone (Some (cond (hub.is_gone q.phase) no_entry q).phase) ≡ unless_gone (Some q.phase)
entry_or_none q = one q.phase refl
  where
    one : (p : Phase) → q.phase ≡ p → unless_gone (Some (cond (hub.is_gone p) no_entry q).phase) ≡ unless_gone (Some q.phase)
    one Head e = refl
    one Open e = refl
    one Leaving e = refl
    one Ending e = refl
    one Gone e = ap (λ (z : Phase). unless_gone (Some z)) (sym e)

pub due_taken : (a b : HubState) (parting : PartingValue) → TakesDue (Some parting) (table_of a) (table_of b) → b.pairs ≡ a.pairs
    → (due_at a parting.conn ≡ Some (parting.code, parting.reason)) × (progress_at b parting.conn ≡ record (progress_at a parting.conn) { due = None }) × ((c : ℕ) → c ≢ parting.conn → progress_at b c ≡ progress_at a c)
due_taken a b parting x pairs =
    let c = parting.conn in
    let change = x.4 in (
      x.0,
      progress_is (unless_gone (Some (entry_at b c).phase)) (unless_gone (Some (entry_at a c).phase)) (topics_at b c) (topics_at a c) (due_at b c) None
          (ap (λ (z : Entry). unless_gone (Some z.phase)) x.3 ∙ entry_or_none (entry_at a c)) (same c) x.2,
      λ d ne. progress_is (unless_gone (Some (entry_at b d).phase)) (unless_gone (Some (entry_at a d).phase)) (topics_at b d) (topics_at a d) (due_at b d) (due_at a d)
          (ap (λ (z : Entry). unless_gone (Some z.phase)) (change.entries d ne)) (same d) (change.due d ne),
    )
  where
    same : (d : ℕ) → topics_at b d ≡ topics_at a d
    same d = ap (λ (z : List (ℕ × List ℕ)). topics_of z d) pairs
