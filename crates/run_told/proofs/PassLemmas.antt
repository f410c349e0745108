-- The handler is told of one connection after another.
use Rattle.run_told.proofs.Below.{◌≡◌, ◌≢◌, ◌⊎◌, inl, inr, ⊎_elim, ◌<◌, ◌≤◌, ◌+◌, ℕ, List, [], ◌∷◌, ◌++◌, Option, Some, Bool, true, false, cond, not, is_some, ◌&&◌, ◌||◌, nat_eq, nat_lt, refl, sym, ap, ◌∙◌, subst, arith, append_cancel_left, list_any, Phase, NoteValue, AreNoted, by_cases, clash, and_left, less_is, not_less_is, unequal_is, is_accepted, is_open, phase, world, is_of, is_turn, Step, notes_of, of_notes, Tell, has_news, is_told, AreTold, tell, list_any-append, notes_of-notes, HubState, entry_at, is_present, present_entry, Advances, Does, Progress, may_all_come, may_all_step, may_come, progress_after, progress_at, progress_by_steps, standings_at, IsTable, table_of, TellsBy, tell_at, notes_step, told_then, told_none, Agrees, is_early, rests_of, KeepsOwed, TellsAll, TellsBut, TellsTo, is_told_or_left, Tellings, TellsNext, NoneToTell, news_at}
use Rattle.ws_kinds.specs.NoteValue as note
use Rattle.run_meaning.specs.Server as run
use Rattle.hub_lines.specs.State.{Server}
use Rattle.run_told.proofs.OwingLemmas.{Owes, done_first, done_later, steps_late, steps_owe}
use Rattle.run_told.proofs.PhaseLemmas.{early_shown, open_is, present_shown}
use Rattle.run_told.proofs.TellingLemmas.{news_is}

-- ---- what a call does

-- these steps, as far as what is to be told stands on them
record Moves (xs : List Step) (a b : Server) : Type 0 where
  told : AreNoted a.told (notes_of xs) b.told
  may_come : (c : ℕ) → may_all_step c xs (progress_at a.hub c) ≡ true
  progress : (c : ℕ) → progress_at b.hub c ≡ progress_by_steps c xs (progress_at a.hub c)
  tells : TellsBy (notes_of xs) a.hub b.hub
  named : a.hub.named ≤ b.hub.named
  new : (c : ℕ) → c ≤ a.hub.named → is_accepted c (notes_of xs) ≡ false

notes_may : (c : ℕ) (ns : List NoteValue) (p : Progress) → may_all_step c (of_notes ns) p ≡ may_all_come c ns p
notes_may c [] p = refl
notes_may c (n ∷ ns) p = ap (λ (z : Bool). cond (is_of c n) (may_come p.phase n) true && z) (notes_may c ns (progress_after c n p))

call_moves : (ns : List NoteValue) (a b : Server) → Advances ns a b → a.hub.named ≤ b.hub.named → ((c : ℕ) → c ≤ a.hub.named → is_accepted c ns ≡ false) → Moves (of_notes ns) a b
call_moves ns a b x named new = record {
  told = subst (λ (z : List NoteValue). AreNoted a.told z b.told) (sym (notes_of-notes ns)) x.told;
  may_come = λ c. notes_may c ns (progress_at a.hub c) ∙ x.may_come c;
  progress = λ c. x.progress c ∙ sym (notes_step c ns (progress_at a.hub c));
  tells = subst (λ (z : List NoteValue). TellsBy z a.hub b.hub) (sym (notes_of-notes ns)) x.tells;
  named = named;
  new = subst (λ (z : List NoteValue). (c : ℕ) → c ≤ a.hub.named → is_accepted c z ≡ false) (sym (notes_of-notes ns)) new;
}

steps_move : (texts : ℕ → List ℕ) (xs : List Step) (a b : Server) → Does texts xs a b → ((c : ℕ) → c ≤ a.hub.named → is_accepted c (notes_of xs) ≡ false) → Moves xs a b
steps_move texts xs a b x new = record { told = x.told; may_come = x.may_come; progress = x.progress; tells = x.tells; named = x.appends.lines.named; new = new }

module _ (xs : List Step) (a b : Server) (x : Moves xs a b) where
  -- who is past Open does not come back
  moves_late : (c : ℕ) → c ≤ a.hub.named → is_early (standings_at a.hub c).phase ≡ false → is_early (standings_at b.hub c).phase ≡ false
  moves_late c low late = ap (λ (z : Progress). is_early z.phase) (x.progress c) ∙ steps_late c xs (progress_at a.hub c) (x.new c low) late

  moves_owe : list_any is_turn (notes_of xs) ≡ false → (c : ℕ) → c ≤ a.hub.named → news_at a.hub c ≡ true → (is_told_or_left c (notes_of xs) b.hub ≡ true) ⊎ (news_at b.hub c ≡ true)
  moves_owe turnless c low news =
      let told = list_any (is_told c) (notes_of xs) in
      subst (λ (z : Progress). Owes told z.phase (tell_at b.hub c)) (sym (x.progress c))
      (subst (λ (z : Tell). Owes told (progress_by_steps c xs (progress_at a.hub c)).phase z) (sym (x.tells turnless c))
      (steps_owe c xs (progress_at a.hub c) (tell_at a.hub c) (x.may_come c) (x.new c low) news))

  moves_owed : (turns : ℕ) → (turns ≡ 0 → list_any is_turn (notes_of xs) ≡ false) → KeepsOwed turns a b
  moves_owed turns turnless = record { made = notes_of xs; told = x.told; named = x.named; late = moves_late; owed = λ none. moves_owe (turnless none) }

-- ---- what the handler is owed

pub owed_call : (turns : ℕ) (ms : List NoteValue) (a b : Server) → Advances ms a b → (turns ≡ 0 → list_any is_turn ms ≡ false) → a.hub.named ≤ b.hub.named → ((c : ℕ) → c ≤ a.hub.named → is_accepted c ms ≡ false) → KeepsOwed turns a b
owed_call turns ms a b x turnless named new = moves_owed (of_notes ms) a b (call_moves ms a b x named new) turns (λ none. ap (list_any is_turn) (notes_of-notes ms) ∙ turnless none)

pub owed_steps : (texts : ℕ → List ℕ) (xs : List Step) (a b : Server) → Does texts xs a b → list_any is_turn (notes_of xs) ≡ false → ((c : ℕ) → c ≤ a.hub.named → is_accepted c (notes_of xs) ≡ false) → KeepsOwed 0 a b
owed_steps texts xs a b x turnless new = moves_owed xs a b (steps_move texts xs a b x new) 0 (λ _. turnless)

pub owed_aside : (ms : List NoteValue) (a b : Server) → AreNoted a.told ms b.told → a.hub.named ≤ b.hub.named → ((c : ℕ) → (standings_at b.hub c).phase ≡ (standings_at a.hub c).phase)
    → ((c : ℕ) → tell_at b.hub c ≡ tell_at a.hub c) → KeepsOwed 0 a b
owed_aside ms a b told named phases tells = record {
  made = ms;
  told = told;
  named = named;
  late = λ c low late. ap is_early (phases c) ∙ late;
  owed = λ _ c low news. inr (ap (λ (z : Option Phase). is_open z && has_news (tell_at b.hub c)) (phases c) ∙ ap (λ (z : Tell). is_open (standings_at a.hub c).phase && has_news z) (tells c) ∙ news);
}

pub owed_same : (s : Server) → KeepsOwed 0 s s
owed_same s = owed_aside [] s s (told_none s.told) (omega arith) (λ c. refl) (λ c. refl)

-- ---- after more notes

module _ (P Q : ℕ → Type 0) (a b d : HubState) (t t' t'' : Option (List NoteValue)) (ms : List NoteValue) (x : TellsBut P a b t t') (told : AreNoted t' ms t'') (named : b.named ≤ d.named)
    (late : (c : ℕ) → c ≤ b.named → is_early (standings_at b c).phase ≡ false → is_early (standings_at d c).phase ≡ false)
    (owed : (c : ℕ) → c ≤ b.named → P c → (is_told_or_left c ms d ≡ true) ⊎ Q c) where
  both : (c : ℕ) → is_told_or_left c (x.made ++ ms) d ≡ ((list_any (is_told c) x.made || list_any (is_told c) ms) || not (is_early (standings_at d c).phase))
  both c = ap (λ (z : Bool). z || not (is_early (standings_at d c).phase)) (list_any-append (is_told c) x.made ms)

  one : (c : ℕ) → c ≤ b.named → (is_told_or_left c x.made b ≡ true) ⊎ P c → (is_told_or_left c (x.made ++ ms) d ≡ true) ⊎ Q c
  one c low (inl done) =
      inl (both c ∙ done_first (list_any (is_told c) x.made) (list_any (is_told c) ms) (is_early (standings_at b c).phase) (is_early (standings_at d c).phase) done (late c low))
  one c low (inr still) = ⊎_elim
      (λ (done : is_told_or_left c ms d ≡ true). inl (both c ∙ done_later (list_any (is_told c) x.made) (list_any (is_told c) ms) (is_early (standings_at d c).phase) done))
      (λ (later : Q c). inr later)
      (owed c low still)

  but_then : TellsBut Q a d t t''
  but_then = record {
    made = x.made ++ ms;
    told = told_then t t' t'' x.made ms x.told told;
    named = let n = x.named in omega arith;
    all = λ c low news. one c (let n = x.named in omega arith) (x.all c low news);
  }

-- those above a number that have something to tell are owed
abbrev Above : ℕ → Server → ℕ → Type 0
Above n s c = (n < c) × (news_at s.hub c ≡ true)

abbrev Nobody : ℕ → Type 0
Nobody c = ⊥

-- ---- the pass

-- number 0 is no connection
none_zero : (s : Server) → IsTable (table_of s.hub) → news_at s.hub 0 ≡ false
none_zero s table = by_cases (news_at s.hub 0)
    (λ news.
    let now = open_is (standings_at s.hub 0).phase (and_left (is_open (standings_at s.hub 0).phase) (has_news (tell_at s.hub 0)) news) in
    let there : is_present s.hub 0 ≡ true = sym (present_shown (entry_at s.hub 0).phase) ∙ ap is_some now in
    absurd (let low : 1 ≤ 0 = table.first 0 (present_entry s.hub.entries 0 there) in omega arith))
    (λ none. none)

positive : (c : ℕ) → c ≢ 0 → 0 < c
positive c other = omega arith

pub pass_ends : (n : ℕ) (a b : Server) → TellsTo n a b → NoneToTell n b.hub → TellsAll a b
pass_ends n a b x none = record { made = x.made; told = x.told; named = x.named; all = λ c low news. one c (x.all c low news) }
  where
    one : (c : ℕ) → (is_told_or_left c x.made b.hub ≡ true) ⊎ Above n b c → (is_told_or_left c x.made b.hub ≡ true) ⊎ ⊥
    one c (inl done) = inl done
    one c (inr still) = clash (news_at b.hub c) (none c still.0) still.1

pub pass_starts : (a b : Server) → KeepsOwed 0 a b → IsTable (table_of b.hub) → TellsTo 0 a b
pass_starts a b x table = record {
  made = x.made;
  told = x.told;
  named = x.named;
  all = λ c low news. ⊎_elim
      (λ (done : is_told_or_left c x.made b.hub ≡ true). inl done)
      (λ (still : news_at b.hub c ≡ true). inr (positive c (λ e. clash (news_at b.hub c) (ap (news_at b.hub) e ∙ none_zero b table) still), still))
      (x.owed refl c low news);
}

pub pass_more : (n : ℕ) (a b d : Server) → TellsTo n a b → KeepsOwed 0 b d → TellsTo n a d
pass_more n a b d x y = but_then (Above n b) (Above n d) a.hub b.hub d.hub a.told b.told d.told y.made x y.told y.named y.late owed
  where
    owed : (c : ℕ) → c ≤ b.hub.named → Above n b c → (is_told_or_left c y.made d.hub ≡ true) ⊎ Above n d c
    owed c low still = ⊎_elim (λ (done : is_told_or_left c y.made d.hub ≡ true). inl done) (λ (news : news_at d.hub c ≡ true). inr (still.0, news)) (y.owed refl c low still.1)

pub pass_next : (n conn dropped : ℕ) (drained : Bool) (a b d : Server) → TellsTo n a b → TellsNext n conn dropped drained b d → TellsTo conn a d
pass_next n conn dropped drained a b d x next = but_then (Above n b) (Above conn d) a.hub b.hub d.hub a.told b.told d.told ms x y.told y.named (moves_late (of_notes ms) b d y) owed
  where
    ms : List NoteValue
    ms = note.told conn dropped drained ∷ []

    y : Moves (of_notes ms) b d
    y = call_moves ms b d next.makes.advances next.appends.lines.named (λ c low. refl)

    owed : (c : ℕ) → c ≤ b.hub.named → Above n b c → (is_told_or_left c ms d.hub ≡ true) ⊎ Above conn d c
    owed c low still = by_cases (nat_eq conn c)
        (λ own. inl (ap (λ (z : Bool). (z || false) || not (is_early (standings_at d.hub c).phase)) own))
        (λ other. by_cases (nat_lt c conn)
        (λ below. clash (news_at b.hub c) (next.next.least c still.0 (less_is c conn below)) still.1)
        (λ above. ⊎_elim
        (λ (done : is_told_or_left c ms d.hub ≡ true). inl done)
        (λ (news : news_at d.hub c ≡ true). inr (let far = not_less_is c conn above in let ne = unequal_is conn c other in omega arith, news))
        (moves_owe (of_notes ms) b d y refl c low still.1)))

-- after the pass
pub pass_lasts : (turns : ℕ) (a b d : Server) → TellsAll a b → KeepsOwed turns b d → TellsAll a d
pass_lasts turns a b d x y = but_then Nobody Nobody a.hub b.hub d.hub a.told b.told d.told y.made x y.told y.named y.late (λ c low never. inr never)

no_turns : (m n : ℕ) → m + n ≡ 0 → (m ≡ 0) × (n ≡ 0)
no_turns m n e = (omega arith, omega arith)

-- one after another
pub owed_then : (m n : ℕ) (a b d : Server) → KeepsOwed m a b → KeepsOwed n b d → KeepsOwed (m + n) a d
owed_then m n a b d x y = record {
  made = x.made ++ y.made;
  told = told_then a.told b.told d.told x.made y.made x.told y.told;
  named = let u = x.named in let v = y.named in omega arith;
  late = λ c low late. y.late c (let u = x.named in omega arith) (x.late c low late);
  owed = λ none c low news.
      let u = no_turns m n none in
      one (Still b) (Still d) a.hub b.hub d.hub a.told b.told d.told y.made (record { made = x.made; told = x.told; named = x.named; all = x.owed u.0 }) y.told y.named y.late (y.owed u.1) c (let u = x.named in omega arith)
      (x.owed u.0 c low news);
}
  where
    Still : Server → ℕ → Type 0
    Still s c = news_at s.hub c ≡ true

-- ---- by the notes

told_early : (told now : Bool) → (told || not now) ≡ true → now ≡ true → told ≡ true
told_early true now e early = refl
told_early false now e early = clash (not now) (ap not early) e

module _ {S : Type 0} (r : run.Server S) (before made : List NoteValue) (a b : Server) (x : Agrees (world r before) before a) (t : Tellings r before a.hub) (all : TellsAll a b)
    (y : Agrees (world r (before ++ made)) (before ++ made) b) where
  same : made ≡ all.made
  same = append_cancel_left before made all.made (subst (λ (z : Option (List NoteValue)). AreNoted z all.made (Some (before ++ made))) x.told (subst (λ (z : Option (List NoteValue)). AreNoted a.told all.made z) y.told all.told))

  pub all_told : AreTold r before made
  all_told c news now =
      let was = and_left (is_open (phase r before c)) (has_news (tell r before c)) news in
      let low = (x.lines c).known (λ none. clash (is_open (phase r before c)) (ap is_open none) was) in
      let early : is_early (standings_at b.hub c).phase ≡ true =
      ap is_early (rests_of c ((world r (before ++ made)).line c) (before ++ made) b (y.lines c)).shown ∙ early_shown (phase r (before ++ made) c) ∙ ap is_early (open_is (phase r (before ++ made) c) now) in
      ap (list_any (is_told c)) same ∙ ⊎_elim
      (λ (done : is_told_or_left c all.made b.hub ≡ true). told_early (list_any (is_told c) all.made) (is_early (standings_at b.hub c).phase) done early)
      (λ never. absurd never)
      (all.all c low (news_is r before a x t c ∙ news))
