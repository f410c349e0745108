-- A walk over the notes of a run: what each note keeps of the world holds behind all of them, and an order without a reason is served.
use Rattle.std.proofs.Common.{◌≡◌, ◌<◌, ℕ, Bool, true, false, cond, ◌&&◌, ◌||◌, nat_eq, List, [], ◌∷◌, ◌++◌, length, slice_get, Some, None, refl, sym, ap, ◌∙◌, subst, arith, append-nil, append_assoc}
use Rattle.std.specs.List.{list_any}
use Rattle.ws_kinds.proofs.Facts.{clash, or_left, or_right}
use Rattle.ws_kinds.specs.ConfigValue.{ConfigValue}
use Rattle.ws_kinds.specs.EventValue.{EventValue}
use Rattle.ws_kinds.specs.NoteValue as note
use Rattle.ws_kinds.specs.NoteValue.{NoteValue}
use Rattle.ws_kinds.specs.OrderValue.{OrderValue}
use Rattle.ws_kinds.specs.declared.note.Why.{Why}
use Rattle.ws_kinds.specs.declared.note.Why.TheVariants.{Memory}
use Rattle.run_meaning.specs.Counts.{is_gone_in}
use Rattle.run_meaning.specs.Lines.{World, first_world, is_refused, noted, orders_of, run, step, world}
use Rattle.run_meaning.specs.Notes.{is_event, is_gone, until, window}
use Rattle.run_meaning.specs.Orders.{AllJustified, Justified, asked, at_order, by_gone, by_memory, by_reason, event_at, named, standings, why_at}
use Rattle.run_meaning.specs.Server.{Server}
use Rattle.run_meaning.proofs.Worlds.{refused_more, window_event}
use Rattle.std.proofs.lemmas.List.Folds.{list_any-append}
use Rattle.made_life.specs.Life.{is_want}

-- ---- behind each note

module _ {S : Type 0} (s : Server S) where
  -- the world behind notes in front of others: which orders are served is told by all of them
  unfoldable amid : World S → List NoteValue → List NoteValue → World S
  amid w [] rest = w
  amid w (n ∷ front) rest = amid (step s (is_refused (window (front ++ rest))) n w) front rest

  amid_alone : (w : World S) (front rest : List NoteValue) → ((c i : ℕ) → is_refused (window rest) c i ≡ false) → amid w front rest ≡ run s w front
  unfolding amid
  amid_alone w [] rest unnamed = refl
  amid_alone w (n ∷ front) rest unnamed =
      ap (λ (u : ℕ → ℕ → Bool). amid (step s u n w) front rest) (λ k c i. refused_more front rest c i (unnamed c i) k)
      ∙ amid_alone (step s (is_refused (window front)) n w) front rest unnamed

  amid_next : (w : World S) (front rest : List NoteValue) (n : NoteValue) → amid w (front ++ n ∷ []) rest ≡ step s (is_refused (window rest)) n (amid w front (n ∷ rest))
  unfolding amid
  amid_next w [] rest n = refl
  amid_next w (x ∷ front) rest n =
      ap (λ (l : List NoteValue). amid (step s (is_refused (window l)) x w) (front ++ n ∷ []) rest) (append_assoc front (n ∷ []) rest)
      ∙ amid_next (step s (is_refused (window (front ++ n ∷ rest))) x w) front rest n

  -- a property of the notes so far and the world behind them, which each note keeps; at an event that world is the world of these notes
  module _ (all : List NoteValue) (P : List NoteValue → World S → Type 0)
      (each : (front rest : List NoteValue) (n : NoteValue) (w : World S) → all ≡ front ++ n ∷ rest → (is_event n ≡ true → w ≡ world s front) → P front w → P (front ++ n ∷ []) (step s (is_refused (window rest)) n w)) where
    go : (front rest : List NoteValue) → all ≡ front ++ rest → P front (amid (first_world s) front rest) → P all (world s all)
    go front [] split holds =
        let are : front ≡ all = sym (append-nil front) ∙ sym split in
        let here : P front (world s front) = subst (λ (w : World S). P front w) (amid_alone (first_world s) front [] (λ c i. refl)) holds in
        subst (λ (l : List NoteValue). P l (world s l)) are here
    go front (n ∷ rest) split holds =
        let alone : is_event n ≡ true → amid (first_world s) front (n ∷ rest) ≡ world s front = λ event. amid_alone (first_world s) front (n ∷ rest) (λ c i. window_event n rest c i event) in
        go (front ++ n ∷ []) rest (split ∙ sym (append_assoc front (n ∷ []) rest))
        (subst (λ (w : World S). P (front ++ n ∷ []) w) (sym (amid_next (first_world s) front rest n)) (each front rest n (amid (first_world s) front (n ∷ rest)) split alone holds))

    pub walk : P [] (first_world s) → P all (world s all)
    unfolding amid
    walk first = go [] all refl first

-- ---- an order that is served

-- an order for which no reason is named is not refused
unnamed : (c i : ℕ) (ns : List NoteValue) → named c i ns ≡ None → is_refused ns c i ≡ false
unnamed c i [] none = refl
unnamed c i (note.unserved d j why ∷ ns) none = one (nat_eq d c && nat_eq j i) (unnamed c i ns) none
  where
    one : (b : Bool) → (named c i ns ≡ None → is_refused ns c i ≡ false) → cond b (Some why) (named c i ns) ≡ None → (b || is_refused ns c i) ≡ false
    one true rest none = absurd (let z : Some why ≡ None = none in cc)
    one false rest none = rest none
unnamed c i (_ ∷ ns) none = unnamed c i ns none

-- a reason that notes name stands in one of them
memory_named : (c i : ℕ) (ns : List NoteValue) → named c i ns ≡ Some Memory → list_any is_want ns ≡ true
memory_named c i [] named_it = absurd (let z : None ≡ Some Memory = named_it in cc)
memory_named c i (note.unserved d j why ∷ ns) named_it = one (nat_eq d c && nat_eq j i) (memory_named c i ns) named_it
  where
    this : (y : Why) → y ≡ Memory → (is_want (note.unserved d j y) || list_any is_want ns) ≡ true
    this y is = ap (λ (z : Why). is_want (note.unserved d j z) || list_any is_want ns) is

    later : (b x : Bool) → x ≡ true → (b || x) ≡ true
    later true x is = refl
    later false x is = is

    one : (b : Bool) → (named c i ns ≡ Some Memory → list_any is_want ns ≡ true) → cond b (Some why) (named c i ns) ≡ Some Memory → (is_want (note.unserved d j why) || list_any is_want ns) ≡ true
    one true rest named_it = this why (let z : Some why ≡ Some Memory = named_it in cc)
    one false rest named_it = later (is_want (note.unserved d j why)) (list_any is_want ns) (rest named_it)
memory_named c i (note.no_room d ∷ ns) named_it = refl
memory_named c i (_ ∷ ns) named_it = memory_named c i ns named_it

-- what no note says, none of a window says
unsaid : (p : NoteValue → Bool) (ns : List NoteValue) → list_any p ns ≡ false → list_any p (window ns) ≡ false
unsaid p [] none = refl
unsaid p (n ∷ ns) none = one (is_event n) (or_left (p n) (list_any p ns) none) (unsaid p ns (or_right (p n) (list_any p ns) none))
  where
    one : (b : Bool) → p n ≡ false → list_any p (until is_event ns) ≡ false → list_any p (cond b [] (n ∷ until is_event ns)) ≡ false
    one true first rest = refl
    one false first rest = ap (λ b. b || list_any p (until is_event ns)) first ∙ rest

module _ {S : Type 0} (s : Server S) (f : ConfigValue) (ns : List NoteValue) (justified : AllJustified s f ns) (enough : list_any is_want ns ≡ false) where
  -- an order without a reason is served, where its connection does not become gone and memory is not short
  pub only_served : (front rest : List NoteValue) (n : NoteValue) (e : EventValue) (o : OrderValue) → ns ≡ front ++ n ∷ rest → event_at n (noted s n (world s front)) ≡ Some e
      → orders_of s e (noted s n (world s front)) ≡ o ∷ [] → why_at f s.admits e.conn (standings (noted s n (world s front))) o ≡ None
      → ((c : ℕ) → asked e.conn o ≡ Some c → is_gone_in c ns ≡ false) → is_refused (window rest) e.conn 0 ≡ false
  only_served front rest n e o split at are without stays = by_it (justified front rest n split e at 0 first o (ap (λ (l : List OrderValue). slice_get l 0) are))
    where
      first : 0 < length (orders_of s e (noted s n (world s front)))
      first = let one : length (orders_of s e (noted s n (world s front))) ≡ 1 = ap (λ (l : List OrderValue). length l) are in omega (arith, one)

      behind : (p : NoteValue → Bool) → list_any p ns ≡ false → list_any p (window rest) ≡ false
      behind p none =
          let parts = sym (list_any-append p front (n ∷ rest)) ∙ ap (list_any p) (sym split) ∙ none in
          unsaid p rest (or_right (p n) (list_any p rest) (or_right (list_any p front) (list_any p (n ∷ rest)) parts))

      by_it : Justified s f e.conn 0 o (at_order s e 0 (noted s n (world s front)) (window rest)) (window rest) → is_refused (window rest) e.conn 0 ≡ false
      by_it (by_reason reason) = unnamed e.conn 0 (window rest) (reason ∙ without)
      by_it (by_memory short none needs) = clash (list_any is_want (window rest)) (behind is_want enough) (memory_named e.conn 0 (window rest) short)
      by_it (by_gone c asks gone may) = clash (is_gone_in c (window rest)) (behind (is_gone c) (stays c asks)) gone
