-- Orders that are served or refused, one after another.
use Rattle.hub_notes.proofs.Below.{◌≡◌, ◌+◌, ◌<◌, ℕ, List, [], ◌∷◌, ◌++◌, Some, None, Bool, true, false, cond, nat_eq, map, length, take, get_or, refl, sym, ap, ◌∙◌, subst, arith, nat_tests, take-suc, length-take-le, length-map, map-append, Kind, Why, Memory, ConfigValue, OrderValue, send, Item, data_frame, is_open, why_at, needs_memory, by_note, by_order, of_notes, is_for, frames_of, for_reason, for_memory, serves, refuses, open_standing, Server, only, nothing, suc_is, standings_at, Proceeds, Appends, Does, Obeys, Serves, ServesAll}
use Rattle.ws_kinds.specs.NoteValue as note
use Rattle.hub_notes.proofs.CallLemmas.{proceeds_same}
use Rattle.hub_notes.proofs.FrontLemmas.{appends_same}
use Rattle.hub_notes.proofs.DoesLemmas.{framed, does_order, obeys_same, serves_more}

-- only an open connection has topics
abbrev pub TopicsEnd : Server → Type 0
TopicsEnd s = (c : ℕ) → is_open (standings_at s.hub c).phase ≡ false → (standings_at s.hub c).topics ≡ []

pub only_turned : (to c : ℕ) (x : Item) → only to x c ≡ cond (nat_eq to c) (x ∷ []) []
only_turned to c x = grind (arith, nat_tests)

nothing_framed : (b : Bool) → nothing 0 ≡ cond b (nothing 0) (nothing 0)
nothing_framed true = refl
nothing_framed false = refl

module _ (f : ConfigValue) (admits : List ℕ → Bool) (from number : ℕ) (a b : Server) where
  pub refused : (o : OrderValue) (reason : Why) → why_at f admits from (standings_at a.hub) o ≡ Some reason → ((texts : ℕ → List ℕ) → Does texts (by_note (note.unserved from number reason) ∷ []) a b) → Serves f admits from number o a b
  refused o reason why does = record { steps = by_note (note.unserved from number reason) ∷ []; answers = refuses reason (for_reason why) refl; does = does }

  pub refused_memory : (o : OrderValue) → why_at f admits from (standings_at a.hub) o ≡ None → needs_memory from (standings_at a.hub) o ≡ true → ((texts : ℕ → List ℕ) → Does texts (by_note (note.unserved from number Memory) ∷ []) a b)
      → Serves f admits from number o a b
  refused_memory o none needs does = record { steps = by_note (note.unserved from number Memory) ∷ []; answers = refuses Memory (for_memory none needs refl) refl; does = does }

  -- an order that is served: the tables change, and its frames are put
  pub served_by : (o : OrderValue) (appended : ℕ → List Item) (m : Server) → why_at f admits from (standings_at a.hub) o ≡ None → TopicsEnd a → Obeys from o a m → (x : Proceeds [] [] m b) → Appends appended m b
      → ((c : ℕ) → appended c ≡ framed from o (standings_at a.hub) c) → Serves f admits from number o a b
  served_by o appended m none ends obeys x app items = record {
    steps = by_order from o ∷ of_notes x.sending;
    answers = serves x.sending x.outgoing none refl;
    does = λ texts. does_order texts from o appended a m b obeys x app items (λ c own. open_standing f admits from (standings_at a.hub) o c none (ends c) own);
  }

  pub sent : (to : ℕ) (kind : Kind) (body : List ℕ) → why_at f admits from (standings_at a.hub) (send to kind body) ≡ None → TopicsEnd a → Proceeds [] [] a b → Appends (only to (data_frame kind body)) a b → Serves f admits from number (send to kind body) a b
  sent to kind body none ends x app =
      served_by (send to kind body) (only to (data_frame kind body)) a none ends (obeys_same from (send to kind body) a (λ c p. refl)) x app (λ c. only_turned to c (data_frame kind body))

  -- one that puts no frame
  pub changed : (o : OrderValue) → frames_of o ≡ [] → why_at f admits from (standings_at a.hub) o ≡ None → TopicsEnd a → Obeys from o a b → Serves f admits from number o a b
  changed o no_frame none ends obeys =
      served_by o nothing b none ends obeys (proceeds_same b) (appends_same b) (λ c. nothing_framed (is_for from c o (standings_at a.hub c).topics) ∙ ap (λ (z : List Item). cond (is_for from c o (standings_at a.hub c).topics) z []) (sym no_frame))

-- ---- one after another

module _ {O : Type 0} (value : O → OrderValue) where
  values_more : (n : ℕ) (xs : List O) (d : O) → n < length xs → map value (take (n + 1) xs) ≡ map value (take n xs) ++ value (get_or xs n d) ∷ []
  values_more n xs d l = ap (λ (z : ℕ). map value (take z xs)) (suc_is n) ∙ ap (map value) (take-suc xs n d l) ∙ map-append value (take n xs) (get_or xs n d ∷ [])

  values_count : (n : ℕ) (xs : List O) → n < length xs → 0 + length (map value (take n xs)) ≡ n
  values_count n xs l = let h : length (map value (take n xs)) ≡ n = length-map (take n xs) value ∙ length-take-le n xs (omega arith) in omega arith

  -- the next order of a list
  pub serves_seen : (admits : List ℕ → Bool) (from number : ℕ) (orders seen : List O) (d : O) (old mid new : Server) → seen ≡ orders → number < length orders
      → ServesAll old.hub.config admits from 0 (map value (take number orders)) old mid → Serves mid.hub.config admits from number (value (get_or seen number d)) mid new
      → ServesAll old.hub.config admits from 0 (map value (take (number + 1) orders)) old new
  serves_seen admits from number orders seen d old mid new same within all one =
      let config : mid.hub.config ≡ old.hub.config = (all.does (λ _. [])).appends.lines.config in
      subst (λ (z : List OrderValue). ServesAll old.hub.config admits from 0 z old new) (sym (values_more number orders d within))
      (serves_more old.hub.config admits from 0 (map value (take number orders)) (value (get_or orders number d)) old mid new all
      (subst (λ (z : ℕ). Serves old.hub.config admits from z (value (get_or orders number d)) mid new) (sym (values_count number orders within))
      (subst (λ (z : ConfigValue). Serves z admits from number (value (get_or orders number d)) mid new) config
      (subst (λ (z : List O). Serves mid.hub.config admits from number (value (get_or z number d)) mid new) same one))))
