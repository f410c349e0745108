-- What agrees of a connection besides what is due of it: its phase, its line, the count of its items, what its
-- link took, and what was dropped.
use Rattle.run_laws.proofs.Below.{◌≡◌, ◌≢◌, ◌<◌, ◌≤◌, ◌+◌, ◌^◌, ◌-◌, ℕ, List, [], ◌∷◌, ◌++◌, Option, Some, None, true, false, length, refl, sym, ap, ◌∙◌, subst, append-nil, append_assoc, length-append, arith, list_all, and_left, and_right, ConfigValue, Phase, Head, Open, Leaving, Ending, Gone, NoteValue, NetState, Item, is_gone_phase, taken_of, is_dropped, HubState, Server, server, is_present, Held, Stands, StandsFor, StandsTold, FairLine, FairFor, FairTold, DropsFairly, is_silent, held_at, KeepsLine, kept_same, faired_silent, SameDrops, drops_as, fairly_later, fairly_longer, silent_undropped, progress_at, unless_gone, TakesFront, KeepsFront, items_at, by_cases, clash, front_later, away_by_phase, phase_of_away}

-- by its phase and its items
pub record Rests (conn : ℕ) (phase : Option Phase) (items : List Item) (s : Server) : Type 0 where
  pub shown : (progress_at s.hub conn).phase ≡ unless_gone phase
  pub known : phase ≢ None → conn ≤ s.hub.named
  pub stands : is_present s.hub conn ≡ true → StandsFor conn s items
  pub count : is_present s.hub conn ≡ true → length items < 2 ^ 64 - 1 → items_at s.hub conn ≡ length items
  pub front : is_gone_phase phase ≡ true → length items < 2 ^ 64 - 1 → TakesFront conn items s.net s.told
  pub fair : is_present s.hub conn ≡ true → FairFor conn s items
  pub drops : is_gone_phase phase ≡ true → length items < 2 ^ 64 - 1 → DropsFairly conn s.hub.config.limit items s.net s.told

-- ---- phases

gone_hidden : (p : Option Phase) → is_gone_phase p ≡ true → unless_gone p ≡ None
gone_hidden None e = refl
gone_hidden (Some Head) e = clash false refl e
gone_hidden (Some Open) e = clash false refl e
gone_hidden (Some Leaving) e = clash false refl e
gone_hidden (Some Ending) e = clash false refl e
gone_hidden (Some Gone) e = refl

gone_known : (p : Option Phase) → is_gone_phase p ≡ true → p ≢ None
gone_known None e h = clash false refl e
gone_known (Some q) e h = let z : Some q ≡ None = h in cc

hidden_gone : (p : Option Phase) → p ≢ None → unless_gone p ≡ None → is_gone_phase p ≡ true
hidden_gone None known e = absurd (known refl)
hidden_gone (Some Head) known e = absurd (let z : Some Head ≡ None = e in cc)
hidden_gone (Some Open) known e = absurd (let z : Some Open ≡ None = e in cc)
hidden_gone (Some Leaving) known e = absurd (let z : Some Leaving ≡ None = e in cc)
hidden_gone (Some Ending) known e = absurd (let z : Some Ending ≡ None = e in cc)
hidden_gone (Some Gone) known e = refl

-- who is there has a phase
pub there_known : (h : HubState) (c : ℕ) (p : Option Phase) → (progress_at h c).phase ≡ unless_gone p → is_present h c ≡ true → p ≢ None
there_known h c p shown there e = clash (is_present h c) (away_by_phase h c (shown ∙ ap unless_gone e)) there

-- who has one and is not gone is there
pub there_by_phase : (h : HubState) (c : ℕ) (p : Option Phase) → (progress_at h c).phase ≡ unless_gone p → p ≢ None → is_gone_phase p ≡ false → is_present h c ≡ true
there_by_phase h c p shown known stays = by_cases (is_present h c)
    (λ there. there)
    (λ away. clash (is_gone_phase p) stays (hidden_gone p known (sym shown ∙ phase_of_away h c away)))

pub away_by_gone : (h : HubState) (c : ℕ) (p : Option Phase) → (progress_at h c).phase ≡ unless_gone p → is_gone_phase p ≡ true → is_present h c ≡ false
away_by_gone h c p shown gone = away_by_phase h c (shown ∙ gone_hidden p gone)

-- ---- counts, below an end

fewer : (x y k last : ℕ) → k ≡ x + y → k < last → x < last
fewer x y k last e few = omega arith

few_after : (i x y k last : ℕ) → k ≡ x + y → (x < last → i ≡ x) → k < last → i + y < last
few_after i x y k last e h few = let c = h (fewer x y k last e few) in omega arith

count_after : (i j x y k last : ℕ) → k ≡ x + y → (x < last → i ≡ x) → (i + y < last → j ≡ i + y) → k < last → j ≡ k
count_after i j x y k last e h g few =
    let c = h (fewer x y k last e few) in
    let d = g (few_after i x y k last e h few) in omega arith

-- ---- a call that appends these items

pub rests_then : (c : ℕ) (p q : Option Phase) (xs ys more : List Item) (a b : Server) → Rests c p xs a → b.hub.config ≡ a.hub.config → a.hub.named ≤ b.hub.named → (c ≤ a.hub.named → KeepsLine c more a b) → (c ≤ a.hub.named → KeepsFront c more a b)
    → (progress_at b.hub c).phase ≡ unless_gone q → (q ≢ None → p ≢ None) → ys ≡ xs ++ more → Rests c q ys b
rests_then c p q xs ys more a b x config named lines fronts shown back e =
    let sum : length ys ≡ length xs + length more = ap length e ∙ length-append xs more in
    let was_known : is_present b.hub c ≡ true → c ≤ a.hub.named = λ there. x.known (back (there_known b.hub c q shown there)) in
    record {
      shown = shown;
      known = λ known. let low = x.known (back known) in omega arith;
      stands = λ there. let line = lines (was_known there) in subst (λ (z : List Item). StandsFor c b z) (sym e) (line.stands there xs (x.stands (line.present there)));
      count = λ there few.
          let line = lines (was_known there) in
          let front = fronts (was_known there) in
          count_after (items_at a.hub c) (items_at b.hub c) (length xs) (length more) (length ys) (2 ^ 64 - 1) sum (x.count (line.present there)) (front.count there) few;
      front = λ gone few. subst (λ (z : List Item). TakesFront c z b.net b.told) (sym e) (by_cases (is_gone_phase p)
          (λ was.
          let away = away_by_gone a.hub c p x.shown was in
          let front = fronts (x.known (gone_known p was)) in
          front_later c xs more a.net b.net a.told b.told (front.taken away) (front.drops away) (x.front was (fewer (length xs) (length more) (length ys) (2 ^ 64 - 1) sum few)))
          (λ was.
          let known = back (gone_known q gone) in
          let there = there_by_phase a.hub c p x.shown known was in
          let front = fronts (x.known known) in
          front.front there (away_by_gone b.hub c q shown gone) (few_after (items_at a.hub c) (length xs) (length more) (length ys) (2 ^ 64 - 1) sum (x.count there) few) xs (x.stands there)));
      fair = λ there.
          let line = lines (was_known there) in
          let was = line.present there in
          subst (λ (z : List Item). FairFor c b z) (sym e) (line.fair there xs (x.stands was) (x.fair was));
      drops = λ gone few. subst (λ (z : List Item). DropsFairly c b.hub.config.limit z b.net b.told) (sym e) (subst (λ (z : ConfigValue). DropsFairly c z.limit (xs ++ more) b.net b.told) (sym config) (by_cases (is_gone_phase p)
          (λ was.
          let front = fronts (x.known (gone_known p was)) in
          fairly_longer c a.hub.config.limit xs more b.net b.told
          (front.stays (away_by_gone a.hub c p x.shown was) a.hub.config.limit xs (x.drops was (fewer (length xs) (length more) (length ys) (2 ^ 64 - 1) sum few))))
          (λ was.
          let known = back (gone_known q gone) in
          let there = there_by_phase a.hub c p x.shown known was in
          let front = fronts (x.known known) in
          front.fair there (away_by_gone b.hub c q shown gone) (few_after (items_at a.hub c) (length xs) (length more) (length ys) (2 ^ 64 - 1) sum (x.count there) few) xs (x.stands there) (x.fair there))));
    }

-- ---- a step outside of the hub

-- where the watch tells, it told before, and what it told since then is silent of the connection
abbrev pub SaysNothing : ℕ → Option (List NoteValue) → Option (List NoteValue) → Type 0
SaysNothing conn old new = (notes : List NoteValue) → new ≡ Some notes
    → (before : List NoteValue) × (made : List NoteValue) × (old ≡ Some before) × (notes ≡ before ++ made) × (list_all (is_silent conn) made ≡ true)

says_drops : (c : ℕ) (t t' : Option (List NoteValue)) → SaysNothing c t t' → SameDrops c t t'
says_drops c t t' says notes e = let q = says notes e in (q.0, q.1, q.2, q.3, silent_undropped c q.1 q.4)

stood_as : (c : ℕ) (b : Held) (octets : List ℕ) (ns ms : List NoteValue) (items : List Item) → ((i : ℕ) → is_dropped c ms i ≡ is_dropped c ns i) → StandsTold c b octets ns items → StandsTold c b octets ms items
stood_as c b octets ns ms items same s = record {
  count = s.count;
  pending = s.pending;
  spelling = kept_same (is_dropped c ns) (is_dropped c ms) 0 items (λ j low high. same j) ∙ s.spelling;
  indices = λ i d. s.indices i (sym (same i) ∙ d);
}

stands_as : (c : ℕ) (b : Held) (g g' : Option (List ℕ)) (t t' : Option (List NoteValue)) (items : List Item) → g' ≡ g → SameDrops c t t' → Stands c b g t items → Stands c b g' t' items
stands_as c b g g' t t' items same drops s = record {
  where_told = λ octets eo notes en few.
      let d = drops notes en in
      stood_as c b octets d.0 notes items (drops_as c d.0 d.1 notes d.3 d.4) (s.where_told octets (sym same ∙ eo) d.0 d.2 few);
}

faired_as : (c l : ℕ) (ring octets : List ℕ) (ns ms : List NoteValue) (items : List Item) → list_all (is_silent c) ms ≡ true → FairTold c l ring octets ns items → FairTold c l ring octets (ns ++ ms) items
faired_as c l ring octets ns [] items silent f = subst (λ (z : List NoteValue). FairTold c l ring octets z items) (sym (append-nil ns)) f
faired_as c l ring octets ns (n ∷ ms) items silent f = subst (λ (z : List NoteValue). FairTold c l ring octets z items) (append_assoc ns (n ∷ []) ms)
    (faired_as c l ring octets (ns ++ n ∷ []) ms items (and_right (is_silent c n) (list_all (is_silent c) ms) silent)
    (faired_silent c l ring octets ns n items (and_left (is_silent c n) (list_all (is_silent c) ms) silent) f))

fair_as : (c l : ℕ) (b : Held) (g g' : Option (List ℕ)) (t t' : Option (List NoteValue)) (items : List Item) → g' ≡ g → SaysNothing c t t' → FairLine c l b g t items → FairLine c l b g' t' items
fair_as c l b g g' t t' items same says f = record {
  where_told = λ octets eo notes en few.
      let q = says notes en in
      subst (λ (z : List NoteValue). FairTold c l b.ring octets z items) (sym q.3) (faired_as c l b.ring octets q.0 q.1 items q.4 (f.where_told octets (sym same ∙ eo) q.0 q.2 few));
}

rests_outside : (c : ℕ) (p : Option Phase) (xs : List Item) (h : HubState) (n n' : NetState) (t t' : Option (List NoteValue)) → n'.tells ≡ n.tells → taken_of n' c ≡ taken_of n c → SaysNothing c t t'
    → Rests c p xs (server h n t) → Rests c p xs (server h n' t')
rests_outside c p xs h n n' t t' tells same says x =
    let drops = says_drops c t t' says in
    record {
      shown = x.shown;
      known = x.known;
      stands = λ there. stands_as c (held_at h c) (taken_of n c) (taken_of n' c) t t' xs same drops (x.stands there);
      count = x.count;
      front = λ gone few. subst (λ (z : List Item). TakesFront c z n' t') (append-nil xs) (front_later c xs [] n n' t t' same drops (x.front gone few));
      fair = λ there. let f = x.fair there in record { pending = f.pending; drops = fair_as c h.config.limit (held_at h c) (taken_of n c) (taken_of n' c) t t' xs same says f.drops };
      drops = λ gone few. fairly_later c h.config.limit xs n n' t t' tells drops (x.drops gone few);
    }

pub rests_as : (c : ℕ) (p : Option Phase) (xs : List Item) (a b : Server) → b.hub ≡ a.hub → b.net.tells ≡ a.net.tells → taken_of b.net c ≡ taken_of a.net c → SaysNothing c a.told b.told → Rests c p xs a → Rests c p xs b
rests_as c p xs a b hub tells same says x =
    subst (λ (z : HubState). Rests c p xs (server z b.net b.told)) (sym hub) (rests_outside c p xs a.hub a.net b.net a.told b.told tells same says x)
