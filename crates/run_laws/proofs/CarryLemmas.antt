-- What a hub holds after a turn, beside the items of its notes; and its phases beside those of the notes.
use Rattle.run_laws.proofs.Below.{◌≡◌, ◌<◌, ◌+◌, ◌^◌, ◌-◌, ℕ, List, [], ◌∷◌, ◌++◌, Some, None, Bool, true, false, cond, length, refl, sym, ap, ◌∙◌, arith, NoteValue, Item, spelled, all_spelled, has_number, is_accepted, World, world, is_gone_phase, phase, plain, unless_gone, without, Carries, Carried, dropped_named, taken_of, is_dropped, kept, HubState, Server, Entry, has_entry, entry_at, phase_at, numbered_at, pending_at, ring_at, Settled, none_of, progress_at, by_cases, Agrees}
use Rattle.run_meaning.specs.Counts as counts
use Rattle.run_meaning.specs.Server as run
use Rattle.run_meaning.specs.Kept as meant
use Rattle.hub_lines.proofs.CallLemmas as calls
use Rattle.run_laws.proofs.WorldLemmas.{accepted_known}
use Rattle.run_laws.proofs.RestLemmas.{there_by_phase}
use Rattle.run_laws.proofs.AgreeLemmas.{rests_of}

-- ---- what was not dropped

kept_one : (x : Item) (zs : List Item) (b : Bool) → cond b [] (spelled x) ++ all_spelled zs ≡ all_spelled (cond b zs (x ∷ zs))
kept_one x zs true = refl
kept_one x zs false = refl

-- the octets of the items that are kept
pub kept_spelled : (p : ℕ → Bool) (ds : List ℕ) (i : ℕ) (xs : List Item) → ((j : ℕ) → p j ≡ has_number j ds) → kept p i xs ≡ all_spelled (without i ds xs)
kept_spelled p ds i [] same = refl
kept_spelled p ds i (x ∷ xs) same =
    ap (λ (z : Bool). cond z [] (spelled x) ++ kept p (i + 1) xs) (same i) ∙ ap (λ (z : List ℕ). cond (has_number i ds) [] (spelled x) ++ z) (kept_spelled p ds (i + 1) xs same)
    ∙ kept_one x (without (i + 1) ds xs) (has_number i ds)

-- ---- after a turn

module _ {S : Type 0} (r : run.Server S) where
  carries_by : (b : Bool) (took held octets : List ℕ) → (b ≡ true → (behind : List ℕ) × (octets ≡ took ++ behind)) → (b ≡ false → took ++ held ≡ octets) → Carries b took held octets
  carries_by true took held octets gone there = gone refl
  carries_by false took held octets gone there = there refl

  counted : (n p k last : ℕ) → n + p ≡ k → k < last → n < last
  counted n p k last e few = omega arith

  pub agrees_carried : (ns : List NoteValue) (s : Server) → Agrees (world r ns) ns s → Settled s.hub → (c : ℕ) → length (plain r ns c) < 2 ^ 64 - 1 → is_accepted c ns ≡ true → Carried r ns c (s.net.taken c) (ring_at s.hub c)
  agrees_carried ns s x settled c few accepted =
      let items = plain r ns c in
      let p = phase r ns c in
      let took = s.net.taken c in
      let y = x.lines c in
      let rests = rests_of c ((world r ns).line c) ns s y in
      let bridge : kept (is_dropped c ns) 0 items ≡ all_spelled (meant.kept r ns c) = kept_spelled (is_dropped c ns) (counts.drops c ns) 0 items (λ j. dropped_named c j ns) in
      let tells : taken_of s.net c ≡ Some took = ap (λ (z : Bool). cond z (Some took) None) x.tells in
      carries_by (is_gone_phase p) took (ring_at s.hub c) (all_spelled (meant.kept r ns c))
      (λ gone. let w = (y.front gone few).where_told took tells ns x.told in (w.0, sym bridge ∙ w.1))
      (λ stays.
      let there = there_by_phase s.hub c p rests.shown (accepted_known r c ns accepted) stays in
      let below = counted (numbered_at s.hub c) (length (pending_at s.hub c)) (length items) (2 ^ 64 - 1) (y.count there few) few in
      sym (sym bridge ∙ calls.carried c s items ns (y.stands there) x.tells x.told below ∙ ap (λ (z : List ℕ). took ++ z) (calls.settled_held s.hub c settled)))

-- ---- phases

-- a connection without an entry shows none
entry_shown : (h : HubState) (c : ℕ) → unless_gone (phase_at h c) ≡ (progress_at h c).phase
entry_shown h c = by_cases (has_entry h.entries c)
    (λ has. ap (λ (z : Bool). unless_gone (cond z (Some (entry_at h c).phase) None)) has)
    (λ none. ap (λ (z : Bool). unless_gone (cond z (Some (entry_at h c).phase) None)) none ∙ ap (λ (z : Entry). unless_gone (Some z.phase)) (sym (none_of h.entries c none)))

pub agrees_phase : {S : Type 0} (w : World S) (ns : List NoteValue) (s : Server) → Agrees w ns s → (c : ℕ) → unless_gone (phase_at s.hub c) ≡ unless_gone (w.line c).phase
agrees_phase w ns s x c = entry_shown s.hub c ∙ (rests_of c (w.line c) ns s (x.lines c)).shown
