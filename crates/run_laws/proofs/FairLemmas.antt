-- What was dropped was dropped fairly, by the words of a run.
use Rattle.run_laws.proofs.Below.{◌≡◌, ◌≢◌, ◌<◌, ◌+◌, ◌^◌, ◌-◌, ℕ, List, [], ◌∷◌, ◌++◌, Some, None, Bool, false, cond, take, length, sym, ap, ◌∙◌, subst, arith, slice_get-get_or, ConfigValue, NoteValue, Item, reply, world, is_gone_phase, phase, plain, IsFair, taken_of, is_dropped, item_at, IsFairDrop, AreFairNotes, Server, numbered_at, pending_at, by_cases, dropped_named, short_named, took_named, fair_at, Agrees}
use Rattle.ws_kinds.specs.NoteValue as note
use Rattle.run_meaning.specs.Counts as counts
use Rattle.run_meaning.specs.Server as run
use Rattle.run_laws.proofs.RestLemmas.{there_by_phase}
use Rattle.run_laws.proofs.AgreeLemmas.{rests_of}
use Rattle.run_laws.proofs.CarryLemmas.{kept_spelled}

-- a drop by the words of a hub's lines
pub fair_of : (l : ℕ) (items : List Item) (before : List NoteValue) (c i h : ℕ) → IsFairDrop c l items before i h → IsFair l items before c i h
fair_of l items before c i h d = record {
  item = item_at items i;
  is = slice_get-get_or items i (reply []) d.put;
  droppable = d.droppable;
  once = sym (dropped_named c i before) ∙ by_cases (is_dropped c before i) (λ known. absurd (let low = d.above i known in omega arith)) (λ new. new);
  over = d.over;
  short = sym (short_named c false before) ∙ d.short;
  amount = ap (λ (z : ℕ). h + z) (sym (took_named c before)) ∙ d.amount
      ∙ ap length (kept_spelled (is_dropped c before) (counts.drops c before) 0 (take i items) (λ j. dropped_named c j before));
}

below_end : (n p k last : ℕ) → n + p ≡ k → k < last → n < last
below_end n p k last e few = omega arith

module _ {S : Type 0} (r : run.Server S) where
  -- whether or not the connection is gone
  notes_are_fair : (ns : List NoteValue) (s : Server) → Agrees (world r ns) ns s → (c : ℕ) → phase r ns c ≢ None → length (plain r ns c) < 2 ^ 64 - 1 → AreFairNotes c s.hub.config.limit (plain r ns c) [] ns
  notes_are_fair ns s x c known few =
      let p = phase r ns c in
      let items = plain r ns c in
      let took = s.net.taken c in
      let y = x.lines c in
      let tells : taken_of s.net c ≡ Some took = ap (λ (z : Bool). cond z (Some took) None) x.tells in
      by_cases (is_gone_phase p)
      (λ gone. (y.drops gone few).where_told took tells ns x.told)
      (λ stays.
      let there = there_by_phase s.hub c p (rests_of c ((world r ns).line c) ns s y).shown known stays in
      let below = below_end (numbered_at s.hub c) (length (pending_at s.hub c)) (length items) (2 ^ 64 - 1) (y.count there few) few in
      ((y.fair there).drops.where_told took tells ns x.told below).drops)

  pub agrees_fair : (f : ConfigValue) (ns : List NoteValue) (s : Server) → Agrees (world r ns) ns s → s.hub.config ≡ f → (before rest : List NoteValue) (c i h : ℕ) → ns ≡ before ++ note.dropped c i h ∷ rest
      → phase r ns c ≢ None → length (plain r ns c) < 2 ^ 64 - 1 → IsFair f.limit (plain r ns c) before c i h
  agrees_fair f ns s x config before rest c i h e known few =
      let items = plain r ns c in
      let l = s.hub.config.limit in
      subst (λ (z : ConfigValue). IsFair z.limit items before c i h) config (fair_of l items before c i h
      (fair_at c l i h items [] before rest (subst (λ (z : List NoteValue). AreFairNotes c l items [] z) e (notes_are_fair ns s x c known few))).0)
