-- What it leaves of a hub that what is held for a connection is offered.
use Rattle.hub_core.proofs.Below.{◌≡◌, ◌≢◌, ◌≤◌, ◌^◌, ◌-◌, ◌<◌, ◌||◌, ◌&&◌, ℕ, List, [], ◌∷◌, Bool, true, false, not, nat_eq, refl, sym, ap, ◌∙◌, subst, append-nil, arith, Finished, LinkFailed, Phase, Ending, Item, has_number, Server, entry_at, ring_at, is_gone, is_present, present_entry, StandsFor, Stands, buffered_at, with_pending, taken_of, nothing, Ties, SameLinesElsewhere, lines_elsewhere_then, TakesAll, items_at, appends_same, appends_before_nothing, proceeds_same, clash, no, same, IsTable, table_of, Kept, Failed, Goes, FinishesOne, FinishesIfEmpty, other_number, line_moved, Offers, proceeds_after_quiet, proceeds_last, OffersRing, OffersHeld, HubState, phase_at, has_entry, Some, None, cond}
use Rattle.ws_kinds.specs.NoteValue as note
use Rattle.hub_core.proofs.StateLemmas.{same_or_not}
use Rattle.hub_core.proofs.PutLemmas.{put_elsewhere, put_present, put_proceeds, put_ties, put_waits_other, passed_appends}
use Rattle.hub_core.proofs.FailLemmas.{fail_appended, fail_elsewhere, fail_proceeds, fail_ties}
use Rattle.hub_core.proofs.LeaveLemmas.{leave_waits}
use Rattle.hub_core.proofs.TurnLemmas.{empty_or_not, fewer, is_known, stood}

-- nothing changes
pub same_elsewhere : (c : ℕ) (a : Server) → SameLinesElsewhere c a a
same_elsewhere c a = record { tells = refl; present = λ d ne there. there; phase = λ d ne there. refl; pairs = λ d ne there topic. refl; pending = λ d ne there. refl; octets = λ d ne there tells. refl }

-- nothing is held
pub offers_none : {c : ℕ} (a : Server) → ring_at a.hub c ≡ [] → Ties a → IsTable (table_of a.hub) → OffersHeld c a a
offers_none {c} a none ties table = record {
  ties = ties;
  proceeds = proceeds_same a;
  appends = appends_same a;
  waits = λ others x there some. same_or_not c x
      (λ e. absurd (some (ap (ring_at a.hub) e ∙ none)))
      (λ ne. others x ne there some);
  elsewhere = same_elsewhere c a;
  named = refl;
  table = table;
}

-- no write failed
pub offers_whole : {c : ℕ} {kept : Kept} {a b : Server} → OffersRing c kept a b → is_gone (entry_at a.hub c).phase ≡ false → kept ≢ Failed → Ties a → OffersHeld c a b
offers_whole {c} {kept} {a} {b} x there ok ties =
    let p = x.passes in
    record {
      ties = put_ties p ties;
      proceeds = put_proceeds p there ok;
      appends = passed_appends p nothing (λ d ne. refl) refl there ok
          (line_moved c a b (λ is. sym (put_present p c) ∙ is) (ap (λ z. z.limit) p.elsewhere.table.config) (p.after ∙ sym p.before) (λ is. p.moves ok));
      waits = λ others d is some. same_or_not c d
          (λ e. subst (λ (z : ℕ). b.net.writable z ≡ false) (sym e) (x.waits ok (λ none. some (ap (ring_at b.hub) e ∙ none))))
          (λ ne. put_waits_other p d ne (others d ne) is some);
      elsewhere = put_elsewhere p;
      named = p.elsewhere.table.named;
      table = p.table;
    }

-- one did, and the connection is gone
pub offers_broken : {c : ℕ} {a b d : Server} → OffersRing c Failed a b → Goes c LinkFailed b d → is_gone (entry_at a.hub c).phase ≡ false → Ties a → OffersHeld c a d
offers_broken {c} {a} x g there ties =
    let p = x.passes in let l = g.leaves in
    record {
      ties = fail_ties p l there ties;
      proceeds = fail_proceeds p l there;
      appends = fail_appended p l there nothing (λ e ne. refl) (λ items stands. subst (λ (z : List Item). Stands c (with_pending (buffered_at a.hub c) []) (taken_of a.net c) a.told z) (sym (append-nil items))
          (subst (λ (z : List (List ℕ)). Stands c (with_pending (buffered_at a.hub c) z) (taken_of a.net c) a.told items) p.before stands));
      waits = λ others. leave_waits l (λ e ne. put_waits_other p e ne (others e ne));
      elsewhere = fail_elsewhere p l there;
      named = g.named ∙ p.elsewhere.table.named;
      table = g.table;
    }

-- ---- and then it is finished, or not

-- who is in phase Ending is shown so
pub ending_shown : (h : HubState) (c : ℕ) → (entry_at h c).phase ≡ Ending → phase_at h c ≡ Some Ending
ending_shown h c e =
    let has : has_entry h.entries c ≡ true = present_entry h.entries c (ap (λ (z : Phase). not (is_gone z)) e) in
    ap (λ (z : Bool). cond z (Some (entry_at h c).phase) None) has ∙ ap (λ (z : Phase). Some z) e

pub offers_only : {c : ℕ} {a b : Server} → OffersHeld c a b → ((entry_at b.hub c).phase ≡ Ending → ring_at b.hub c ≢ []) → Offers c a b
offers_only x ending = record {
  ties = x.ties;
  finished = [];
  own = refl;
  rising = tt {0};
  proceeds = x.proceeds;
  appends = x.appends;
  ending = ending;
  whole = λ d e. absurd (no e);
  waits = x.waits;
  elsewhere = x.elsewhere;
  named = x.named;
  table = x.table;
}

number_alone : {A : Type 0} (d c : ℕ) → (d ≡ c → A) → has_number d (c ∷ []) ≡ true → A
number_alone d c here e = same_or_not c d here (λ ne. clash (nat_eq d c || false) (ap (λ (z : Bool). z || false) (other_number d c (λ q. ne (sym q)))) e)

module _ {c : ℕ} {a m b : Server} (x : OffersHeld c a m) (ending : (entry_at m.hub c).phase ≡ Ending) (ties : Ties b) (lines : SameLinesElsewhere c m b) (named : b.hub.named ≡ m.hub.named) (table : IsTable (table_of b.hub)) where
  there : is_present m.hub c ≡ true
  there = ap (λ (z : Phase). not (is_gone z)) ending

  known : c ≤ a.hub.named
  known = subst (λ (z : ℕ). c ≤ z) x.named (is_known m.hub c x.table ending)

  offers_one : FinishesOne c m b → Offers c a b
  offers_one one = record {
    ties = ties;
    finished = c ∷ [];
    own = ap (λ (z : Bool). z && true) (same c);
    rising = (x.table.first c (present_entry m.hub.entries c there), tt {0});
    proceeds = proceeds_after_quiet (note.gone c Finished ∷ []) a m b x.proceeds (proceeds_last (note.gone c Finished ∷ []) m b one.advances one.fails);
    appends = appends_before_nothing nothing a m b x.appends one.appends;
    ending = λ e. clash (is_present b.hub c) one.away (ap (λ (z : Phase). not (is_gone z)) e);
    whole = λ d e. number_alone d c (λ q. subst (λ (z : ℕ). items_at a.hub z < 2 ^ 64 - 1 → (items : List Item) → StandsFor z a items → TakesAll z items b.net b.told) (sym q)
        (λ few items s. one.whole (fewer c a m x.appends known there few) items (stood c a m x.appends known there items s))) e;
    waits = λ others. one.appends.waits (x.waits others);
    elsewhere = lines_elsewhere_then c a m b x.elsewhere lines;
    named = named ∙ x.named;
    table = table;
  }

  pub offers_finished : FinishesIfEmpty c m b → Offers c a b
  offers_finished f = empty_or_not (ring_at m.hub c)
      (λ e. offers_one (f.empty e))
      (λ e. subst (λ (z : Server). Offers c a z) (sym (f.holds e)) (offers_only x (λ _. e)))
