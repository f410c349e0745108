-- What it leaves of a hub that an item is put, or what is held is offered, for a connection whose link fails: it is gone.
use Rattle.hub_core.proofs.Below.{◌≡◌, ◌≢◌, ◌<◌, ◌≤◌, ◌+◌, ◌^◌, ◌-◌, ◌⊎◌, inl, inr, ℕ, List, [], ◌∷◌, ◌++◌, length, Bool, true, false, nat_eq, ◌&&◌, ◌||◌, refl, sym, ap, ◌∙◌, subst, append-nil, arith, ⊎_elim, cases_eq, LinkFailed, NoteValue, CountsFault, number_of, is_gone_by_in, taken_of, Server, entry_at, numbered_at, ring_at, cork_at, pending_at, is_gone, is_present, Stands, StandsFor, buffered_at, with_pending, Beside, Ties, SameLinesElsewhere, ShortRings, only, stands_point, beside_then, line_gone, only_here, only_other, lines_elsewhere_then, is_link_failure, RoseBy, FailsAfter, TakesFront, KeepsFront, SameDrops, front_later, drops_then, fairly_later, fairly_longer, fairly_now, undropped, Advances, Proceeds, Appends, clash, or_none, same_number, other_number, outgoing_both, advances_then, front_then, IsSent, Failed, PutsItem, Leaves, keeps_of, Passes, octets_of}
use Rattle.ws_kinds.specs.NoteValue as note
use Rattle.wire_meaning.specs.Answer as answer
use Rattle.socket_core.specs.declared.item.Item.{Item}
use Rattle.hub_core.proofs.SentLemmas.{sent_outgoing, failures_after, gone_by_after}
use Rattle.hub_core.proofs.ItemLemmas.{octets_sent}
use Rattle.hub_core.proofs.StateLemmas.{is_there, told_before, drops_none}
use Rattle.hub_core.proofs.PutLemmas.{put_advances, put_beside, put_elsewhere, put_ties, put_front_other, put_short_other, put_waits_other}
use Rattle.hub_core.proofs.LeaveLemmas.{may_leave, leave_advances, leave_beside, leave_lines, leave_ties, leave_gone, leave_taken, leave_before, leave_drops, leave_front_other, leave_short_other, leave_waits}

rose_once : (old mid new last : ℕ) → (old < mid) ⊎ (mid ≡ last) → mid ≤ new → (old + 1 ≤ new) ⊎ (last ≤ new)
rose_once old mid new last (inl rise) least = inl (omega arith)
rose_once old mid new last (inr end) least = inr (omega arith)

rose_by_one : (count old mid new : ℕ) → count ≡ 1 → CountsFault old mid → mid ≤ new → RoseBy count old new
rose_by_one count old mid new e rose least = subst (λ (z : ℕ). RoseBy z old new) (sym e) (record {
  least = let first = rose.0 in omega arith;
  each = rose_once old mid new (2 ^ 64 - 1) rose.1 least;
})

or_true : (b g : Bool) → g ≡ true → true ≡ (b || g)
or_true true g e = refl
or_true false g e = sym e

counted_before : (m k n last : ℕ) → (m + k) + n < last → m < last
counted_before m k n last few = omega arith

module _ {c : ℕ} {may_drop : Bool} {popped : List (List ℕ)} {a b d : Server} (p : Passes c may_drop popped Failed a b) (l : Leaves c LinkFailed b d) (there : is_gone (entry_at a.hub c).phase ≡ false) where
  abbrev notes : List NoteValue
  notes = p.offers.notes ++ note.gone c LinkFailed ∷ []

  fail_advances : Advances notes a d
  fail_advances = advances_then p.offers.notes (note.gone c LinkFailed ∷ []) a b d
      (put_advances p there) (leave_advances l (ap is_gone p.phase ∙ there) (may_leave (entry_at b.hub c).phase LinkFailed refl))

  gone_by : (x : ℕ) → is_gone_by_in x LinkFailed notes ≡ ((nat_eq c x && true) || false)
  gone_by x = gone_by_after c x LinkFailed p.offers.notes (note.gone c LinkFailed ∷ []) p.offers.own

  fail_broken : a.net.tells ≡ true → (x : ℕ) → d.net.broken x ≡ (a.net.broken x || is_gone_by_in x LinkFailed notes)
  fail_broken t x = (l.shuts.told (p.net.net.tells ∙ t)).traffic.broken x ∙ ⊎_elim
      (λ (q : x ≡ c). subst (λ (z : ℕ). b.net.broken z ≡ (a.net.broken z || is_gone_by_in z LinkFailed notes)) (sym q)
      (p.failed.broken t ∙ or_true (a.net.broken c) (is_gone_by_in c LinkFailed notes) (gone_by c ∙ ap (λ (z : Bool). (z && true) || false) (same_number c))))
      (λ (ne : x ≢ c). (p.net.told t).elsewhere.broken x ne
      ∙ or_none (a.net.broken x) (is_gone_by_in x LinkFailed notes) (gone_by x ∙ ap (λ (z : Bool). (z && true) || false) (other_number c x ne)))
      (cases_eq x c)

  fail_fails : FailsAfter notes a.net d.net
  fail_fails = record {
    broken = fail_broken;
    faults = rose_by_one (number_of is_link_failure notes) a.net.faults b.net.faults d.net.faults (failures_after c p.offers.notes (note.gone c LinkFailed ∷ []) p.offers.own) p.failed.faults l.shuts.faults;
  }

  -- the notes tell what the link took, and that the connection is gone
  pub fail_proceeds : Proceeds [] [] a d
  fail_proceeds = record {
    sending = notes;
    outgoing = outgoing_both p.offers.notes (note.gone c LinkFailed ∷ []) (sent_outgoing c p.offers.notes p.offers.own) refl;
    advances = subst (λ (z : List NoteValue). Advances z a d) (sym (append-nil notes)) fail_advances;
    fails = subst (λ (z : List NoteValue). FailsAfter z a.net d.net) (sym (append-nil notes)) fail_fails;
  }

  fail_beside : Beside c a d
  fail_beside = beside_then (put_beside p) (leave_beside l)

  pub fail_elsewhere : SameLinesElsewhere c a d
  fail_elsewhere = lines_elsewhere_then c a b d (put_elsewhere p) (leave_lines l)

  pub fail_ties : Ties a → Ties d
  fail_ties ties = leave_ties l (put_ties p ties)

  pub fail_gone : is_present d.hub c ≡ false
  fail_gone = leave_gone l

  -- the frames that are put are those of these items
  abbrev Adds : List answer.Item → Type 0
  Adds more = (items : List answer.Item) → StandsFor c a items → Stands c (with_pending (buffered_at a.hub c) (popped ++ [])) (taken_of a.net c) a.told (items ++ more)

  -- no item of it was dropped
  fail_drops : SameDrops c a.told d.told
  fail_drops = drops_then c a.told b.told d.told (drops_none c a.told b.told p.offers.notes p.offers.told (undropped c p.offers.notes p.offers.dropped)) (leave_drops l c)

  -- the link took a front of the items with these behind them
  fail_front : (more : List answer.Item) → Adds more → KeepsFront c more a d
  fail_front more adds =
      let was : is_present a.hub c ≡ true = is_there (is_gone (entry_at a.hub c).phase) there in
      record {
        tells = l.shuts.net.tells ∙ p.net.net.tells;
        told = λ now e. let q = leave_before l now e in told_before a.told b.told p.offers.notes p.offers.told q.0 q.1;
        count = λ is few. clash (is_present d.hub c) fail_gone is;
        front = λ was gone few items stands.
            subst (λ (z : List answer.Item). TakesFront c z d.net d.told) (append-nil (items ++ more)) (front_later c (items ++ more) [] b.net d.net b.told d.told (leave_taken l c) (leave_drops l c)
            (p.front refl (counted_before (numbered_at a.hub c) (length (pending_at a.hub c)) (length more) (2 ^ 64 - 1) few) [] (items ++ more) (adds items stands)));
        taken = λ gone. clash (is_present a.hub c) gone was;
        drops = λ gone. clash (is_present a.hub c) gone was;
        fair = λ was gone few items stands fair.
            fairly_longer c a.hub.config.limit items more d.net d.told (fairly_later c a.hub.config.limit items a.net d.net a.told d.told (l.shuts.net.tells ∙ p.net.net.tells) fail_drops
            (fairly_now c a items (counted_before (numbered_at a.hub c) (length (pending_at a.hub c)) (length more) (2 ^ 64 - 1) few) fair));
        stays = λ gone. clash (is_present a.hub c) gone was;
      }

  fail_front_other : (x : ℕ) → x ≢ c → KeepsFront x [] a d
  fail_front_other x ne = front_then x [] [] a b d p.elsewhere.table.config
      (put_front_other p x ne) ((put_beside p).lines x ne) (leave_front_other l x ne) ((leave_beside l).lines x ne)

  fail_short : ShortRings a → ShortRings d
  fail_short short x is = ⊎_elim
      (λ (q : x ≡ c). clash (is_present d.hub x) (ap (λ (z : ℕ). is_present d.hub z) q ∙ fail_gone) is)
      (λ (ne : x ≢ c). leave_short_other l x ne (put_short_other p x ne (short x (fail_elsewhere.present x ne is))))
      (cases_eq x c)

  -- these items are appended for the connection, and nothing for the others
  pub fail_appended : (f : ℕ → List answer.Item) → ((x : ℕ) → x ≢ c → f x ≡ []) → Adds (f c) → Appends f a d
  fail_appended f others adds = record {
    lines = keeps_of c f a d fail_beside others (line_gone c (f c) a d fail_gone);
    fronts = λ x below. ⊎_elim
        (λ (q : x ≡ c). subst (λ (z : ℕ). KeepsFront z (f z) a d) (sym q) (fail_front (f c) adds))
        (λ (ne : x ≢ c). subst (λ (z : List answer.Item). KeepsFront x z a d) (sym (others x ne)) (fail_front_other x ne))
        (cases_eq x c);
    short = fail_short;
    waits = λ waits. leave_waits l (λ x ne. put_waits_other p x ne (waits x));
  }

-- an item is put, and so it is appended
pub fail_appends : {c : ℕ} (item : Item) {a b d : Server} (p : PutsItem c item Failed a b) (l : Leaves c LinkFailed b d) → is_gone (entry_at a.hub c).phase ≡ false → (sent : answer.Item) → IsSent item sent → Appends (only c sent) a d
fail_appends {c} item {a} p l there sent s = fail_appended p l there (only c sent) (λ x ne. only_other c x sent ne) (λ items stands.
    subst (λ (z : List answer.Item). Stands c (with_pending (buffered_at a.hub c) (octets_of item ∷ [])) (taken_of a.net c) a.told (items ++ z)) (sym (only_here c sent))
    (subst (λ (z : List ℕ). Stands c (with_pending (buffered_at a.hub c) (z ∷ [])) (taken_of a.net c) a.told (items ++ sent ∷ [])) (sym (octets_sent item sent s))
    (stands_point c (numbered_at a.hub c) (ring_at a.hub c) (cork_at a.hub c) [] (taken_of a.net c) a.told items sent
    (subst (λ (z : List (List ℕ)). Stands c (with_pending (buffered_at a.hub c) z) (taken_of a.net c) a.told items) p.before stands))))
