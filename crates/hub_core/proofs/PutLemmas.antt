-- What it leaves of a hub that an item is put, or that what is held is offered, whether or not the connection's link fails.
use Rattle.hub_core.proofs.Below.{◌≤◌, ◌≡◌, ◌≢◌, ◌<◌, ◌+◌, ◌^◌, ◌-◌, inl, ℕ, List, [], ◌∷◌, ◌++◌, Bool, true, false, min, not, ◌&&◌, ◌||◌, length, refl, sym, ap, ◌∙◌, subst, append-nil, arith, ⊎_elim, cases_eq, nat_tests, LinkFailed, NoteValue, spelled, writes, taken, number_of, is_gone_in, is_gone_by_in, tell_by_all, ShortWhereHeld, Entry, Server, entry_at, numbered_at, pending_at, is_gone, is_present, Moves, buffered_at, KeepsLine, Beside, Ties, SameLinesElsewhere, ShortRings, only, line_put, only_here, only_other, ties_same, is_link_failure, TrafficAfter, NetAfter, RoseBy, FailsAfter, KeepsFront, RingsWait, progress_at, tell_at, SameCounts, count_of, Advances, Proceeds, Appends, clash, can_drop, IsSent, TellsRing, TellsFailure, LeavesLinkWhole, Kept, Clear, Backlog, Dropped, Failed, TellsPut, PutsItem, Passes, keeps_of, Waits}
use Rattle.wire_meaning.specs.Answer as answer
use Rattle.socket_core.specs.declared.item.Item.{Item}
use Rattle.hub_core.proofs.SentLemmas.{sent_outgoing, sent_failures, sent_gone, sent_gone_by, sent_silent, sent_wrote, sent_taken, sent_progress, sent_may, sent_tells, sent_untold, short_still}
use Rattle.hub_core.proofs.ItemLemmas.{octets_sent, drops_sent}
use Rattle.hub_core.proofs.StateLemmas.{phase_there, phase_twice, is_there, progress_same, present_same, change_phase, change_progress, beside_change, lines_elsewhere, front_still, told_before}
use Rattle.hub_core.proofs.NoteLemmas.{counts_changed}

counts_more : (i j k l m n last : ℕ) → j ≡ min (i + n) last → k ≡ 0 → l ≡ 0 → m ≡ n → (i + k) + m < last → j + l ≡ (i + k) + m
counts_more i j k l m n last e before after same few = grind (arith, nat_tests)

module _ {c : ℕ} {may_drop : Bool} {popped : List (List ℕ)} {kept : Kept} {a b : Server} (p : Passes c may_drop popped kept a b) where
  -- ---- whatever the answer

  pub put_phase : (x : ℕ) → (entry_at b.hub x).phase ≡ (entry_at a.hub x).phase
  put_phase x = ⊎_elim
      (λ (q : x ≡ c). subst (λ (z : ℕ). (entry_at b.hub z).phase ≡ (entry_at a.hub z).phase) (sym q) p.phase)
      (λ (ne : x ≢ c). change_phase p.elsewhere x ne)
      (cases_eq x c)

  put_progress : (x : ℕ) → progress_at b.hub x ≡ progress_at a.hub x
  put_progress x = ⊎_elim
      (λ (q : x ≡ c). subst (λ (z : ℕ). progress_at b.hub z ≡ progress_at a.hub z) (sym q) (progress_same a.hub b.hub c p.phase p.topics p.due))
      (λ (ne : x ≢ c). change_progress p.elsewhere x ne)
      (cases_eq x c)

  pub put_present : (x : ℕ) → is_present b.hub x ≡ is_present a.hub x
  put_present x = present_same a.hub b.hub x (put_phase x)

  put_told : (x : ℕ) → tell_at b.hub x ≡ tell_by_all x p.offers.notes (tell_at a.hub x)
  put_told x = ⊎_elim
      (λ (q : x ≡ c). subst (λ (z : ℕ). tell_at b.hub z ≡ tell_by_all z p.offers.notes (tell_at a.hub z)) (sym q) (p.tells ∙ sym (sent_tells c kept p.offers.notes (tell_at a.hub c) p.offers.own p.offers.dropped)))
      (λ (ne : x ≢ c). p.elsewhere.tells x ne ∙ sym (sent_untold c x p.offers.notes (tell_at a.hub x) ne p.offers.own))
      (cases_eq x c)

  put_counts : SameCounts a.hub b.hub
  put_counts = counts_changed c a.hub b.hub p.elsewhere (λ there. (sym (put_present c) ∙ there, ap count_of p.quiet))

  put_wrote : a.net.tells ≡ true → (x : ℕ) → b.net.wrote x ≡ a.net.wrote x ++ writes x p.offers.notes
  put_wrote t x = ⊎_elim
      (λ (q : x ≡ c). subst (λ (z : ℕ). b.net.wrote z ≡ a.net.wrote z ++ writes z p.offers.notes) (sym q) (p.offers.wrote t))
      (λ (ne : x ≢ c). (p.net.told t).elsewhere.wrote x ne ∙ sym (append-nil (a.net.wrote x)) ∙ ap (λ (z : List (ℕ × ℕ)). a.net.wrote x ++ z) (sym (sent_wrote c x p.offers.notes ne p.offers.own)))
      (cases_eq x c)

  more_by_none : (k l m : ℕ) → k ≡ l → m ≡ 0 → k ≡ l + m
  more_by_none k l m e h = omega arith

  put_taken : a.net.tells ≡ true → (x : ℕ) → length (b.net.taken x) ≡ length (a.net.taken x) + taken x p.offers.notes
  put_taken t x = ⊎_elim
      (λ (q : x ≡ c). subst (λ (z : ℕ). length (b.net.taken z) ≡ length (a.net.taken z) + taken z p.offers.notes) (sym q) (p.offers.taken t))
      (λ (ne : x ≢ c). more_by_none (length (b.net.taken x)) (length (a.net.taken x)) (taken x p.offers.notes)
      (ap (λ (z : List ℕ). length z) ((p.net.told t).elsewhere.taken x ne)) (sent_taken c x p.offers.notes ne p.offers.own))
      (cases_eq x c)

  put_given : a.net.tells ≡ true → (x : ℕ) → b.net.given x ≡ a.net.given x
  put_given t x = ⊎_elim
      (λ (q : x ≡ c). subst (λ (z : ℕ). b.net.given z ≡ a.net.given z) (sym q) (p.net.told t).given)
      (λ (ne : x ≢ c). (p.net.told t).elsewhere.given x ne)
      (cases_eq x c)

  put_ended : a.net.tells ≡ true → (x : ℕ) → b.net.ended x ≡ a.net.ended x
  put_ended t x = ⊎_elim
      (λ (q : x ≡ c). subst (λ (z : ℕ). b.net.ended z ≡ a.net.ended z) (sym q) (p.net.told t).ended)
      (λ (ne : x ≢ c). (p.net.told t).elsewhere.ended x ne)
      (cases_eq x c)

  put_traffic : a.net.tells ≡ true → TrafficAfter p.offers.notes a.net b.net
  put_traffic t = record {
    wrote = put_wrote t;
    taken = put_taken t;
    given = put_given t;
    ended = put_ended t;
    passed = (p.net.told t).passed;
    rested = (p.net.told t).rested;
  }

  still_live : (l g : Bool) → g ≡ false → l ≡ (l && not g)
  still_live true g e = sym (is_there g e)
  still_live false g e = refl

  pub put_net : NetAfter p.offers.notes a.net b.net
  put_net = record {
    net = p.net.net;
    told = put_traffic;
    live = λ x. p.net.live x ∙ still_live (a.net.live x) (is_gone_in x p.offers.notes) (sent_gone c x p.offers.notes p.offers.own);
    due = λ x none. p.net.due x;
    named = p.net.named;
    port = p.net.port;
    room = p.net.room;
  }

  pub put_advances : is_gone (entry_at a.hub c).phase ≡ false → Advances p.offers.notes a b
  put_advances there = record {
    told = p.offers.told;
    may_come = λ x. sent_may c x p.offers.notes (progress_at a.hub x)
        (λ q. ((entry_at a.hub x).phase, phase_there (entry_at a.hub x).phase (ap (λ (z : ℕ). is_gone (entry_at a.hub z).phase) q ∙ there)))
        p.offers.own (phase_twice (entry_at a.hub x).phase);
    progress = λ x. put_progress x
        ∙ sym (sent_progress c x p.offers.notes (progress_at a.hub x) p.offers.own (phase_twice (entry_at a.hub x).phase));
    tells = λ _. put_told;
    counts = λ _. put_counts;
    net = put_net;
  }

  pub put_beside : Beside c a b
  put_beside = beside_change c a b p.elsewhere p.others

  pub put_elsewhere : SameLinesElsewhere c a b
  put_elsewhere = lines_elsewhere c a b p.elsewhere p.net.net.tells (λ x ne t. (p.net.told t).elsewhere.taken x ne)

  pub put_ties : Ties a → Ties b
  put_ties ties = ties_same a b ties p.net.live (λ x there. sym (put_present x) ∙ there)

  -- the front of another connection
  pub put_front_other : (x : ℕ) → x ≢ c → KeepsFront x [] a b
  put_front_other x ne = front_still c x a b p.offers.notes ne p.elsewhere p.net.net.tells
      (λ t. (p.net.told t).elsewhere.taken x ne) p.offers.told (sent_silent c x p.offers.notes ne p.offers.own)

  -- another connection's ring
  pub put_short_other : (x : ℕ) → x ≢ c → ShortWhereHeld x (entry_at a.hub x).ring a.told → ShortWhereHeld x (entry_at b.hub x).ring b.told
  put_short_other x ne s = subst (λ (z : Entry). ShortWhereHeld x z.ring b.told) (sym (p.elsewhere.table.entries x ne))
      (short_still x (entry_at a.hub x).ring a.told b.told p.offers.notes p.offers.told (sent_silent c x p.offers.notes ne p.offers.own) s)

  -- another connection's ring is as it was, and so is whether its link takes octets
  pub put_waits_other : (x : ℕ) → x ≢ c → Waits x a → Waits x b
  put_waits_other x ne waits there some = p.net.writable x ne ∙ waits (sym (put_present x) ∙ there) (λ none. some (ap (λ (z : Entry). z.ring) (p.elsewhere.table.entries x ne) ∙ none))

  pub put_waits : RingsWait a → RingsWait b
  put_waits waits x there some = ⊎_elim
      (λ (q : x ≡ c). subst (λ (z : ℕ). b.net.writable z ≡ false) (sym q)
      (p.waits (waits c (ap (is_present a.hub) (sym q) ∙ sym (put_present x) ∙ there)) (λ none. some (ap (λ (z : ℕ). (entry_at b.hub z).ring) q ∙ none))))
      (λ (ne : x ≢ c). put_waits_other x ne (waits x) there some)
      (cases_eq x c)

  -- ---- no write failed

  whole_of : (kept : Kept) → kept ≢ Failed → TellsFailure kept c a.net b.net → LeavesLinkWhole c a.net b.net
  whole_of Clear ok f = f
  whole_of (Backlog held) ok f = f
  whole_of (Dropped held) ok f = f
  whole_of Failed ok f = absurd (ok refl)

  or_none : (b g : Bool) → g ≡ false → b ≡ (b || g)
  or_none true g e = refl
  or_none false g e = sym e

  put_broken : LeavesLinkWhole c a.net b.net → a.net.tells ≡ true → (x : ℕ) → b.net.broken x ≡ a.net.broken x
  put_broken whole t x = ⊎_elim
      (λ (q : x ≡ c). subst (λ (z : ℕ). b.net.broken z ≡ a.net.broken z) (sym q) (whole.broken t))
      (λ (ne : x ≢ c). (p.net.told t).elsewhere.broken x ne)
      (cases_eq x c)

  none_rose : (count old new : ℕ) → count ≡ 0 → old ≤ new → RoseBy count old new
  none_rose count old new e least = record { least = least; each = inl (omega arith) }

  put_fails : kept ≢ Failed → FailsAfter p.offers.notes a.net b.net
  put_fails ok = let whole = whole_of kept ok p.failed in record {
    broken = λ t x. put_broken whole t x ∙ or_none (a.net.broken x) (is_gone_by_in x LinkFailed p.offers.notes) (sent_gone_by c x LinkFailed p.offers.notes p.offers.own);
    faults = none_rose (number_of is_link_failure p.offers.notes) a.net.faults b.net.faults (sent_failures c p.offers.notes p.offers.own) whole.faults;
  }

  -- the notes tell what the link took
  pub put_proceeds : is_gone (entry_at a.hub c).phase ≡ false → kept ≢ Failed → Proceeds [] [] a b
  put_proceeds there ok = record {
    sending = p.offers.notes;
    outgoing = sent_outgoing c p.offers.notes p.offers.own;
    advances = subst (λ (z : List NoteValue). Advances z a b) (sym (append-nil p.offers.notes)) (put_advances there);
    fails = subst (λ (z : List NoteValue). FailsAfter z a.net b.net) (sym (append-nil p.offers.notes)) (put_fails ok);
  }

  put_short : kept ≢ Failed → ShortRings a → ShortRings b
  put_short ok short x there =
      let was : ShortWhereHeld x (entry_at a.hub x).ring a.told = short x (sym (put_present x) ∙ there) in
      ⊎_elim
      (λ (q : x ≡ c). subst (λ (z : ℕ). ShortWhereHeld z (entry_at b.hub z).ring b.told) (sym q)
      (p.short ok (subst (λ (z : ℕ). ShortWhereHeld z (entry_at a.hub z).ring a.told) q was)))
      (λ (ne : x ≢ c). put_short_other x ne was)
      (cases_eq x c)

  none : (xs : List (List ℕ)) → xs ≡ [] → length xs ≡ 0
  none xs e = ap (λ (z : List (List ℕ)). length z) e

  put_front : (more : List answer.Item) → length more ≡ length popped → is_gone (entry_at a.hub c).phase ≡ false → KeepsFront c more a b
  put_front more count there =
      let was : is_present a.hub c ≡ true = is_there (is_gone (entry_at a.hub c).phase) there in
      record {
        tells = p.net.net.tells;
        told = told_before a.told b.told p.offers.notes p.offers.told;
        count = λ is few. counts_more (numbered_at a.hub c) (numbered_at b.hub c) (length (pending_at a.hub c)) (length (pending_at b.hub c)) (length more) (length popped) (2 ^ 64 - 1) p.numbered (none (pending_at a.hub c) p.before) (none (pending_at b.hub c) p.after) count few;
        front = λ is gone few items stands. clash (is_present b.hub c) gone (put_present c ∙ was);
        taken = λ gone. clash (is_present a.hub c) gone was;
        drops = λ gone. clash (is_present a.hub c) gone was;
        fair = λ is gone few items stands fair. clash (is_present b.hub c) gone (put_present c ∙ was);
        stays = λ gone. clash (is_present a.hub c) gone was;
      }

  -- these items are appended for the connection, and nothing for the others
  pub passed_appends : (f : ℕ → List answer.Item) → ((x : ℕ) → x ≢ c → f x ≡ []) → length (f c) ≡ length popped → is_gone (entry_at a.hub c).phase ≡ false → kept ≢ Failed → KeepsLine c (f c) a b → Appends f a b
  passed_appends f others count there ok line = record {
    lines = keeps_of c f a b put_beside others line;
    fronts = λ x below. ⊎_elim
        (λ (q : x ≡ c). subst (λ (z : ℕ). KeepsFront z (f z) a b) (sym q) (put_front (f c) count there))
        (λ (ne : x ≢ c). subst (λ (z : List answer.Item). KeepsFront x z a b) (sym (others x ne)) (put_front_other x ne))
        (cases_eq x c);
    short = put_short ok;
    waits = put_waits;
  }

  tells_of : (kept : Kept) → kept ≢ Failed → is_present b.hub c ≡ true → TellsRing a.hub.config.limit kept (entry_at b.hub c).ring → TellsPut kept c b.hub
  tells_of Clear ok is t = (is, t)
  tells_of (Backlog held) ok is t = (is, t.0, t.1)
  tells_of (Dropped held) ok is t = (is, subst (λ (z : ℕ). z < held) (sym (ap (λ z. z.limit) p.elsewhere.table.config)) t.0, t.1)
  tells_of Failed ok is t = absurd (ok refl)

  -- what is answered
  pub put_tells : is_gone (entry_at a.hub c).phase ≡ false → kept ≢ Failed → TellsPut kept c b.hub
  put_tells there ok = tells_of kept ok (put_present c ∙ is_there (is_gone (entry_at a.hub c).phase) there) p.kept_is

-- an item is put
module _ {c : ℕ} (item : Item) {kept : Kept} {a b : Server} (p : PutsItem c item kept a b) (sent : answer.Item) (s : IsSent item sent) where
  put_moves : kept ≢ Failed → Moves c a.hub.config.limit (answer.can_drop sent) (spelled sent ∷ []) (buffered_at a.hub c) (buffered_at b.hub c) a.net b.net a.told b.told
  put_moves ok =
      subst (λ (z : Bool). Moves c a.hub.config.limit z (spelled sent ∷ []) (buffered_at a.hub c) (buffered_at b.hub c) a.net b.net a.told b.told) (drops_sent item sent s)
      (subst (λ (z : List ℕ). Moves c a.hub.config.limit (can_drop item) (z ∷ []) (buffered_at a.hub c) (buffered_at b.hub c) a.net b.net a.told b.told) (octets_sent item sent s) (p.moves ok))

  put_line : kept ≢ Failed → KeepsLine c (sent ∷ []) a b
  put_line ok = line_put c sent a b (λ there. sym (put_present p c) ∙ there) (ap (λ z. z.limit) p.elsewhere.table.config) p.before p.after (λ there. put_moves ok)

  -- it is appended
  pub put_appends : is_gone (entry_at a.hub c).phase ≡ false → kept ≢ Failed → Appends (only c sent) a b
  put_appends there ok = passed_appends p (only c sent) (λ x ne. only_other c x sent ne) (ap (λ (z : List answer.Item). length z) (only_here c sent)) there ok
      (subst (λ (z : List answer.Item). KeepsLine c z a b) (sym (only_here c sent)) (put_line ok))
