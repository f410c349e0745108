-- What a server keeps while a connection is accepted.
use Rattle.run_kept.proofs.Below.{◌≡◌, ◌≢◌, ◌<◌, ◌+◌, ◌^◌, ◌-◌, ℕ, List, [], ◌∷◌, ◌++◌, Option, Some, None, Bool, true, false, cond, ◌&&◌, length, refl, sym, ap, ◌∙◌, subst, append-nil, arith, list_all, Conn, Phase, Head, Open, Leaving, Ending, Gone, PeerEnd, LinkFailed, ConfigValue, NoteValue, NetState, Nexts, HasNoTraffic, RouteTable, gather, has_number, accepted_by, closes, is_accepted, Line, World, unknown, moved, after_own, line_after, noted, world, Heard, heard, last_frame, Sound, Follows, gather-append, world_plain, Server, server, has_entry, entry_at, numbered_at, taken_of, is_dropped, IsNewTo, nothing, is_dropped_note, Progress, progress_at, progress_by, unless_gone, items_at, Appends, IsTable, table_of, Arrives, Makes, Taken, Agrees, AreUnlike, agrees_accepted, agrees_untold, told_is, dropped_named, new_above, unlike_more, unaccepted_left, same_or_not, other_accepted, itself, is_other, is_at_most_arrival, next_but, at_none, accepted_follows, not_counted, uncounted_writes, uncounted_taken, uncounted_given, uncounted_gone, head_new, heard-append, IntakeView, HearsAt, Kept}
use Rattle.ws_kinds.specs.NoteValue as note
use Rattle.link_trait.specs.declared.net.NetEvent.TheVariants as event
use Rattle.run_meaning.specs.Server as run
use Rattle.run_kept.proofs.EntryLemmas.{entry_before}
use Rattle.run_kept.proofs.IntakeLemmas.{Seen, other_beside}
use Rattle.run_kept.proofs.PassingLemmas.{none_reads, seen_beside, kept_plain}
use Rattle.run_kept.proofs.UnknownLemmas.{none_dropped, unknown_line}
use Rattle.run_kept.proofs.TurningLemmas.{agrees_now}

-- ---- bits

empty_of : (xs : List ℕ) (n : ℕ) → length xs ≡ n + 0 → n ≡ 0 → xs ≡ []
empty_of [] n e z = refl
empty_of (x ∷ xs) n e z = absurd (omega arith)

counted : (n : ℕ) → n ≡ 0 → n < 2 ^ 64 - 1
counted n e = omega arith

head_shown : (p : Phase) → unless_gone (Some p) ≡ Some Head → p ≡ Head
head_shown Head e = refl
head_shown Open e = let z : Some Open ≡ Some Head = e in cc
head_shown Leaving e = let z : Some Leaving ≡ Some Head = e in cc
head_shown Ending e = let z : Some Ending ≡ Some Head = e in cc
head_shown Gone e = let z : None ≡ Some Head = e in cc

module _ {S : Type 0} (r : run.Server S) (f : ConfigValue) (t : RouteTable) (ns : List NoteValue) (a : Server) (now : S) (is : ℕ → IntakeView) (k : Kept r f t ns a now is None) where
  module _ (conn : Conn) (net : NetState) (b : Server) (after : List NoteValue) (next : Nexts (event.Accept conn) a.net net) (taken : Arrives Taken conn.0 (server a.hub net a.told) b)
      (app : Appends nothing (server a.hub net a.told) b) (told : b.told ≡ Some after) (above : a.hub.named < conn.0)
      (sound : (before rest : List NoteValue) (n : NoteValue) → ns ≡ before ++ n ∷ rest → Sound r f before n) where
    abbrev n : NoteValue
    n = note.accepted conn.0

    abbrev made : Makes (note.accepted conn.0 ∷ []) (server a.hub net a.told) b
    made = taken.3

    tells : net.tells ≡ true
    tells = next.net.tells ∙ k.agrees.tells

    none : HasNoTraffic conn.0 net
    none = (next.told k.agrees.tells).fresh

    away : is_accepted conn.0 ns ≡ false
    away = new_above r ns a k.agrees conn.0 above

    least : list_all (is_at_most_arrival conn.0) ns ≡ true
    least = not_counted conn.0 ns away (λ before rest this split own early. (sound before rest this split).named conn.0 own early)

    line_before : (world r ns).line conn.0 ≡ unknown
    line_before = unknown_line r f conn.0 ns k.ordered least away

    more : world r (ns ++ n ∷ []) ≡ noted r n (world r ns)
    more = world_plain r ns n refl refl

    line_after_it : line_after r conn.0 n ((world r ns).line conn.0) ≡ record unknown { phase = Some Head }
    line_after_it = ap (λ (z : Line). line_after r conn.0 n z) line_before ∙ ap (λ (z : Bool). cond z (after_own r n unknown) unknown) (itself conn.0)

    untold_yet : closes conn.0 ns ≡ []
    untold_yet = agrees_untold (world r ns) ns a k.agrees conn.0 (unaccepted_left r conn.0 ns away)

    told_now : b.told ≡ Some (ns ++ n ∷ [])
    told_now = told_is ns (n ∷ []) after a.told b.told made.advances.told k.agrees.told told

    is_new : IsNewTo conn.0 b
    is_new = record {
      taken = λ say. empty_of (b.net.taken conn.0) (length (net.taken conn.0)) ((made.advances.net.told tells).taken conn.0) (ap length none.taken);
      drops = λ notes say i.
          let same : notes ≡ ns ++ n ∷ [] = let z : Some notes ≡ Some (ns ++ n ∷ []) = sym say ∙ told_now in cc in
          ap (λ (z : List NoteValue). is_dropped conn.0 z i) same ∙ is_dropped_note conn.0 ns n i refl ∙ dropped_named conn.0 i ns ∙ ap (has_number i) (none_dropped conn.0 ns least);
    }

    phase_now : (progress_at b.hub conn.0).phase ≡ Some Head
    phase_now =
        ap (λ (z : Progress). z.phase) (made.advances.progress conn.0) ∙ ap (λ (z : Bool). (cond z (progress_by n (progress_at a.hub conn.0)) (progress_at a.hub conn.0)).phase) (itself conn.0)
        ∙ ap (λ (z : Option Phase). unless_gone (moved z n)) (ap (λ (z : Progress). z.phase) (k.agrees.lines conn.0).progress ∙ ap (λ (z : Line). unless_gone z.phase) line_before)

    few : IsTable (table_of b.hub) → items_at b.hub conn.0 ≡ 0
    few table =
        let none_put : numbered_at b.hub conn.0 ≡ 0 = table.heads conn.0 (head_shown (entry_at b.hub conn.0).phase phase_now) in
        let says : taken_of b.net conn.0 ≡ Some (b.net.taken conn.0) = ap (λ (z : Bool). cond z (Some (b.net.taken conn.0)) None) (made.advances.net.net.tells ∙ tells) in
        sym ((taken.2.stands is_new).where_told (b.net.taken conn.0) says (ns ++ n ∷ []) told_now (counted (numbered_at b.hub conn.0) none_put)).count

    follows_now : length a.net.passed < 2 ^ 64 - 1 → Follows (ns ++ n ∷ []) b.net
    follows_now room =
        accepted_follows conn.0 ns net b.net tells
        (at_none conn.0 ns net (uncounted_given conn.0 ns least) (uncounted_taken conn.0 ns least) (uncounted_writes conn.0 ns least) (uncounted_gone conn.0 PeerEnd ns least) (uncounted_gone conn.0 LinkFailed ns least) none)
        made.advances.net made.fails (next_but (event.Accept conn) ns a.net net k.agrees.tells room next k.follows)

    agrees_then : IsTable (table_of b.hub) → Agrees (world r (ns ++ n ∷ [])) (ns ++ n ∷ []) b
    agrees_then table = subst (λ (z : World S). Agrees z (ns ++ n ∷ []) b) (sym more)
        (agrees_accepted r (world r ns) conn.0 ns after (server a.hub net a.told) b (agrees_now r f t ns a now is k net tells (next.told k.agrees.tells).traffic)
        made.advances app told taken.2 taken.1 is_new (few table) line_before untold_yet)

    given_same : (d : ℕ) → b.net.given d ≡ a.net.given d
    given_same d = (made.advances.net.told tells).given d ∙ (next.told k.agrees.tells).traffic.given d

    unheard : heard conn.0 (ns ++ n ∷ []) ≡ []
    unheard =
        heard-append conn.0 ns (n ∷ []) ∙ append-nil (heard conn.0 ns)
        ∙ subst (λ (z : Option Phase). HearsAt t f.max_message z (last_frame r ns conn.0) (heard conn.0 ns) (a.net.given conn.0) (is conn.0).reader) (ap (λ (z : Line). z.phase) line_before) (k.hears conn.0)

    -- a new intake of a connection of which no octets came
    seen_now : (intake : IntakeView) (here : Type 0) → intake.reader.raw ≡ [] → intake.reader.unread ≡ true → intake.reader.max ≡ f.max_message → intake.route ≡ 0 → intake.param ≡ []
        → Seen t f.max_message (heard conn.0 (ns ++ n ∷ [])) (b.net.given conn.0) intake (None ≢ Some conn.0) here (line_after r conn.0 n ((world r ns).line conn.0))
    seen_now intake here raw unread limit route param =
        let given : b.net.given conn.0 ≡ [] = (made.advances.net.told tells).given conn.0 ∙ none.given in
        subst (λ (z : List Heard). Seen t f.max_message z (b.net.given conn.0) intake (None ≢ Some conn.0) here (line_after r conn.0 n ((world r ns).line conn.0))) (sym unheard)
        (subst (λ (z : List ℕ). Seen t f.max_message [] z intake (None ≢ Some conn.0) here (line_after r conn.0 n ((world r ns).line conn.0))) (sym given)
        (subst (λ (z : Line). Seen t f.max_message [] [] intake (None ≢ Some conn.0) here z) (sym line_after_it) (record {
          hears = (refl, head_new f.max_message intake.reader raw unread limit);
          rests = λ free. refl;
          routed = λ h. (route, param);
        })))

    -- the connection is accepted, and has a new intake
    pub kept_arrived : (js : ℕ → IntakeView) → length a.net.passed < 2 ^ 64 - 1 → IsTable (table_of a.hub) → IsTable (table_of b.hub)
        → (js conn.0).reader.raw ≡ [] → (js conn.0).reader.unread ≡ true → (js conn.0).reader.max ≡ f.max_message → (js conn.0).route ≡ 0 → (js conn.0).param ≡ []
        → ((d : ℕ) → d ≢ conn.0 → js d ≡ is d) → Kept r f t (ns ++ n ∷ []) b now js None
    kept_arrived js room was table raw unread limit route param others =
        kept_plain r f t ns (n ∷ []) a b now is js None None k refl refl (subst (λ (z : World S). Agrees z (ns ++ n ∷ []) b) more (agrees_then table)) (follows_now room)
        (subst AreUnlike (sym (gather-append accepted_by ns (n ∷ []))) (unlike_more (gather accepted_by ns) conn.0 k.unlike away)) app.lines.config
        (λ d. same_or_not conn.0 d
        (λ e. subst (λ (z : ℕ). Seen t f.max_message (heard z (ns ++ n ∷ [])) (b.net.given z) (js z) (None ≢ Some z) (has_entry b.hub.entries z ≡ true) (line_after r z n ((world r ns).line z))) (sym e)
        (seen_now (js conn.0) (has_entry b.hub.entries conn.0 ≡ true) raw unread limit route param))
        (λ ne. seen_beside r f t ns (n ∷ []) a b now is js None None k d (λ z. absurd (none_reads d z)) (ap (λ (z : Bool). z && true) (other_beside d n (is_other conn.0 d (λ (z : conn.0 ≡ d). ne (sym z))))) (given_same d) (others d ne) (λ free. free)
        (λ there. entry_before d (n ∷ []) (server a.hub net a.told) b made.advances (other_accepted conn.0 d ne) was table there)))
