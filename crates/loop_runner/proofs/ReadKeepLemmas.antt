-- What is kept where a connection is read.
use Rattle.loop_runner.proofs.Below.{◌≡◌, ◌≤◌, ℕ, zero, suc, List, [], ◌∷◌, ◌++◌, take, Option, Some, None, true, false, length, refl, sym, ap, ◌∙◌, subst, arith, list_all, Phase, Head, Open, Leaving, Ending, Gone, PeerEnd, LinkFailed, NoteValue, NetState, Reads, NetRead, RouteTable, phase, world, is_reading, HubState, Server, server, phase_at, due_at, Advances, IsTable, table_of, GivesOctets, Notes, LosesLink, ReaderView, IsFed, agrees_phase, IntakeView, RestsAt, Kept, is_inner, sound_call, sound_octets, shows_sound, later_kept, given_kept, ended_kept, failed_kept, Beginning, Holds, KeptAll, meaning_of, view_by, with_view, KeepsOne, is_opened_in, reading_shown, list_any, is_turn, is_telling, is_uncounted, is_ticking}
use Rattle.ws_kinds.specs.NoteValue as note
use Rattle.link_trait.specs.declared.net.NetRead.TheVariants as read
use Rattle.loop_runner.proofs.FrameKeeps.{kept_over}
use Rattle.loop_runner.proofs.GrowLemmas.{grows_then, grows_advances, grows_read}
use Rattle.loop_runner.proofs.OpenLemmas.{opens_same}
use Rattle.loop_runner.proofs.KeepLemmas.{counts_beside, counts_first, keep_on, keep_notes, keep_there, keep_views}
use Rattle.loop_runner.proofs.ViewLemmas.{same_but, view_fed, with_same}

-- ---- octets that came are a front of the space

pub count_of : (count : ℕ) (space rest : List ℕ) → count ≤ length space → count ≡ length (take count (space ++ rest))
count_of zero space rest le = refl
count_of (suc count) [] rest le = absurd (omega arith)
count_of (suc count) (x ∷ space) rest le = ap suc (count_of count space rest (omega arith))

front_is : (count : ℕ) (space rest : List ℕ) → count ≤ length space → take count space ≡ take count (space ++ rest)
front_is zero space rest le = refl
front_is (suc count) [] rest le = absurd (omega arith)
front_is (suc count) (x ∷ space) rest le = ap (λ xs. x ∷ xs) (front_is count space rest (omega arith))

pub front_of : (count : ℕ) (space rest : List ℕ) → count ≤ length space → take (length (take count (space ++ rest))) space ≡ take count (space ++ rest)
front_of count space rest le = ap (λ (z : ℕ). take z space) (sym (count_of count space rest le)) ∙ front_is count space rest le

-- ---- who is not read

rests_away : (table : RouteTable) (p : Option Phase) (octets : List ℕ) (reader : ReaderView) → is_reading p ≡ false → RestsAt table p octets reader
rests_away table None octets reader e = tt {0}
rests_away table (Some Head) octets reader e = absurd (let z : true ≡ false = e in cc)
rests_away table (Some Open) octets reader e = absurd (let z : true ≡ false = e in cc)
rests_away table (Some Leaving) octets reader e = absurd (let z : true ≡ false = e in cc)
rests_away table (Some Ending) octets reader e = tt {0}
rests_away table (Some Gone) octets reader e = tt {0}

module _ {S : Type 0} (b : Beginning S) (conn : ℕ) where
  -- of a connection that is not read no more can be told
  pub keep_away : (s : Server) (now : S) (views : ℕ → IntakeView) → is_reading (phase_at s.hub conn) ≡ false → KeptAll b s now views (Some conn) → KeptAll b s now views None
  keep_away s now views away = keep_there b s now views views (Some conn) None (λ replies ns h.
      let r = meaning_of b replies in
      let gone : is_reading (phase r ns conn) ≡ false =
      sym (reading_shown (phase r ns conn)) ∙ sym (ap (λ (z : Option Phase). is_reading z) (agrees_phase (world r ns) ns s h.kept.agrees conn)) ∙ reading_shown (phase_at s.hub conn) ∙ away in
      record { kept = kept_over conn h.kept (rests_away b.table (phase r ns conn) (s.net.given conn) (views conn).reader gone); sound = h.sound; whole = h.whole; told = h.told; ticked = h.ticked })

  module _ (space : List ℕ) (h : HubState) (net late : NetState) (t : Option (List NoteValue)) (now : S) where
    abbrev was : Server
    was = server h net t

    abbrev between : Server
    between = server h late t

    -- nothing came
    pub keep_later : (view : IntakeView) → Reads conn space read.Later net late → KeepsOne b conn None None view view was now between now
    keep_later view rd = record {
      kept = λ views is old. keep_views b between now views (with_view conn view views) None (with_same conn view views is)
          (keep_on b was between now now views views None None (grows_read conn space read.Later h net late t rd) (opens_same was between refl)
          (λ replies ns ms known tells told agree few x.
          let same : ns ≡ ms = let z : Some ns ≡ Some ms = sym known ∙ told in cc in
          subst (λ (z : List NoteValue). Holds b replies z between now views None) same (record {
            kept = later_kept (meaning_of b replies) b.config b.table ns conn space was late now views x.kept rd;
            sound = x.sound;
            whole = x.whole;
            told = x.told;
            ticked = x.ticked;
          })) old);
    }

    -- the notes of a call of the hub after a read
    keep_call : (result : NetRead) (made : List NoteValue) (d : Server) (views later : ℕ → IntakeView) (to : Option ℕ) → Reads conn space result net late → Advances made between d → list_all is_inner made ≡ true → ((c : ℕ) → is_opened_in c made ≡ false) → IsTable (table_of d.hub)
        → list_any is_turn made ≡ false → list_any is_telling made ≡ false → list_all is_uncounted made ≡ true → list_any is_ticking made ≡ false
        → ((replies : ℕ → List ℕ) (ns ms : List NoteValue) → d.told ≡ Some ms → Holds b replies ns was now views None → Kept (meaning_of b replies) b.config b.table (ns ++ made) d now later to)
        → KeptAll b was now views None → KeptAll b d now later to
    keep_call result made d views later to rd adv inner none whole turnless silent rest still step =
        keep_notes b made was d now now views later None to (grows_then was between d (grows_read conn space result h net late t rd) (grows_advances made between d adv)) adv.told none whole turnless silent adv.tells (counts_beside made was d rest still adv.counts)
        (λ replies ns ms tells told x. let r = meaning_of b replies in (
          step replies ns ms told x,
          (sound_call r b.config made ns between d (shows_sound r b.config ns was x.sound x.kept.agrees) adv inner x.sound).0,
        ))

    pub keep_gone : (view : IntakeView) (d : Server) → is_reading (phase_at h conn) ≡ true → Reads conn space read.End net late → Notes conn (note.gone conn PeerEnd ∷ []) between d → KeepsOne b conn None None view view was now d now
    keep_gone view d reads rd x = record {
      kept = λ views is old. keep_views b d now views (with_view conn view views) None (with_same conn view views is)
          (keep_call read.End (note.gone conn PeerEnd ∷ []) d views views None rd x.makes.advances refl (λ c. refl) x.table refl refl refl refl
          (λ replies ns ms told k. ended_kept (meaning_of b replies) b.config b.table ns ms conn space was d late now views k.kept rd k.whole x.table reads x.makes x.appends told) old);
    }

    pub keep_lost : (view : IntakeView) (d : Server) → is_reading (phase_at h conn) ≡ true → Reads conn space read.Failed net late → LosesLink conn between d → KeepsOne b conn None None view view was now d now
    keep_lost view d reads rd x = record {
      kept = λ views is old. keep_views b d now views (with_view conn view views) None (with_same conn view views is)
          (keep_call read.Failed (note.gone conn LinkFailed ∷ []) d views views None rd x.advances refl (λ c. refl) x.table refl refl refl refl
          (λ replies ns ms told k. failed_kept (meaning_of b replies) b.config b.table ns ms conn space was d late now views k.kept rd k.whole x.table reads x.advances x.fails x.appends told) old);
    }

    -- octets came, while no Closed event was due, and were fed to the reader of an intake
    pub keep_fed : (came : List ℕ) (route : ℕ) (param : List ℕ) (before after : ReaderView) (d : Server) → ((c : ℕ) → due_at h c ≡ None) → take (length came) space ≡ came → Reads conn space (read.Octets (length came)) net late
        → 1 ≤ length came → is_reading (phase_at h conn) ≡ true → GivesOctets conn (length came) between d → IsFed came before after
        → KeepsOne b conn None (Some conn) (view_by before route param) (view_by after route param) was now d now
    keep_fed came route param before after d none front rd some reads x fed = record {
      kept = λ views is.
          let later = with_view conn (view_by after route param) views in
          keep_notes b (note.given conn (length came) ∷ []) was d now now views later None (Some conn)
          (grows_then was between d (grows_read conn space (read.Octets (length came)) h net late t rd) (grows_advances (note.given conn (length came) ∷ []) between d x.makes.advances)) x.makes.advances.told (λ c. refl) x.table refl refl x.makes.advances.tells
          (counts_first (note.given conn (length came)) was d refl refl x.counts)
          (λ replies ns ms tells told k. let r = meaning_of b replies in (
            given_kept r b.config b.table ns ms conn (length came) space was d late now views later k.kept rd k.whole x.table reads x.makes x.appends told
                (same_but conn route param before after views is)
                (subst (λ (z : List ℕ). IsFed z (views conn).reader (later conn).reader) (sym front) (view_fed conn route param before after views is came fed)),
            sound_octets r b.config ns conn (length came) was k.kept.agrees none reads some k.sound,
          ));
    }
