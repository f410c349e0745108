-- What a connection was given once a run over a net in memory rests: all that was sent by the acts that were done.
use Rattle.std.proofs.Common.{◌≡◌, ℕ, Bool, true, false, not, ◌&&◌, ◌||◌, List, [], ◌∷◌, ◌++◌, length, take, Option, Some, None, nat_lt, refl, sym, ap, ◌∙◌, arith, append-nil}
use Rattle.std.proofs.lemmas.Bool.{or_left as or_first}
use Rattle.std.proofs.lemmas.Bool.Decides.{nat_tests}
use Rattle.ws_kinds.proofs.Facts.{by_cases, clash}
use Rattle.ws_kinds.specs.NoteValue.{NoteValue}
use Rattle.ws_kinds.specs.declared.note.Phase.{Phase}
use Rattle.ws_kinds.specs.declared.note.Phase.TheVariants.{Ending, Gone, Head, Leaving, Open}
use Rattle.mem_net.specs.Acts.{sent}
use Rattle.mem_net.specs.LinkState.{LinkState, is_finish, is_ready}
use Rattle.mem_net.specs.MemNet.{FollowsSchedule, MemNetState, link_at, net_state}
use Rattle.mem_net.specs.Schedule.{has_arrived}
use Rattle.mem_net.proofs.Acting.{not_there}
use Rattle.run_meaning.specs.Counts.{is_accepted}
use Rattle.run_meaning.specs.Lines.{is_gone_phase, phase}
use Rattle.run_meaning.specs.Server.{Server}
use Rattle.run_meaning.specs.Settled.{Settled, is_reading}
use Rattle.run_laws.proofs.WorldLemmas.{unaccepted_phase}

pub reading_not_gone : (p : Option Phase) → is_reading p ≡ true → is_gone_phase p ≡ false
reading_not_gone None e = refl
reading_not_gone (Some Head) e = refl
reading_not_gone (Some Open) e = refl
reading_not_gone (Some Leaving) e = refl
reading_not_gone (Some Ending) e = refl
reading_not_gone (Some Gone) e = clash false refl e

nothing_waits : (octets : List ℕ) (b : Bool) → (nat_lt 0 (length octets) || b) ≡ false → octets ≡ []
nothing_waits [] b e = refl
nothing_waits (x ∷ xs) b e = absurd (let z : nat_lt 0 (length (x ∷ xs)) ≡ true = grind (arith, nat_tests) in let y : (nat_lt 0 (length (x ∷ xs)) || b) ≡ true = or_first (nat_lt 0 (length (x ∷ xs))) b z in clash (nat_lt 0 (length (x ∷ xs)) || b) e y)

all_waiting : (given waiting octets : List ℕ) → given ++ waiting ≡ octets → waiting ≡ [] → given ≡ octets
all_waiting given waiting octets e none = sym (append-nil given) ∙ ap (λ (w : List ℕ). given ++ w) (sym none) ∙ e

module _ {S : Type 0} (s : Server S) (ns : List NoteValue) (net : MemNetState) (held : ℕ → List ℕ) where
  pub reads_accepted : (d : ℕ) → is_reading (phase s ns d) ≡ true → is_accepted d ns ≡ true
  reads_accepted d reads =
      by_cases (is_accepted d ns) (λ there. there) (λ away. clash (is_reading (phase s ns d)) (ap is_reading (unaccepted_phase s d ns away)) reads)

  module _ (follows : FollowsSchedule net) (settled : Settled s ns (net_state net) (record { pending = 0; gathered = []; backlog = held })) where
    -- a link of which something is known arrived
    pub arrived : (d : ℕ) (test : LinkState → Bool) → test (link_at net d) ≡ true → ((has_arrived net.acts d ≡ false) → test (link_at net d) ≡ false) → has_arrived net.acts d ≡ true
    arrived d test shown away = by_cases (has_arrived net.acts d) (λ there. there) (λ none. clash (test (link_at net d)) (away none) shown)

    pub sent_all : (d : ℕ) → has_arrived net.acts d ≡ true → (link_at net d).waiting ≡ [] → (link_at net d).given ≡ sent d (take net.done net.acts)
    sent_all d there none = all_waiting (link_at net d).given (link_at net d).waiting (sent d (take net.done net.acts)) (follows.fits d there).came none

    reads_live : (d : ℕ) → is_reading (phase s ns d) ≡ true → (link_at net d).live ≡ true
    reads_live d reads =
        settled.live d ∙ ap (λ z. z && not (is_gone_phase (phase s ns d))) (reads_accepted d reads) ∙ ap not (reading_not_gone (phase s ns d) reads)

    pub reads_arrived : (d : ℕ) → is_reading (phase s ns d) ≡ true → has_arrived net.acts d ≡ true
    reads_arrived d reads = arrived d (λ link. link.live) (reads_live d reads) (λ none. ap (λ (link : LinkState). link.live) (not_there d net none))

    pub reads_idle : (d : ℕ) → is_reading (phase s ns d) ≡ true → is_ready (link_at net d) ≡ false
    reads_idle d reads =
        by_cases (is_ready (link_at net d))
        (λ ready. clash (link_at net d).due (settled.asked d reads) (follows.told settled.rested d (reads_live d reads) ready))
        (λ idle. idle)

    reads_drained : (d : ℕ) → is_reading (phase s ns d) ≡ true → (link_at net d).waiting ≡ []
    reads_drained d reads = nothing_waits (link_at net d).waiting (not (link_at net d).answered && is_finish (link_at net d).finish) (reads_idle d reads)

    -- who is read was given all that was sent so far
    pub given_all : (d : ℕ) → is_reading (phase s ns d) ≡ true → (net_state net).given d ≡ sent d (take net.done net.acts)
    given_all d reads = sent_all d (reads_arrived d reads) (reads_drained d reads)
