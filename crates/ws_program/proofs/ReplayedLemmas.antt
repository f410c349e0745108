-- What comes of the acts of a schedule, where a run over its net is right and settled.
use Rattle.ws_program.proofs.Below.{◌≡◌, ◌≢◌, ℕ, List, [], ◌∷◌, Bool, true, false, cond, not, ◌&&◌, ◌||◌, ◌⊎◌, inl, inr, Some, length, take, nat_eq, nat_lt, refl, sym, ap, ◌∙◌, take-length, list_any, ConfigValue, Left, PeerEnd, LinkFailed, NoteValue, Act, Finish, sent, finish_of, finish_by, or_then, is_end, is_fault, LinkState, is_finish, has_arrived, is_ending, MemNetState, FollowsSchedule, net_state, link_at, not_there, RouteTable, is_gone_by, is_accepted, is_gone_by_in, phase, is_gone_phase, is_reading, Right, LivedThroughout, by_cases, clash, both_left, both_right, IsReplayed, is_end_of, is_fault_of, or_second, or_first, is_left, is_gone_in, Server, known_world, bus_server, gone-append, credit_of, is_write_failure, writes_fail}
use Rattle.ws_kinds.specs.NoteValue as note
use Rattle.link_trait.specs.declared.act.Act.TheVariants as act
use Rattle.mem_net.specs.declared.mem_link.Finish.TheVariants as finish
use Rattle.run_meaning.specs.Settled.{Settled}
use Rattle.made_life.proofs.Resting.{arrived, given_all, reading_not_gone, reads_accepted, reads_arrived, reads_idle, sent_all}

-- ---- a connection that is gone

gone_by : (d : ℕ) (l : Left) (n : NoteValue) → is_gone_by d l n ≡ true → is_gone_in d (n ∷ []) ≡ true
gone_by d l (note.gone c k) e = or_first (nat_eq c d) false (both_left (nat_eq c d) (is_left l k) e)
gone_by d l n e = clash false refl e

gone_by_in : (d : ℕ) (l : Left) (ns : List NoteValue) → is_gone_by_in d l ns ≡ true → is_gone_in d ns ≡ true
gone_by_in d l [] e = clash false refl e
gone_by_in d l (n ∷ ns) e = gone-append d (n ∷ []) ns ∙ by_cases (is_gone_by d l n)
    (λ here. or_first (is_gone_in d (n ∷ [])) (is_gone_in d ns) (gone_by d l n here))
    (λ later. or_second (is_gone_in d (n ∷ [])) (is_gone_in d ns) (gone_by_in d l ns (sym (ap (λ z. z || is_gone_by_in d l ns) later) ∙ e)))

-- ---- how a link finishes

ending_act : (d : ℕ) (a : Act) → is_ending d a ≡ true → finish_by d a ≡ finish.Later → ⊥
ending_act d (act.End c) e h = let z : cond (nat_eq c.0 d) finish.End finish.Later ≡ finish.Later = h in let y : nat_eq c.0 d ≡ true = e in clash_finish (nat_eq c.0 d) y z
  where
    clash_finish : (b : Bool) → b ≡ true → cond b finish.End finish.Later ≡ finish.Later → ⊥
    clash_finish true e h = let z : finish.End ≡ finish.Later = h in cc
    clash_finish false e h = clash false refl e
ending_act d (act.ReadFails c) e h = let z : cond (nat_eq c.0 d) finish.Failed finish.Later ≡ finish.Later = h in let y : nat_eq c.0 d ≡ true = e in clash_finish (nat_eq c.0 d) y z
  where
    clash_finish : (b : Bool) → b ≡ true → cond b finish.Failed finish.Later ≡ finish.Later → ⊥
    clash_finish true e h = let z : finish.Failed ≡ finish.Later = h in cc
    clash_finish false e h = clash false refl e
ending_act d a e h = clash false refl e

later_both : (a b : Finish) → or_then a b ≡ finish.Later → (a ≡ finish.Later) × (b ≡ finish.Later)
later_both finish.Later b e = (refl, e)
later_both finish.End b e = let z : finish.End ≡ finish.Later = e in absurd (let y : ⊥ = cc in y)
later_both finish.Failed b e = let z : finish.Failed ≡ finish.Later = e in absurd (let y : ⊥ = cc in y)

-- where nothing finishes the link, no act ends the octets
none_ends : (d : ℕ) (acts : List Act) → finish_of d acts ≡ finish.Later → list_any (is_ending d) acts ≡ false
none_ends d [] e = refl
none_ends d (a ∷ acts) e =
    let parts = later_both (finish_by d a) (finish_of d acts) e in
    by_cases (is_ending d a) (λ ends. absurd (ending_act d a ends parts.0)) (λ goes. ap (λ z. z || list_any (is_ending d) acts) goes ∙ none_ends d acts parts.1)

end_act : (d : ℕ) (a : Act) → finish_by d a ≡ finish.End → is_end_of d a ≡ true
end_act d (act.End c) e = one (nat_eq c.0 d) e
  where
    one : (b : Bool) → cond b finish.End finish.Later ≡ finish.End → b ≡ true
    one true e = refl
    one false e = absurd (let z : finish.Later ≡ finish.End = e in cc)
end_act d (act.ReadFails c) e = one (nat_eq c.0 d) e
  where
    one : (b : Bool) → cond b finish.Failed finish.Later ≡ finish.End → false ≡ true
    one true e = absurd (let z : finish.Failed ≡ finish.End = e in cc)
    one false e = absurd (let z : finish.Later ≡ finish.End = e in cc)
end_act d a e = absurd (let z : finish.Later ≡ finish.End = e in cc)

fault_act : (d : ℕ) (a : Act) → finish_by d a ≡ finish.Failed → is_fault_of d a ≡ true
fault_act d (act.ReadFails c) e = one (nat_eq c.0 d) e
  where
    one : (b : Bool) → cond b finish.Failed finish.Later ≡ finish.Failed → b ≡ true
    one true e = refl
    one false e = absurd (let z : finish.Later ≡ finish.Failed = e in cc)
fault_act d (act.End c) e = one (nat_eq c.0 d) e
  where
    one : (b : Bool) → cond b finish.End finish.Later ≡ finish.Failed → false ≡ true
    one true e = absurd (let z : finish.End ≡ finish.Failed = e in cc)
    one false e = absurd (let z : finish.Later ≡ finish.Failed = e in cc)
fault_act d (act.WriteFails c) e = absurd (let z : finish.Later ≡ finish.Failed = e in cc)
fault_act d a e = absurd (let z : finish.Later ≡ finish.Failed = e in cc)

first_end : (a b : Finish) (A : Type 0) → or_then a b ≡ finish.End → (a ≡ finish.End → A) → (b ≡ finish.End → A) → A
first_end finish.Later b A e here there = there e
first_end finish.End b A e here there = here refl
first_end finish.Failed b A e here there = absurd (let z : finish.Failed ≡ finish.End = e in cc)

first_fault : (a b : Finish) (A : Type 0) → or_then a b ≡ finish.Failed → (a ≡ finish.Failed → A) → (b ≡ finish.Failed → A) → A
first_fault finish.Later b A e here there = there e
first_fault finish.Failed b A e here there = here refl
first_fault finish.End b A e here there = absurd (let z : finish.End ≡ finish.Failed = e in cc)

some_end : (d : ℕ) (acts : List Act) → finish_of d acts ≡ finish.End → list_any (is_end_of d) acts ≡ true
some_end d [] e = absurd (let z : finish.Later ≡ finish.End = e in cc)
some_end d (a ∷ acts) e =
    first_end (finish_by d a) (finish_of d acts) (list_any (is_end_of d) (a ∷ acts) ≡ true) e
    (λ here. or_first (is_end_of d a) (list_any (is_end_of d) acts) (end_act d a here))
    (λ later. or_second (is_end_of d a) (list_any (is_end_of d) acts) (some_end d acts later))

some_fault : (d : ℕ) (acts : List Act) → finish_of d acts ≡ finish.Failed → list_any (is_fault_of d) acts ≡ true
some_fault d [] e = absurd (let z : finish.Later ≡ finish.Failed = e in cc)
some_fault d (a ∷ acts) e =
    first_fault (finish_by d a) (finish_of d acts) (list_any (is_fault_of d) (a ∷ acts) ≡ true) e
    (λ here. or_first (is_fault_of d a) (list_any (is_fault_of d) acts) (fault_act d a here))
    (λ later. or_second (is_fault_of d a) (list_any (is_fault_of d) acts) (some_fault d acts later))

failing_act : (d : ℕ) (a : Act) → is_write_failure d a ≡ true → is_fault_of d a ≡ true
failing_act d (act.WriteFails c) e = e
failing_act d (act.ReadFails c) e = clash false refl e
failing_act d a e = clash false refl e

some_failing : (d : ℕ) (acts : List Act) → writes_fail d acts ≡ true → list_any (is_fault_of d) acts ≡ true
some_failing d [] e = clash false refl e
some_failing d (a ∷ acts) e =
    by_cases (is_write_failure d a)
    (λ here. or_first (is_fault_of d a) (list_any (is_fault_of d) acts) (failing_act d a here))
    (λ away. or_second (is_fault_of d a) (list_any (is_fault_of d) acts) (some_failing d acts (ap (λ (z : Bool). z || writes_fail d acts) (sym away) ∙ e)))

is_end_is : (e : Finish) → is_end e ≡ true → e ≡ finish.End
is_end_is finish.Later e = clash false refl e
is_end_is finish.End e = refl
is_end_is finish.Failed e = clash false refl e

is_fault_is : (e : Finish) → is_fault e ≡ true → e ≡ finish.Failed
is_fault_is finish.Later e = clash false refl e
is_fault_is finish.End e = clash false refl e
is_fault_is finish.Failed e = refl

-- ---- what is ready

was_answered : (a : Bool) (answered : Bool) (e : Finish) → (a || (not answered && is_finish e)) ≡ false → (e ≡ finish.Later) ⊎ (answered ≡ true)
was_answered true answered e h = clash true h refl
was_answered false true e h = inr refl
was_answered false false finish.Later h = inl refl
was_answered false false finish.End h = clash true h refl
was_answered false false finish.Failed h = clash true h refl

module _ {S : Type 0} (s : Server S) (f : ConfigValue) (t : RouteTable) (ns : List NoteValue) (net : MemNetState) (held : ℕ → List ℕ) (now : S)
    (right : Right s f t ns (net_state net) now held) where
  gone_reads : (d : ℕ) (l : Left) → is_reading (phase s ns d) ≡ true → is_gone_by_in d l ns ≡ true → ⊥
  gone_reads d l reads gone = clash (is_gone_phase (phase s ns d)) (reading_not_gone (phase s ns d) reads) ((known_world s f ns right.sound).gone d ∙ gone_by_in d l ns gone)

  module _ (follows : FollowsSchedule net) (whole : net.whole ≡ true) (done : net.done ≡ length net.acts)
      (settled : Settled s ns (net_state net) (record { pending = 0; gathered = []; backlog = held })) where
    all_acts : take net.done net.acts ≡ net.acts
    all_acts = ap (λ k. take k net.acts) done ∙ take-length net.acts

    finish_all : (d : ℕ) → has_arrived net.acts d ≡ true → (link_at net d).finish ≡ finish_of d net.acts
    finish_all d there = (follows.fits d there).finish ∙ ap (λ zs. finish_of d zs) all_acts

    pub replay_given : (d : ℕ) → is_reading (phase s ns d) ≡ true → (net_state net).given d ≡ sent d net.acts
    replay_given d reads = given_all s ns net held follows settled d reads ∙ ap (sent d) all_acts

    -- a connection that is read was not told an end or a fault
    unanswered : (d : ℕ) → is_reading (phase s ns d) ≡ true → (link_at net d).answered ≡ true → ⊥
    unanswered d reads answered =
        let fits = follows.fits d (reads_arrived s ns net held follows settled d reads) in
        by_finish (link_at net d).finish refl (fits.answered answered).1
      where
        by_finish : (e : Finish) → (link_at net d).finish ≡ e → is_finish (link_at net d).finish ≡ true → ⊥
        by_finish finish.Later e h = clash (is_finish (link_at net d).finish) (ap is_finish e) h
        by_finish finish.End e h =
            let fits = follows.fits d (reads_arrived s ns net held follows settled d reads) in
            let ends : (net_state net).ended d ≡ true = fits.ended ∙ ap (λ z. z && is_end (link_at net d).finish) answered ∙ ap is_end e in
            gone_reads d PeerEnd reads (right.follows.ended d (reads_accepted s ns net held d reads) ∙ ends)
        by_finish finish.Failed e h =
            let fits = follows.fits d (reads_arrived s ns net held follows settled d reads) in
            let breaks : (net_state net).broken d ≡ true = fits.broken (ap (λ z. z && is_fault (link_at net d).finish) answered ∙ ap is_fault e) in
            gone_reads d LinkFailed reads (right.follows.broken d (reads_accepted s ns net held d reads) ∙ breaks)

    pub replay_unended : (d : ℕ) → is_reading (phase s ns d) ≡ true → list_any (is_ending d) net.acts ≡ false
    replay_unended d reads = by_answer (was_answered (nat_lt 0 (length (link_at net d).waiting)) (link_at net d).answered (link_at net d).finish (reads_idle s ns net held follows settled d reads))
      where
        by_answer : ((link_at net d).finish ≡ finish.Later) ⊎ ((link_at net d).answered ≡ true) → list_any (is_ending d) net.acts ≡ false
        by_answer (inl later) = none_ends d net.acts (sym (finish_all d (reads_arrived s ns net held follows settled d reads)) ∙ later)
        by_answer (inr answered) = absurd (unanswered d reads answered)

    pub replay_ended : (d : ℕ) → is_accepted d ns ≡ true → is_gone_by_in d PeerEnd ns ≡ true → (list_any (is_end_of d) net.acts ≡ true) × ((net_state net).given d ≡ sent d net.acts)
    replay_ended d accepted gone =
        let ends : (link_at net d).ended ≡ true = sym (right.follows.ended d accepted) ∙ gone in
        let there = arrived s ns net held follows settled d (λ link. link.ended) ends (λ none. ap (λ (link : LinkState). link.ended) (not_there d net none)) in
        let fits = follows.fits d there in
        let both : ((link_at net d).answered && is_end (link_at net d).finish) ≡ true = sym fits.ended ∙ ends in
        let answered = both_left (link_at net d).answered (is_end (link_at net d).finish) both in
        let finished = is_end_is (link_at net d).finish (both_right (link_at net d).answered (is_end (link_at net d).finish) both) in
        (some_end d net.acts (sym (finish_all d there) ∙ finished), sent_all s ns net held follows settled d there (fits.answered answered).0 ∙ ap (sent d) all_acts)

    pub replay_failed : (d : ℕ) → is_accepted d ns ≡ true → is_gone_by_in d LinkFailed ns ≡ true → list_any (is_fault_of d) net.acts ≡ true
    replay_failed d accepted gone =
        let breaks : (link_at net d).broken ≡ true = sym (right.follows.broken d accepted) ∙ gone in
        let there = arrived s ns net held follows settled d (λ link. link.broken) breaks (λ none. ap (λ (link : LinkState). link.broken) (not_there d net none)) in
        let fits = follows.fits d there in
        by_cases ((link_at net d).answered && is_fault (link_at net d).finish)
        (λ both. some_fault d net.acts (sym (finish_all d there) ∙ is_fault_is (link_at net d).finish (both_right (link_at net d).answered (is_fault (link_at net d).finish) both)))
        (λ away.
        let failing : (link_at net d).failing ≡ true = ap (λ (z : Bool). z || (link_at net d).failing) (sym away) ∙ fits.unbroken whole breaks in
        some_failing d net.acts (ap (writes_fail d) (sym all_acts) ∙ sym fits.takes.failing_is ∙ failing))

    -- a live link for which octets are held took all that the acts let it take
    pub replay_short : (d : ℕ) → is_accepted d ns ≡ true → is_gone_phase (phase s ns d) ≡ false → held d ≢ [] → credit_of d net.acts ≡ Some (length ((net_state net).taken d))
    replay_short d accepted stays some =
        let lives : (link_at net d).live ≡ true = settled.live d ∙ ap (λ z. z && not (is_gone_phase (phase s ns d))) accepted ∙ ap not stays in
        let there = arrived s ns net held follows settled d (λ link. link.live) lives (λ none. ap (λ (link : LinkState). link.live) (not_there d net none)) in
        ap (credit_of d) (sym all_acts) ∙ (follows.fits d there).takes.full lives (settled.waits d some)

pub replay_all : (admits : List ℕ → Bool) (f : ConfigValue) (t : RouteTable) (ns : List NoteValue) (net : MemNetState) (held replies : ℕ → List ℕ) → Right (bus_server admits replies) f t ns (net_state net) tt held
    → FollowsSchedule net → net.whole ≡ true → net.done ≡ length net.acts → Settled (bus_server admits replies) ns (net_state net) (record { pending = 0; gathered = []; backlog = held })
    → LivedThroughout (bus_server admits replies) t f.max_message ns (net_state net).given → IsReplayed admits f t net.acts ns (net_state net) held replies
replay_all admits f t ns net held replies right follows whole done settled throughout = record {
  right = right;
  settled = settled;
  throughout = throughout;
  given = replay_given (bus_server admits replies) f t ns net held tt right follows whole done settled;
  unended = replay_unended (bus_server admits replies) f t ns net held tt right follows whole done settled;
  ended = replay_ended (bus_server admits replies) f t ns net held tt right follows whole done settled;
  failed = replay_failed (bus_server admits replies) f t ns net held tt right follows whole done settled;
  short = replay_short (bus_server admits replies) f t ns net held tt right follows whole done settled;
}
