-- What a read of a net and the note of it add.
use Rattle.run_laws.proofs.Below.{◌≡◌, ◌≢◌, ◌+◌, ℕ, List, [], ◌∷◌, ◌++◌, Bool, true, false, ◌||◌, ◌&&◌, cond, length, take, refl, sym, ap, ◌∙◌, subst, append-nil, length-append, add-zero, or-true, or_false, length-take-le, flat_map, Left, PeerEnd, LinkFailed, NoteValue, NetState, Reads, ReadTold, SameTrafficBut, NetEvent, NetRead, is_left, gather, writes, taken, given, is_gone_by_in, is_accepted, total, Follows, Mark, marks_by, marks_of, NetAfter, FailsAfter, FollowsAt, itself, is_other}
use Rattle.ws_kinds.specs.NoteValue as note
use Rattle.link_trait.specs.declared.net.NetRead.TheVariants as read
use Rattle.run_laws.proofs.Adding.{Adds, same_or_not, but_adds, but_none, none_but}
use Rattle.run_laws.proofs.Calling.{after_adds, call_adds}

-- ---- what one note says of a connection

gone_other : (c d : ℕ) (l m : Left) → d ≢ c → is_gone_by_in d l (note.gone c m ∷ []) ≡ false
gone_other c d l m ne = ap (λ (z : Bool). (z && is_left l m) || false) (is_other c d (λ e. ne (sym e)))

gone_own : (c : ℕ) (l m : Left) → is_gone_by_in c l (note.gone c m ∷ []) ≡ is_left l m
gone_own c l m = ap (λ (z : Bool). (z && is_left l m) || false) (itself c) ∙ or_false (is_left l m)

given_other : (c d k : ℕ) → d ≢ c → given d (note.given c k ∷ []) ≡ 0
given_other c d k ne = ap (λ (z : Bool). total (cond z (k ∷ []) [] ++ [])) (is_other c d (λ e. ne (sym e)))

given_own : (c k : ℕ) → given c (note.given c k ∷ []) ≡ k
given_own c k = ap (λ (z : Bool). total (cond z (k ∷ []) [] ++ [])) (itself c) ∙ add-zero k

or_none : (a b c : Bool) → b ≡ (a || false) → c ≡ false → b ≡ (a || c)
or_none a b c e h = e ∙ ap (λ (z : Bool). a || z) (sym h)

or_some : (a b c : Bool) → b ≡ true → c ≡ true → b ≡ (a || c)
or_some a b c e h = e ∙ sym (or-true a) ∙ ap (λ (z : Bool). a || z) (sym h)

-- ---- another connection

other_adds : (c d : ℕ) (made : List NoteValue) (a b e : NetState) → SameTrafficBut c a b → d ≢ c → Adds d made b e → Adds d made a e
other_adds c d made a b e same ne x = record {
  ended = x.ended ∙ ap (λ (z : Bool). z || is_gone_by_in d PeerEnd made) (same.ended d ne);
  broken = x.broken ∙ ap (λ (z : Bool). z || is_gone_by_in d LinkFailed made) (same.broken d ne);
  given = x.given ∙ ap (λ (z : List ℕ). length z + given d made) (same.given d ne);
  taken = x.taken ∙ ap (λ (z : List ℕ). length z + taken d made) (same.taken d ne);
  wrote = x.wrote ∙ ap (λ (z : List (ℕ × ℕ)). z ++ writes d made) (same.wrote d ne);
}

module _ (c : ℕ) (space : List ℕ) (a b e : NetState) (tells : a.tells ≡ true) where
  -- ---- octets

  octets_own : (k : ℕ) → Reads c space (read.Octets k) a b → NetAfter (note.given c k ∷ []) b e → FailsAfter (note.given c k ∷ []) b e → Adds c (note.given c k ∷ []) a e
  octets_own k r after fails =
      let rd = r.told tells in
      let there = r.net.tells ∙ tells in
      let told = after.told there in
      record {
        ended = told.ended c ∙ rd.ended ∙ sym (or_false (a.ended c));
        broken = fails.broken there c ∙ ap (λ (z : Bool). z || false) rd.broken;
        given = ap length (told.given c ∙ rd.given) ∙ length-append (a.given c) (take k space)
            ∙ ap (λ (z : ℕ). length (a.given c) + z) (length-take-le k space r.within.1 ∙ sym (given_own c k));
        taken = told.taken c ∙ ap (λ (z : List ℕ). length z + 0) rd.taken;
        wrote = told.wrote c ∙ ap (λ (z : List (ℕ × ℕ)). z ++ []) rd.wrote;
      }

  octets_adds : (k : ℕ) → Reads c space (read.Octets k) a b → NetAfter (note.given c k ∷ []) b e → FailsAfter (note.given c k ∷ []) b e → (d : ℕ) → Adds d (note.given c k ∷ []) a e
  octets_adds k r after fails d = same_or_not c d
      (λ same. subst (λ (z : ℕ). Adds z (note.given c k ∷ []) a e) (sym same) (octets_own k r after fails))
      (λ ne. other_adds c d (note.given c k ∷ []) a b e (r.told tells).elsewhere ne
      (call_adds d (note.given c k ∷ []) b e (r.net.tells ∙ tells) (given_other c d k ne) refl after fails))

  -- ---- the end

  end_own : Reads c space read.End a b → NetAfter (note.gone c PeerEnd ∷ []) b e → FailsAfter (note.gone c PeerEnd ∷ []) b e → Adds c (note.gone c PeerEnd ∷ []) a e
  end_own r after fails =
      let rd = r.told tells in
      let there = r.net.tells ∙ tells in
      let told = after.told there in
      record {
        ended = or_some (a.ended c) (e.ended c) (is_gone_by_in c PeerEnd (note.gone c PeerEnd ∷ [])) (told.ended c ∙ rd.ended) (gone_own c PeerEnd PeerEnd);
        broken = fails.broken there c ∙ ap (λ (z : Bool). z || is_gone_by_in c LinkFailed (note.gone c PeerEnd ∷ [])) rd.broken;
        given = ap length (told.given c ∙ rd.given) ∙ sym (add-zero (length (a.given c)));
        taken = told.taken c ∙ ap (λ (z : List ℕ). length z + 0) rd.taken;
        wrote = told.wrote c ∙ ap (λ (z : List (ℕ × ℕ)). z ++ []) rd.wrote;
      }

  end_adds : Reads c space read.End a b → NetAfter (note.gone c PeerEnd ∷ []) b e → FailsAfter (note.gone c PeerEnd ∷ []) b e → (d : ℕ) → Adds d (note.gone c PeerEnd ∷ []) a e
  end_adds r after fails d = same_or_not c d
      (λ same. subst (λ (z : ℕ). Adds z (note.gone c PeerEnd ∷ []) a e) (sym same) (end_own r after fails))
      (λ ne. other_adds c d (note.gone c PeerEnd ∷ []) a b e (r.told tells).elsewhere ne
      (call_adds d (note.gone c PeerEnd ∷ []) b e (r.net.tells ∙ tells) refl (gone_other c d PeerEnd PeerEnd ne) after fails))

  -- ---- a fault, which the net told, so that the call has no failure of its own

  fault_own : Reads c space read.Failed a b → NetAfter (note.gone c LinkFailed ∷ []) b e → FailsAfter [] b e → Adds c (note.gone c LinkFailed ∷ []) a e
  fault_own r after fails =
      let rd = r.told tells in
      let there = r.net.tells ∙ tells in
      let told = after.told there in
      record {
        ended = or_none (a.ended c) (e.ended c) (is_gone_by_in c PeerEnd (note.gone c LinkFailed ∷ [])) (told.ended c ∙ rd.ended ∙ sym (or_false (a.ended c))) (gone_own c PeerEnd LinkFailed);
        broken = or_some (a.broken c) (e.broken c) (is_gone_by_in c LinkFailed (note.gone c LinkFailed ∷ [])) (fails.broken there c ∙ or_false (b.broken c) ∙ rd.broken) (gone_own c LinkFailed LinkFailed);
        given = ap length (told.given c ∙ rd.given) ∙ sym (add-zero (length (a.given c)));
        taken = told.taken c ∙ ap (λ (z : List ℕ). length z + 0) rd.taken;
        wrote = told.wrote c ∙ ap (λ (z : List (ℕ × ℕ)). z ++ []) rd.wrote;
      }

  fault_adds : Reads c space read.Failed a b → NetAfter (note.gone c LinkFailed ∷ []) b e → FailsAfter [] b e → (d : ℕ) → Adds d (note.gone c LinkFailed ∷ []) a e
  fault_adds r after fails d = same_or_not c d
      (λ same. subst (λ (z : ℕ). Adds z (note.gone c LinkFailed ∷ []) a e) (sym same) (fault_own r after fails))
      (λ ne. other_adds c d (note.gone c LinkFailed ∷ []) a b e (r.told tells).elsewhere ne
      (after_adds d (note.gone c LinkFailed ∷ []) b e (r.net.tells ∙ tells) refl (gone_other c d PeerEnd LinkFailed ne)
      (or_none (b.broken d) (e.broken d) (is_gone_by_in d LinkFailed (note.gone c LinkFailed ∷ [])) (fails.broken (r.net.tells ∙ tells) d) (gone_other c d LinkFailed LinkFailed ne)) after))

  -- ---- the read, and the call that notes it

  module _ (ns : List NoteValue) (f : Follows ns a) where
    one_note : (this : NoteValue) (result : NetRead) → marks_by this ≡ [] → ((d : ℕ) → is_accepted d (this ∷ []) ≡ false) → Reads c space result a b → NetAfter (this ∷ []) b e
        → ((d : ℕ) → Adds d (this ∷ []) a e) → Follows (ns ++ this ∷ []) e
    one_note this result unmarked none r after adds =
        none_but (ns ++ this ∷ []) e (but_adds ns (this ∷ []) [] [] [] a e (ap (λ (z : List Mark). z ++ []) unmarked) refl none
        ((after.told (r.net.tells ∙ tells)).passed ∙ (r.told tells).passed) adds (but_none ns a f))

    pub octets_read : (k : ℕ) → Reads c space (read.Octets k) a b → NetAfter (note.given c k ∷ []) b e → FailsAfter (note.given c k ∷ []) b e → Follows (ns ++ note.given c k ∷ []) e
    octets_read k r after fails = one_note (note.given c k) (read.Octets k) refl (λ d. refl) r after (octets_adds k r after fails)

    pub end_read : Reads c space read.End a b → NetAfter (note.gone c PeerEnd ∷ []) b e → FailsAfter (note.gone c PeerEnd ∷ []) b e → Follows (ns ++ note.gone c PeerEnd ∷ []) e
    end_read r after fails = one_note (note.gone c PeerEnd) read.End refl (λ d. refl) r after (end_adds r after fails)

    pub fault_read : Reads c space read.Failed a b → NetAfter (note.gone c LinkFailed ∷ []) b e → FailsAfter [] b e → Follows (ns ++ note.gone c LinkFailed ∷ []) e
    fault_read r after fails = one_note (note.gone c LinkFailed) read.Failed refl (λ d. refl) r after (fault_adds r after fails)

-- ---- the read alone

at_elsewhere : (c d : ℕ) (ns : List NoteValue) (a b : NetState) → SameTrafficBut c a b → d ≢ c → FollowsAt d ns a → FollowsAt d ns b
at_elsewhere c d ns a b same ne f = record {
  ended = f.ended ∙ sym (same.ended d ne);
  broken = f.broken ∙ sym (same.broken d ne);
  given = ap length (same.given d ne) ∙ f.given;
  taken = ap length (same.taken d ne) ∙ f.taken;
  wrote = same.wrote d ne ∙ f.wrote;
}

later_at : (c : ℕ) (space : List ℕ) (ns : List NoteValue) (a b : NetState) → ReadTold c space read.Later a b → FollowsAt c ns a → FollowsAt c ns b
later_at c space ns a b rd f = record {
  ended = f.ended ∙ sym rd.ended;
  broken = f.broken ∙ sym rd.broken;
  given = ap length rd.given ∙ f.given;
  taken = ap length rd.taken ∙ f.taken;
  wrote = rd.wrote ∙ f.wrote;
}

pub later_read : (c : ℕ) (space : List ℕ) (ns : List NoteValue) (a b : NetState) → a.tells ≡ true → Follows ns a → Reads c space read.Later a b → Follows ns b
later_read c space ns a b tells f r =
    let rd = r.told tells in
    none_but ns b (record {
      passed = append-nil (gather marks_by ns) ∙ f.passed ∙ sym (ap (λ (z : List NetEvent). flat_map marks_of z) rd.passed);
      lines = λ d there. same_or_not c d
          (λ same. subst (λ (z : ℕ). FollowsAt z ns b) (sym same) (later_at c space ns a b rd (subst (λ (z : ℕ). FollowsAt z ns a) same ((but_none ns a f).lines d there))))
          (λ ne. at_elsewhere c d ns a b rd.elsewhere ne ((but_none ns a f).lines d there));
    })
