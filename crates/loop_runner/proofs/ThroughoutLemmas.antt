-- What was heard at the end of each turn, as turns end.
use Rattle.loop_runner.proofs.Below.{◌≡◌, ◌<◌, ◌^◌, ◌-◌, ℕ, List, [], ◌∷◌, ◌++◌, Option, Some, None, true, length, refl, sym, ◌∙◌, subst, append_assoc, NoteValue, AreNoted, is_rest, LivedThroughout, Right, Server, EndsTurn, finishes, IntakeView, backlog_at, lived_through_turn, Turned, ending, PassesTurn, Grows, Beginning, KeptAll, IsRight, IsLivedThroughout, EndsWithTurn, meaning_of}
use Rattle.ws_kinds.specs.NoteValue as note
use Rattle.loop_runner.specs.declared.turn.Turned.TheVariants as turned
use Rattle.loop_runner.proofs.AnswerLemmas.{grows_whole}
use Rattle.loop_runner.proofs.KeepLemmas.{earlier}
use Rattle.loop_runner.proofs.TurnLemmas.{none_rest}

-- ---- the notes end with a turn

noted_last : (t t' : Option (List NoteValue)) (ms : List NoteValue) (n : NoteValue) → AreNoted t (ms ++ n ∷ []) t' → (after : List NoteValue) → t' ≡ Some after → (front : List NoteValue) × (after ≡ front ++ n ∷ [])
noted_last (Some old) (Some new) ms n is after e =
    let same : after ≡ new = cc in
    (old ++ ms, same ∙ is ∙ sym (append_assoc old ms (n ∷ [])))
noted_last None (Some new) ms n is after e = absurd is
noted_last (Some old) None ms n is after e = absurd (let z : None ≡ Some after = e in cc)
noted_last None None ms n is after e = absurd (let z : None ≡ Some after = e in cc)

pub turn_last : (a b : Server) → EndsTurn a b → EndsWithTurn b.told
turn_last a b x =
    let front = x.proceeds.sending ++ finishes x.finished in
    noted_last a.told b.told front note.turn
    (subst (λ (z : List NoteValue). AreNoted a.told z b.told) (sym (append_assoc x.proceeds.sending (finishes x.finished) (note.turn ∷ []))) x.proceeds.advances.told)

-- ---- what was heard

no_place : (before rest : List NoteValue) (n : NoteValue) → [] ≡ before ++ n ∷ rest → ⊥
no_place [] rest n e = absurd cc
no_place (x ∷ before) rest n e = absurd cc

pub ending_rest : (end : Turned) → is_rest (ending end) ≡ true
ending_rest turned.Turn = refl
ending_rest turned.Stop = refl
ending_rest turned.Failed = refl

module _ {S : Type 0} (b : Beginning S) where
  pub lived_after : (end : Turned) (a d : Server) (now next : S) (views : ℕ → IntakeView) → Grows a d → PassesTurn end a.net d.net → EndsWithTurn d.told → length d.net.passed < 2 ^ 64 - 1
      → KeptAll b a now views None → IsRight b d next → IsLivedThroughout b a → IsLivedThroughout b d
  lived_after end a d now next views grows passed last few kept right lived ms told tells replies agree items =
      let r = meaning_of b replies in
      let x = earlier b a d grows replies ms told tells agree items in
      let u = passed.told x.tells in
      let e = last ms told in
      subst (λ (z : List NoteValue). LivedThroughout r b.table b.config.max_message z d.net.given) (sym x.all)
      (lived_through_turn r b.config b.table x.notes x.later e.0 a.net d.net u.0 (ending end) next (backlog_at d.hub)
      (kept.holds x.notes x.told x.tells replies x.agree x.few).kept.follows
      (subst (λ (z : List NoteValue). Right r b.config b.table z d.net next (backlog_at d.hub)) x.all (right.right ms told tells replies agree items))
      (grows.given x.tells) (none_rest u.0 u.1) (ending_rest end) (grows_whole (u.0 ++ ending end ∷ []) a.net.passed d.net.passed u.2 few) (sym x.all ∙ e.1)
      (lived x.notes x.told x.tells replies x.agree x.few))

  -- before anything was noted
  pub lived_first : (s : Server) → s.told ≡ Some [] → IsLivedThroughout b s
  lived_first s none notes told tells replies agree few before rest conn e there =
      let same : [] ≡ notes = let z : Some [] ≡ Some notes = sym none ∙ told in cc in
      absurd (no_place before rest note.turn (same ∙ e))
