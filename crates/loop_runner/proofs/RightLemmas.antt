-- What is kept holds at first, and after a turn it is what the relation of a run asks for.
use Rattle.loop_runner.proofs.Below.{◌≡◌, ◌<◌, ◌-◌, ◌^◌, ℕ, List, [], length, Option, Some, None, true, false, refl, sym, ◌∙◌, subst, NoteValue, NetState, Nexts, is_rest, NetEvent, AreAdmitted, texts_exist, told_first, clash, HubState, Server, server, Ties, Settled, nothing, Appends, RingsWait, due_at, EndsTurn, IsTable, table_of, IntakeView, AreThere, sound_none, kept_right_there, rest_links, turn_settled_there, kept_first, IsAsked, Beginning, Holds, KeptAll, IsRight, meaning_of, IsSettledIfTold, ConfigValue, Timely, ticked_first}
use Rattle.loop_runner.proofs.GrowLemmas.{grows_ended, grows_next, grows_then}
use Rattle.loop_runner.proofs.KeepLemmas.{earlier, few_of, same_notes}

module _ {S : Type 0} (b : Beginning S) where
  pub right_after : (s : Server) (now : S) (views : ℕ → IntakeView) → KeptAll b s now views None → Settled s.hub → IsRight b s now
  right_after s now views kept settled = record {
    texts = λ notes told tells few. texts_exist b.table notes s.net.given (kept.admitted notes told tells few);
    right = λ notes told tells replies agree few.
        let holds = kept.holds notes told tells replies agree few in
        kept_right_there (meaning_of b replies) b.config b.table notes s now views holds.kept settled (few_of (meaning_of b replies) notes few) holds.sound holds.told.right
        (subst (λ (z : ConfigValue). Timely (meaning_of b replies) z notes) holds.kept.configured holds.ticked.timely);
  }

  -- before anything was noted
  pub kept_at_first : (s : Server) (now : S) (views : ℕ → IntakeView) → s.hub.entries ≡ [] → s.hub.pairs ≡ [] → s.hub.partings ≡ [] → s.hub.tellings ≡ [] → s.hub.config ≡ b.config → IsTable (table_of s.hub) → s.told ≡ Some [] → s.net.passed ≡ []
      → now ≡ b.start → KeptAll b s now views None
  kept_at_first s now views entries pairs partings tellings configured whole none passed begun = record {
    admitted = λ notes told tells few.
        subst (λ (z : List NoteValue). AreAdmitted b.table z s.net.given) (same_notes [] notes (sym none ∙ told)) (λ c opened. clash false refl opened);
    holds = λ notes told tells replies agree few. subst (λ (z : List NoteValue). Holds b replies z s now views None) (same_notes [] notes (sym none ∙ told))
        (record {
          kept = kept_first (meaning_of b replies) b.config b.table s now views entries pairs partings tells none passed begun configured;
          sound = sound_none (meaning_of b replies) b.config;
          whole = whole;
          told = told_first (meaning_of b replies) s.hub tellings;
          ticked = ticked_first (meaning_of b replies) s.hub entries;
        });
  }

  -- the end of a turn settles all, where no Closed event was due as it began
  pub settled_ended : (h : HubState) (before net : NetState) (t : Option (List NoteValue)) (now : S) (views : ℕ → IntakeView) (answer : NetEvent) (d : Server)
      → is_rest answer ≡ true → Nexts answer before net → length before.passed < 2 ^ 64 - 1 → EndsTurn (server h net t) d → Appends nothing (server h net t) d → IsTable (table_of d.hub) → Settled d.hub → Ties d
      → RingsWait (server h net t) → ((c : ℕ) → IsAsked c (server h net t)) → ((c : ℕ) → due_at h c ≡ None)
      → KeptAll b (server h before t) now views None → AreThere (server h before t) → IsSettledIfTold b d
  settled_ended h before net t now views answer d rest next few ends app whole settled ties waits asked none kept there notes told tells replies agree items told_now =
      let a : Server = server h before t in
      let x = earlier b a d (grows_then a (server h net t) d (grows_next answer h before net t next) (grows_ended (server h net t) d ends)) replies notes told tells agree items in
      let holds = kept.holds x.notes x.told x.tells replies x.agree x.few in
      let links = rest_links answer before net rest next.event in
      turn_settled_there answer a d net rest next ends (meaning_of b replies) b.config b.table x.notes notes now views holds.kept few app told holds.whole whole settled ties
      (λ c here some. sym (links.writable c) ∙ waits c here some)
      (λ c other reads. sym (links.due c) ∙ asked c reads)
      there none told_now

  -- where the net does not tell, nothing is said
  pub settled_told : (before : NetState) (s : Server) → s.net.tells ≡ before.tells → (before.tells ≡ true → IsSettledIfTold b s) → IsSettledIfTold b s
  settled_told before s same told = λ notes is tells. told (sym same ∙ tells) notes is tells
