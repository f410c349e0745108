-- What holds after a turn, by what held before it.
use Rattle.run_kept.proofs.Below.{◌≡◌, ◌<◌, ◌^◌, ◌-◌, ℕ, List, [], ◌∷◌, ◌++◌, Some, None, true, false, length, refl, sym, ◌∙◌, subst, list_any, ConfigValue, NoteValue, NetState, Nexts, SameLinks, Tells, is_rest, NetEvent, RouteTable, LeftAtEnd, Server, server, Settled, Ties, nothing, is_acceptance, RingsWait, due_at, Appends, clash, outgoing_unaccepted, unaccepted_then, IsTable, table_of, EndsTurn, finishes, IntakeView, Kept, AreThere, backlog_at, AreRead, AreTold}
use Rattle.ws_kinds.specs.NoteValue as note
use Rattle.link_trait.specs.declared.net.NetEvent.TheVariants as event
use Rattle.run_meaning.specs.Server as run
use Rattle.run_meaning.specs.Settled as meant
use Rattle.run_kept.proofs.TurningLemmas.{kept_turned}
use Rattle.run_kept.proofs.EndLemmas.{left_at_end, there_same, there_after}
use Rattle.run_kept.proofs.ReadLemmas.{read_same, read_call}
use Rattle.run_kept.proofs.RightLemmas.{kept_settled_there}

-- the end of a turn changes no link
pub rest_links : (answer : NetEvent) (a b : NetState) → is_rest answer ≡ true → Tells answer a b → SameLinks a b
rest_links event.Turn a b e x = x
rest_links event.Stop a b e x = x
rest_links event.Failed a b e x = x
rest_links event.Tick a b e x = clash false refl e
rest_links (event.Accept conn) a b e x = clash false refl e
rest_links (event.Readable conn) a b e x = clash false refl e
rest_links (event.Writable conn) a b e x = clash false refl e

last_unaccepted : (cs : List ℕ) → list_any is_acceptance (finishes cs ++ note.turn ∷ []) ≡ false
last_unaccepted [] = refl
last_unaccepted (c ∷ cs) = last_unaccepted cs

module _ (answer : NetEvent) (a b : Server) (net : NetState) (rest : is_rest answer ≡ true) (next : Nexts answer a.net net) (ends : EndsTurn (server a.hub net a.told) b) where
  links : SameLinks a.net net
  links = rest_links answer a.net net rest next.event

  pub turn_read : AreRead None a → AreRead None b
  turn_read read =
      let last = finishes ends.finished ++ note.turn ∷ [] in
      read_call (ends.proceeds.sending ++ last) (server a.hub net a.told) b None ends.proceeds.advances
      (unaccepted_then ends.proceeds.sending last (outgoing_unaccepted ends.proceeds.sending ends.proceeds.outgoing) (last_unaccepted ends.finished)) (read_same a net None links.due read)

  pub turn_there : AreThere a → AreThere b
  turn_there there = there_after (ends.proceeds.sending ++ (finishes ends.finished ++ note.turn ∷ [])) (server a.hub net a.told) b ends.proceeds.advances (there_same a net links.live there)

  pub turn_waits : Appends nothing (server a.hub net a.told) b → RingsWait a → RingsWait b
  turn_waits app waits = app.waits (λ c there holds. links.writable c ∙ waits c there holds)

  -- the net rested, as the hub's call left it
  turn_rests : a.net.tells ≡ true → b.net.rested ≡ true
  turn_rests tells = (ends.proceeds.advances.net.told (next.net.tells ∙ tells)).rested ∙ (next.told tells).rested ∙ rest

  module _ {S : Type 0} (r : run.Server S) (f : ConfigValue) (t : RouteTable) (ns after : List NoteValue) (now : S) (is : ℕ → IntakeView) (k : Kept r f t ns a now is None) (few : length a.net.passed < 2 ^ 64 - 1)
      (app : Appends nothing (server a.hub net a.told) b) (told : b.told ≡ Some after) (was : IsTable (table_of a.hub)) (table : IsTable (table_of b.hub)) (settled : Settled b.hub) (ties : Ties b) (waits : RingsWait a)
      (read : AreRead None a) (there : AreThere a) (none : (c : ℕ) → due_at a.hub c ≡ None)
      (now_told : (before made : List NoteValue) → after ≡ before ++ made → meant.IsTurn before made → AreTold r before made) where
    kept : (after ≡ ns ++ (ends.proceeds.sending ++ (finishes ends.finished ++ note.turn ∷ []))) × Kept r f t after b now is None
    kept = kept_turned r f t ns a now is k answer net b after ends rest few next app told was table

    left : (c : ℕ) (cause : ℕ × List ℕ) → due_at b.hub c ≡ Some cause → LeftAtEnd r c after
    left c cause due = subst (λ (z : List NoteValue). LeftAtEnd r c z) (sym kept.0) (left_at_end r ns a b net ends k.agrees none c cause due)

    pub turn_settled_there : meant.Settled r after b.net (record { pending = 0; gathered = []; backlog = backlog_at b.hub })
    turn_settled_there = kept_settled_there r f t after b now is kept.1 settled (turn_rests k.agrees.tells) (turn_waits app waits) (turn_read read) ends.ending left ties (turn_there there) now_told
