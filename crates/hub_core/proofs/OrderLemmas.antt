-- Orders that are served or refused.
use Rattle.hub_core.proofs.Below.{◌≡◌, ℕ, List, [], ◌∷◌, ◌++◌, Option, Some, None, Bool, true, false, cond, nat_eq, refl, sym, ap, ◌∙◌, subst, Kind, Phase, Head, Open, Leaving, Ending, Gone, Why, ConfigValue, NoteValue, IsNoted, unless_gone, why_send, HubState, Server, server, phase_at, has_entry, entry_at, nothing, standings_at, Serves, does_notes, TopicsEnd, none_of, OrderValue, publish, NetState, is_open, why_at, why_publish, needs_memory, by_note, MayRefuse, for_reason, refuses, entry_of, Ties, published, served_by, obeys_same, Publishes, IsTable, TableState, table_of, IsHub, hub_of, NotesUnserved, ServesOrder, TellingsState}
use Rattle.ws_kinds.specs.NoteValue as note
use Rattle.hub_core.proofs.NoteLemmas.{Notices, notices_none}
use Rattle.hub_core.proofs.CallLemmas.{notes_unserved}

-- ---- the reason

shown : (g : ConfigValue) (kind : Kind) (body : List ℕ) (phase : Phase) → why_send g (Some phase) kind body ≡ why_send g (unless_gone (Some phase)) kind body
shown g kind body Head = refl
shown g kind body Open = refl
shown g kind body Leaving = refl
shown g kind body Ending = refl
shown g kind body Gone = refl

-- who is no entry is as one that is gone
pub why_shown : (g : ConfigValue) (hub : HubState) (to : ℕ) (kind : Kind) (body : List ℕ) → why_send g (phase_at hub to) kind body ≡ why_send g (standings_at hub to).phase kind body
why_shown g hub to kind body = one (has_entry hub.entries to) refl
  where
    one : (has : Bool) → has_entry hub.entries to ≡ has → why_send g (cond has (Some (entry_at hub to).phase) None) kind body ≡ why_send g (unless_gone (Some (entry_at hub to).phase)) kind body
    one true e = shown g kind body (entry_at hub to).phase
    one false e = ap (λ z. why_send g (unless_gone (Some z.phase)) kind body) (sym (none_of hub.entries to e))

-- ---- one order

either_way : (b : Bool) → nothing 0 ≡ cond b (nothing 0) (nothing 0) ++ []
either_way true = refl
either_way false = refl

-- an order that is not served is noted, and nothing else happens
pub unserved_noted : (from number : ℕ) (why : Why) (hub : HubState) (net : NetState) (t t' : Option (List NoteValue)) → IsNoted t (note.unserved from number why) t' → Ties (server hub net t)
    → NotesUnserved from number why (server hub net t) (server hub net t')
unserved_noted from number why hub net t t' told ties =
    let x : Notices from (note.unserved from number why) (server hub net t) (server hub net t') = notices_none from (note.unserved from number why) hub net t t' told refl (λ d. refl) (notes_unserved hub from number why) in
    record {
      hub = refl;
      ties = ties;
      does = λ texts. does_notes texts (note.unserved from number why ∷ []) nothing (server hub net t) (server hub net t') x.advances x.fails x.appends (λ c. either_way (nat_eq from c));
    }

module _ (admits : List ℕ → Bool) (from number : ℕ) (order : OrderValue) (why : Why) {old mid new : Server} (same : mid ≡ old) (x : NotesUnserved from number why mid new) (table : IsTable (table_of mid.hub)) where
  pub refused_by : MayRefuse (why_at old.hub.config admits from (standings_at old.hub) order) (needs_memory from (standings_at old.hub) order) why → ServesOrder admits from number order old new
  refused_by may = record {
    ties = x.ties;
    serves = subst (λ (z : Server). MayRefuse (why_at z.hub.config admits from (standings_at z.hub) order) (needs_memory from (standings_at z.hub) order) why → Serves z.hub.config admits from number order z new) same
        (λ may. record { steps = by_note (note.unserved from number why) ∷ []; answers = refuses why may refl; does = x.does }) may;
    named = ap (λ (z : HubState). z.named) x.hub ∙ ap (λ (z : Server). z.hub.named) same;
    table = subst (λ (z : HubState). IsTable (table_of z)) (sym x.hub) table;
  }

  -- for the first reason against it
  pub order_refused : why_at old.hub.config admits from (standings_at old.hub) order ≡ Some why → ServesOrder admits from number order old new
  order_refused reason = refused_by (for_reason reason)

-- only an open connection has topics
shown_open : (phase : Phase) → is_open (unless_gone (Some phase)) ≡ is_open (Some phase)
shown_open Head = refl
shown_open Open = refl
shown_open Leaving = refl
shown_open Ending = refl
shown_open Gone = refl

pub open_alone : (a : TableState) (p : List (ℕ × List ℕ)) (r : TellingsState) (net : NetState) (t : Option (List NoteValue)) → IsHub a p r → TopicsEnd (server (hub_of a p r) net t)
open_alone a p r net t whole c off = whole.topics c (sym (shown_open (entry_of a.entries c).phase) ∙ off)

-- a message that is published
pub order_published : (admits : List ℕ → Bool) (from number : ℕ) (topic : List ℕ) (kind : Kind) (body : List ℕ) (a b : Server) → why_publish a.hub.config topic kind body ≡ None → TopicsEnd a → Publishes (Some from) topic kind body a b → ServesOrder admits from number (publish topic kind body) a b
order_published admits from number topic kind body a b none ends x = record {
  ties = x.ties;
  serves = served_by a.hub.config admits from number a b (publish topic kind body) (published a.hub.pairs (Some from) topic kind body) a none ends (obeys_same from (publish topic kind body) a (λ c p. refl)) x.proceeds x.appends (λ c. refl);
  named = x.named;
  table = x.table;
}
