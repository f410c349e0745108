use Rattle.hub_core.proofs.All.{◌≡◌, ◌<◌, ◌++◌, ◌∷◌, [], ℕ, length, rules, refl, sym, subst, accepted, busy, no_room, HubState, server, new_entry, Ties, nothing, Appends, CountsBy, TableState, hub_of, Taken, Arrives, plain_next, arrives_taken, appends_accepted, ties_accepted, counts_accepted, makes_none, appends_quiet, of_other, hub_accepted}
use Rattle.hub_notes.specs.declared.arrival.Arrival.TheVariants.{Memory}
use Rattle.hub_core.proofs.hub.Hub.accept.Goals as goal

pub returns-then-is_full-clause-appends : goal.returns-then-is_full-clause-appends
returns-then-is_full-clause-appends g c = appends_quiet c.args.self.now (g.N.Net.state c.args.out.now.net) (g.W.Watch.told c.args.out.now.watch) (g.W.Watch.told c.note.new.self) (busy c.args.conn.0) c.note.ensures (λ d. refl)

abbrev with_accepted_table : TableState → ℕ → TableState
with_accepted_table a c = record a { named = c; entries = a.entries ++ new_entry a.config c ∷ [] }

pub returns-then-is_err-clause-appends : goal.returns-then-is_err-clause-appends
returns-then-is_err-clause-appends g c =
    let same : c.accept.new.self ≡ c.self.inside.table = search rules in
    rw (← c.self.view_is) (subst (λ (z : TableState). Appends nothing (server (hub_of c.self.inside.table c.self.inside.topics c.self.inside.tellings) (g.N.Net.state c.args.out.now.net) (g.W.Watch.told c.args.out.now.watch)) (server (hub_of z c.self.inside.topics c.self.inside.tellings) (g.N.Net.state c.args.out.now.net) (g.W.Watch.told c.note-then-is_err.new.self))) (sym same)
    (appends_quiet (hub_of c.self.inside.table c.self.inside.topics c.self.inside.tellings) (g.N.Net.state c.args.out.now.net) (g.W.Watch.told c.args.out.now.watch) (g.W.Watch.told c.note-then-is_err.new.self) (no_room c.args.conn.0) c.note-then-is_err.ensures (λ d. refl)))

pub returns-clause-ties : goal.returns-clause-ties
returns-clause-ties g c =
    let above : c.self.inside.table.named < c.args.conn.0 = subst (λ (z : HubState). z.named < c.args.conn.0) (sym c.self.view_is) c.requires.new in
    let same : c.accept.new.self ≡ with_accepted_table c.self.inside.table c.args.conn.0 = search rules in
    let ties : Ties (server (hub_of c.self.inside.table c.self.inside.topics c.self.inside.tellings) (g.N.Net.state c.args.out.now.net) (g.W.Watch.told c.args.out.now.watch)) = subst (λ (z : HubState). Ties (server z (g.N.Net.state c.args.out.now.net) (g.W.Watch.told c.args.out.now.watch))) (sym c.self.view_is) c.requires.ties in
    subst (λ (z : TableState). Ties (server (hub_of z c.self.inside.topics c.self.inside.tellings) (g.N.Net.state c.args.out.now.net) (g.W.Watch.told c.note-2.new.self))) (sym same)
    (ties_accepted (plain_next c.self.inside.table c.self.inside.topics c.self.inside.tellings c.args.conn.0 c.self.invariant above) (g.N.Net.state c.args.out.now.net) (g.W.Watch.told c.args.out.now.watch) (g.W.Watch.told c.note-2.new.self) c.requires.live ties)

pub returns-clause-answer : goal.returns-clause-answer
returns-clause-answer g c =
    let above : c.self.inside.table.named < c.args.conn.0 = subst (λ (z : HubState). z.named < c.args.conn.0) (sym c.self.view_is) c.requires.new in
    let same : c.accept.new.self ≡ with_accepted_table c.self.inside.table c.args.conn.0 = search rules in
    rw (← c.self.view_is) (subst (λ (z : TableState). Arrives Taken c.args.conn.0 (server (hub_of c.self.inside.table c.self.inside.topics c.self.inside.tellings) (g.N.Net.state c.args.out.now.net) (g.W.Watch.told c.args.out.now.watch)) (server (hub_of z c.self.inside.topics c.self.inside.tellings) (g.N.Net.state c.args.out.now.net) (g.W.Watch.told c.note-2.new.self))) (sym same)
    (arrives_taken (plain_next c.self.inside.table c.self.inside.topics c.self.inside.tellings c.args.conn.0 c.self.invariant above) (g.N.Net.state c.args.out.now.net) (g.W.Watch.told c.args.out.now.watch) (g.W.Watch.told c.note-2.new.self) c.if-is_full.ensures.value c.note-2.ensures))

pub returns-clause-counts : goal.returns-clause-counts
returns-clause-counts g c =
    let above : c.self.inside.table.named < c.args.conn.0 = subst (λ (z : HubState). z.named < c.args.conn.0) (sym c.self.view_is) c.requires.new in
    let same : c.accept.new.self ≡ with_accepted_table c.self.inside.table c.args.conn.0 = search rules in
    rw (← c.self.view_is) (subst (λ (z : TableState). Taken ≡ Taken → CountsBy (accepted c.args.conn.0) (hub_of c.self.inside.table c.self.inside.topics c.self.inside.tellings) (hub_of z c.self.inside.topics c.self.inside.tellings)) (sym same) (λ _. counts_accepted (plain_next c.self.inside.table c.self.inside.topics c.self.inside.tellings c.args.conn.0 c.self.invariant above)))

pub returns-clause-appends : goal.returns-clause-appends
returns-clause-appends g c =
    let above : c.self.inside.table.named < c.args.conn.0 = subst (λ (z : HubState). z.named < c.args.conn.0) (sym c.self.view_is) c.requires.new in
    let same : c.accept.new.self ≡ with_accepted_table c.self.inside.table c.args.conn.0 = search rules in
    rw (← c.self.view_is) (subst (λ (z : TableState). Appends nothing (server (hub_of c.self.inside.table c.self.inside.topics c.self.inside.tellings) (g.N.Net.state c.args.out.now.net) (g.W.Watch.told c.args.out.now.watch)) (server (hub_of z c.self.inside.topics c.self.inside.tellings) (g.N.Net.state c.args.out.now.net) (g.W.Watch.told c.note-2.new.self))) (sym same)
    (appends_accepted (plain_next c.self.inside.table c.self.inside.topics c.self.inside.tellings c.args.conn.0 c.self.invariant above) (g.N.Net.state c.args.out.now.net) (g.W.Watch.told c.args.out.now.watch) (g.W.Watch.told c.note-2.new.self) c.note-2.ensures))

pub returns-then-is_full-clause-answer : goal.returns-then-is_full-clause-answer
returns-then-is_full-clause-answer g c =
    let above : c.self.inside.table.named < c.args.conn.0 = subst (λ (z : HubState). z.named < c.args.conn.0) (sym c.self.view_is) c.requires.new in
    let full : length c.self.inside.table.entries ≡ c.self.inside.table.config.max_conns = search rules in
    rw (← c.self.view_is) (
      full,
      refl,
      makes_none (plain_next c.self.inside.table c.self.inside.topics c.self.inside.tellings c.args.conn.0 c.self.invariant above) (busy c.args.conn.0) (g.N.Net.state c.args.out.now.net) (g.W.Watch.told c.args.out.now.watch) (g.W.Watch.told c.note.new.self)
          (λ d ne. of_other c.args.conn.0 d ne) refl refl (λ d t. refl) refl c.note.ensures,
    )

pub returns-then-is_err-clause-answer : goal.returns-then-is_err-clause-answer
returns-then-is_err-clause-answer g c =
    let above : c.self.inside.table.named < c.args.conn.0 = subst (λ (z : HubState). z.named < c.args.conn.0) (sym c.self.view_is) c.requires.new in
    let same : c.accept.new.self ≡ c.self.inside.table = search rules in
    let room : length c.self.inside.table.entries < c.self.inside.table.config.max_conns = search rules in
    rw (← c.self.view_is) (subst (λ (z : TableState). Arrives Memory c.args.conn.0 (server (hub_of c.self.inside.table c.self.inside.topics c.self.inside.tellings) (g.N.Net.state c.args.out.now.net) (g.W.Watch.told c.args.out.now.watch)) (server (hub_of z c.self.inside.topics c.self.inside.tellings) (g.N.Net.state c.args.out.now.net) (g.W.Watch.told c.note-then-is_err.new.self))) (sym same) (
      room,
      refl,
      makes_none (plain_next c.self.inside.table c.self.inside.topics c.self.inside.tellings c.args.conn.0 c.self.invariant above) (no_room c.args.conn.0) (g.N.Net.state c.args.out.now.net) (g.W.Watch.told c.args.out.now.watch) (g.W.Watch.told c.note-then-is_err.new.self)
          (λ d ne. of_other c.args.conn.0 d ne) refl refl (λ d t. refl) refl c.note-then-is_err.ensures,
    ))

pub invariant_of-self-2 : goal.invariant_of-self-2
invariant_of-self-2 g c =
    let above : c.self.inside.table.named < c.args.conn.0 = subst (λ (z : HubState). z.named < c.args.conn.0) (sym c.self.view_is) c.requires.new in
    let same : c.accept.new.self ≡ with_accepted_table c.self.inside.table c.args.conn.0 = search rules in
    hub_accepted c.self.inside.table c.accept.new.self c.self.inside.topics c.self.inside.tellings c.args.conn.0 c.self.invariant above same c.accept.ensures.table
