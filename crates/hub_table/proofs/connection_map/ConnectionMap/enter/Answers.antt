use Rattle.hub_table.proofs.All.{◌≡◌, true, refl, sym, ap, ◌∙◌, with_value, has_entry, Connection, marked, connection_of, entries_of, replaced, entered, ConnectionMapState, listed, IsIndexed, own_number, has_key, under_key, stored_of, ending_fits, index_written, can_enter}
use Rattle.hub_table.proofs.MapLemmas.{due_stays}
use Rattle.hub_table.proofs.connection_map.ConnectionMap.enter.Goals as goal

pub key_of-key-requires : goal.key_of-key-requires
key_of-key-requires c = has_key c.self.invariant c.args.conn.0 (ap (λ (z : ConnectionMapState). has_entry (entries_of z.all) c.args.conn.0) c.self.view_is ∙ c.requires.there)

pub enter-requires-clause-there : goal.enter-requires-clause-there
enter-requires-clause-there c = under_key c.self.invariant c.args.conn.0 c.key_of-key.ensures

pub enter-requires-clause-step : goal.enter-requires-clause-step
enter-requires-clause-step c =
    ap (λ (z : Connection). can_enter z.socket.phase c.args.phase) (stored_of c.self.invariant c.args.conn.0 c.key_of-key.ensures)
    ∙ ap (λ (z : ConnectionMapState). can_enter (connection_of z.all c.args.conn.0).socket.phase c.args.phase) c.self.view_is ∙ c.requires.step

pub mark-requires : goal.mark-requires
mark-requires c = λ ending.
    let there : has_entry (entries_of (listed c.self.inside.connections c.self.inside.keys.entries)) c.args.conn.0 ≡ true = ap (λ (z : ConnectionMapState). has_entry (entries_of z.all) c.args.conn.0) c.self.view_is ∙ c.requires.there in
    ending_fits c.self.invariant c.args.conn.0 (entered (connection_of (listed c.self.inside.connections c.self.inside.keys.entries) c.args.conn.0) c.args.phase) there (own_number (listed c.self.inside.connections c.self.inside.keys.entries) c.args.conn.0 there) (sym c.is_ending.ensures ∙ ending)

now : (c : goal.After-mark) → IsIndexed c.enter.new.connections c.self.inside.keys.entries c.self.inside.due c.mark.new.self
    × (listed c.enter.new.connections c.self.inside.keys.entries ≡ replaced (listed c.self.inside.connections c.self.inside.keys.entries) c.args.conn.0 (entered (connection_of (listed c.self.inside.connections c.self.inside.keys.entries) c.args.conn.0) c.args.phase))
now c =
    let there : has_entry (entries_of (listed c.self.inside.connections c.self.inside.keys.entries)) c.args.conn.0 ≡ true = ap (λ (z : ConnectionMapState). has_entry (entries_of z.all) c.args.conn.0) c.self.view_is ∙ c.requires.there in
    let own = own_number (listed c.self.inside.connections c.self.inside.keys.entries) c.args.conn.0 there in
    index_written c.self.invariant c.args.conn.0 c.key_of-key.ensures (entered (connection_of (listed c.self.inside.connections c.self.inside.keys.entries) c.args.conn.0) c.args.phase)
    (c.enter.ensures ∙ ap (λ (z : Connection). with_value c.self.inside.connections c.key_of-key.result (entered z c.args.phase)) (stored_of c.self.invariant c.args.conn.0 c.key_of-key.ensures))
    own there (due_stays c.self.invariant c.args.conn.0 c.key_of-key.ensures (entered (connection_of (listed c.self.inside.connections c.self.inside.keys.entries) c.args.conn.0) c.args.phase) there own refl) refl
    (c.mark.ensures.numbers ∙ ap (marked c.self.inside.ending.numbers c.args.conn.0) c.is_ending.ensures) c.mark.ensures.room

pub invariant_of-self : goal.invariant_of-self
invariant_of-self c = (now c).0

pub returns-clause-all : goal.returns-clause-all
returns-clause-all c = rw (← c.self.view_is) (now c).1
