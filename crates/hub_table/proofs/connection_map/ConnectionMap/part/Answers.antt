use Rattle.hub_table.proofs.All.{◌≡◌, true, refl, sym, ap, ◌∙◌, with_value, has_entry, Connection, marked, connection_of, entries_of, replaced, parted, ConnectionMapState, listed, IsIndexed, own_number, has_key, under_key, stored_of, ending_fits, due_fits, index_written, can_enter}
use Rattle.hub_table.proofs.connection_map.ConnectionMap.part.Goals as goal

pub key_of-key-requires : goal.key_of-key-requires
key_of-key-requires c = has_key c.self.invariant c.args.conn.0 (ap (λ (z : ConnectionMapState). has_entry (entries_of z.all) c.args.conn.0) c.self.view_is ∙ c.requires.there)

pub part-requires-clause-there : goal.part-requires-clause-there
part-requires-clause-there c = under_key c.self.invariant c.args.conn.0 c.key_of-key.ensures

pub part-requires-clause-step : goal.part-requires-clause-step
part-requires-clause-step c =
    ap (λ (z : Connection). can_enter z.socket.phase c.args.phase) (stored_of c.self.invariant c.args.conn.0 c.key_of-key.ensures)
    ∙ ap (λ (z : ConnectionMapState). can_enter (connection_of z.all c.args.conn.0).socket.phase c.args.phase) c.self.view_is ∙ c.requires.step

pub mark-requires : goal.mark-requires
mark-requires c =
    let there : has_entry (entries_of (listed c.self.inside.connections c.self.inside.keys.entries)) c.args.conn.0 ≡ true = ap (λ (z : ConnectionMapState). has_entry (entries_of z.all) c.args.conn.0) c.self.view_is ∙ c.requires.there in
    λ _. due_fits c.self.invariant c.args.conn.0 (parted (connection_of (listed c.self.inside.connections c.self.inside.keys.entries) c.args.conn.0) c.args.phase c.args.parting) there (own_number (listed c.self.inside.connections c.self.inside.keys.entries) c.args.conn.0 there) refl

pub mark-requires-2 : goal.mark-requires-2
mark-requires-2 c = λ ending.
    let there : has_entry (entries_of (listed c.self.inside.connections c.self.inside.keys.entries)) c.args.conn.0 ≡ true = ap (λ (z : ConnectionMapState). has_entry (entries_of z.all) c.args.conn.0) c.self.view_is ∙ c.requires.there in
    ending_fits c.self.invariant c.args.conn.0 (parted (connection_of (listed c.self.inside.connections c.self.inside.keys.entries) c.args.conn.0) c.args.phase c.args.parting) there (own_number (listed c.self.inside.connections c.self.inside.keys.entries) c.args.conn.0 there) (sym c.is_ending.ensures ∙ ending)

now : (c : goal.After-mark-2) → IsIndexed c.part.new.connections c.self.inside.keys.entries c.mark.new.self c.mark-2.new.self
    × (listed c.part.new.connections c.self.inside.keys.entries ≡ replaced (listed c.self.inside.connections c.self.inside.keys.entries) c.args.conn.0 (parted (connection_of (listed c.self.inside.connections c.self.inside.keys.entries) c.args.conn.0) c.args.phase c.args.parting))
now c =
    let there : has_entry (entries_of (listed c.self.inside.connections c.self.inside.keys.entries)) c.args.conn.0 ≡ true = ap (λ (z : ConnectionMapState). has_entry (entries_of z.all) c.args.conn.0) c.self.view_is ∙ c.requires.there in
    index_written c.self.invariant c.args.conn.0 c.key_of-key.ensures (parted (connection_of (listed c.self.inside.connections c.self.inside.keys.entries) c.args.conn.0) c.args.phase c.args.parting)
    (c.part.ensures ∙ ap (λ (z : Connection). with_value c.self.inside.connections c.key_of-key.result (parted z c.args.phase c.args.parting)) (stored_of c.self.invariant c.args.conn.0 c.key_of-key.ensures))
    (own_number (listed c.self.inside.connections c.self.inside.keys.entries) c.args.conn.0 there) there c.mark.ensures.numbers c.mark.ensures.room
    (c.mark-2.ensures.numbers ∙ ap (marked c.self.inside.ending.numbers c.args.conn.0) c.is_ending.ensures) c.mark-2.ensures.room

pub invariant_of-self : goal.invariant_of-self
invariant_of-self c = (now c).0

pub returns-clause-all : goal.returns-clause-all
returns-clause-all c = rw (← c.self.view_is) (now c).1
