use Rattle.hub_table.proofs.All.{◌≡◌, true, refl, ap, ◌∙◌, with_value, has_entry, Connection, connection_of, entries_of, replaced, told, ConnectionMapState, listed, IsIndexed, own_number, has_key, under_key, stored_of, index_written, ending_stays}
use Rattle.hub_table.proofs.connection_map.ConnectionMap.take.Goals as goal

pub key_of-key-requires : goal.key_of-key-requires
key_of-key-requires c = has_key c.self.invariant c.args.conn.0 (ap (λ (z : ConnectionMapState). has_entry (entries_of z.all) c.args.conn.0) c.self.view_is ∙ c.requires)

pub take-parting-requires : goal.take-parting-requires
take-parting-requires c = under_key c.self.invariant c.args.conn.0 c.key_of-key.ensures

now : (c : goal.After-mark) → IsIndexed c.take-parting.new.connections c.self.inside.keys.entries c.mark.new.self c.self.inside.ending
    × (listed c.take-parting.new.connections c.self.inside.keys.entries ≡ replaced (listed c.self.inside.connections c.self.inside.keys.entries) c.args.conn.0 (told (connection_of (listed c.self.inside.connections c.self.inside.keys.entries) c.args.conn.0)))
now c =
    let there : has_entry (entries_of (listed c.self.inside.connections c.self.inside.keys.entries)) c.args.conn.0 ≡ true = ap (λ (z : ConnectionMapState). has_entry (entries_of z.all) c.args.conn.0) c.self.view_is ∙ c.requires in
    let own = own_number (listed c.self.inside.connections c.self.inside.keys.entries) c.args.conn.0 there in
    index_written c.self.invariant c.args.conn.0 c.key_of-key.ensures (told (connection_of (listed c.self.inside.connections c.self.inside.keys.entries) c.args.conn.0))
    (c.take-parting.ensures.slab ∙ ap (λ (z : Connection). with_value c.self.inside.connections c.key_of-key.result (told z)) (stored_of c.self.invariant c.args.conn.0 c.key_of-key.ensures))
    own there c.mark.ensures.numbers c.mark.ensures.room (ending_stays c.self.invariant c.args.conn.0 c.key_of-key.ensures (told (connection_of (listed c.self.inside.connections c.self.inside.keys.entries) c.args.conn.0)) there own refl) refl

pub invariant_of-self : goal.invariant_of-self
invariant_of-self c = (now c).0

pub returns-clause-all : goal.returns-clause-all
returns-clause-all c = rw (← c.self.view_is) (now c).1

pub returns-clause-value : goal.returns-clause-value
returns-clause-value c = rw (← c.self.view_is) (c.take-parting.ensures.value ∙ ap (λ (z : Connection). z.closed) (stored_of c.self.invariant c.args.conn.0 c.key_of-key.ensures))
