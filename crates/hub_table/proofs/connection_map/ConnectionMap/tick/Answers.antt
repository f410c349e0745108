use Rattle.hub_table.proofs.All.{◌≡◌, true, false, refl, ap, ◌∙◌, has_entry, is_gone, Connection, connection_of, entries_of, replaced, with_socket, is_ping_due, is_end_due, counts_of, ConnectionMapState, Some, listed, IsIndexed, has_key, under_key, stored_of, socket_written, ticked_socket}
use Rattle.hub_table.proofs.connection_map.ConnectionMap.tick.Goals as goal

pub key_of-key-requires : goal.key_of-key-requires
key_of-key-requires c = has_key c.self.invariant c.args.conn.0 (ap (λ (z : ConnectionMapState). has_entry (entries_of z.all) c.args.conn.0) c.self.view_is ∙ c.requires.there)

pub tick-requires-clause-there : goal.tick-requires-clause-there
tick-requires-clause-there c = under_key c.self.invariant c.args.conn.0 c.key_of-key.ensures

pub tick-requires-clause-present : goal.tick-requires-clause-present
tick-requires-clause-present c = ap (λ (z : Connection). is_gone z.socket.phase) (stored_of c.self.invariant c.args.conn.0 c.key_of-key.ensures)
    ∙ ap (λ (z : ConnectionMapState). is_gone (connection_of z.all c.args.conn.0).socket.phase) c.self.view_is ∙ c.requires.present

now : (c : goal.After-tick) → IsIndexed c.tick.new.connections c.self.inside.keys.entries c.self.inside.due c.self.inside.ending
    × (listed c.tick.new.connections c.self.inside.keys.entries ≡ replaced (listed c.self.inside.connections c.self.inside.keys.entries) c.args.conn.0 (with_socket (connection_of (listed c.self.inside.connections c.self.inside.keys.entries) c.args.conn.0) (ticked_socket (connection_of (listed c.self.inside.connections c.self.inside.keys.entries) c.args.conn.0).socket)))
now c = socket_written c.self.invariant c.args.conn.0 c.key_of-key.ensures ticked_socket (λ x. refl) (λ x. refl) (ap (λ (z : ConnectionMapState). has_entry (entries_of z.all) c.args.conn.0) c.self.view_is ∙ c.requires.there) c.tick.ensures.slab

pub invariant_of-self : goal.invariant_of-self
invariant_of-self c = (now c).0

pub returns-clause-all : goal.returns-clause-all
returns-clause-all c = rw (← c.self.view_is) (now c).1

pub returns-clause-ping : goal.returns-clause-ping
returns-clause-ping c = rw (← c.self.view_is) (c.tick.ensures.ping ∙ ap (λ (z : Connection). is_ping_due z.socket.config (Some z.socket.phase) (counts_of z.socket)) (stored_of c.self.invariant c.args.conn.0 c.key_of-key.ensures))

pub returns-clause-end : goal.returns-clause-end
returns-clause-end c = rw (← c.self.view_is) (c.tick.ensures.end ∙ ap (λ (z : Connection). is_end_due z.socket.config (Some z.socket.phase) (counts_of z.socket)) (stored_of c.self.invariant c.args.conn.0 c.key_of-key.ensures))
