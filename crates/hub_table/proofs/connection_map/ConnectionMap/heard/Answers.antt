use Rattle.hub_table.proofs.All.{◌≡◌, true, false, refl, ap, ◌∙◌, has_entry, is_gone, Connection, connection_of, entries_of, replaced, with_socket, ConnectionMapState, listed, IsIndexed, has_key, under_key, stored_of, socket_written, heard_socket}
use Rattle.hub_table.proofs.connection_map.ConnectionMap.heard.Goals as goal

pub key_of-key-requires : goal.key_of-key-requires
key_of-key-requires c = has_key c.self.invariant c.args.conn.0 (ap (λ (z : ConnectionMapState). has_entry (entries_of z.all) c.args.conn.0) c.self.view_is ∙ c.requires.there)

pub heard-requires-clause-there : goal.heard-requires-clause-there
heard-requires-clause-there c = under_key c.self.invariant c.args.conn.0 c.key_of-key.ensures

pub heard-requires-clause-present : goal.heard-requires-clause-present
heard-requires-clause-present c = ap (λ (z : Connection). is_gone z.socket.phase) (stored_of c.self.invariant c.args.conn.0 c.key_of-key.ensures)
    ∙ ap (λ (z : ConnectionMapState). is_gone (connection_of z.all c.args.conn.0).socket.phase) c.self.view_is ∙ c.requires.present

now : (c : goal.After-heard) → IsIndexed c.heard.new.connections c.self.inside.keys.entries c.self.inside.due c.self.inside.ending
    × (listed c.heard.new.connections c.self.inside.keys.entries ≡ replaced (listed c.self.inside.connections c.self.inside.keys.entries) c.args.conn.0 (with_socket (connection_of (listed c.self.inside.connections c.self.inside.keys.entries) c.args.conn.0) (heard_socket (connection_of (listed c.self.inside.connections c.self.inside.keys.entries) c.args.conn.0).socket)))
now c = socket_written c.self.invariant c.args.conn.0 c.key_of-key.ensures heard_socket (λ x. refl) (λ x. refl) (ap (λ (z : ConnectionMapState). has_entry (entries_of z.all) c.args.conn.0) c.self.view_is ∙ c.requires.there) c.heard.ensures

pub invariant_of-self : goal.invariant_of-self
invariant_of-self c = (now c).0

pub returns-clause-all : goal.returns-clause-all
returns-clause-all c = rw (← c.self.view_is) (now c).1
