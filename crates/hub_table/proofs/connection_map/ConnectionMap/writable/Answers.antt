use Rattle.hub_table.proofs.All.{◌≡◌, ◌≢◌, true, false, [], refl, sym, ap, ◌∙◌, subst, ℕ, with_value, has_entry, Connection, connection_of, entries_of, replaced, with_socket, is_ending, PassesOctets, ConnectionMapState, stored_at, listed, IsIndexed, own_number, replaced_here, has_key, under_key, stored_of, index_written, ending_stays}
use Rattle.hub_table.proofs.MapLemmas.{due_stays}
use Rattle.hub_table.proofs.connection_map.ConnectionMap.writable.Given as given
use Rattle.hub_table.proofs.connection_map.ConnectionMap.writable.Goals as goal

pub key_of-key-requires : goal.key_of-key-requires
key_of-key-requires g c = has_key c.self.invariant c.args.conn.0 (ap (λ (z : ConnectionMapState). has_entry (entries_of z.all) c.args.conn.0) c.self.view_is ∙ c.requires.there)

pub writable-requires-clause-there : goal.writable-requires-clause-there
writable-requires-clause-there g c = under_key c.self.invariant c.args.conn.0 c.key_of-key.ensures

pub writable-requires-clause-live : goal.writable-requires-clause-live
writable-requires-clause-live g c = ap (λ (z : Connection). (g.N.Net.state c.args.out.now.net).live z.socket.conn) (stored_of c.self.invariant c.args.conn.0 c.key_of-key.ensures)
    ∙ ap (λ (z : ConnectionMapState). (g.N.Net.state c.args.out.now.net).live (connection_of z.all c.args.conn.0).socket.conn) c.self.view_is ∙ c.requires.live

-- the connection after the call
abbrev next : (g : given.Over) → goal.After-writable g → Connection
next g c = with_socket (connection_of (listed c.self.inside.connections c.self.inside.keys.entries) c.args.conn.0) (stored_at c.writable.new.connections c.key_of-key.result).socket

now : (g : given.Over) (c : goal.After-writable g) → IsIndexed c.writable.new.connections c.self.inside.keys.entries c.self.inside.due c.self.inside.ending
    × ((listed c.writable.new.connections c.self.inside.keys.entries) ≡ replaced (listed c.self.inside.connections c.self.inside.keys.entries) c.args.conn.0 (next g c))
now g c =
    let there : has_entry (entries_of (listed c.self.inside.connections c.self.inside.keys.entries)) c.args.conn.0 ≡ true = ap (λ (z : ConnectionMapState). has_entry (entries_of z.all) c.args.conn.0) c.self.view_is ∙ c.requires.there in
    let was = stored_of c.self.invariant c.args.conn.0 c.key_of-key.ensures in
    let own = c.writable.ensures.passes.conn_is ∙ ap (λ (z : Connection). z.socket.conn) was ∙ own_number (listed c.self.inside.connections c.self.inside.keys.entries) c.args.conn.0 there in
    index_written c.self.invariant c.args.conn.0 c.key_of-key.ensures (next g c)
    (c.writable.ensures.slab ∙ ap (λ (z : Connection). with_value c.self.inside.connections c.key_of-key.result (with_socket z (stored_at c.writable.new.connections c.key_of-key.result).socket)) was)
    own there (due_stays c.self.invariant c.args.conn.0 c.key_of-key.ensures (next g c) there own refl) refl
    (ending_stays c.self.invariant c.args.conn.0 c.key_of-key.ensures (next g c) there own (ap is_ending (c.writable.ensures.passes.phase ∙ ap (λ (z : Connection). z.socket.phase) was))) refl

-- the connection of the number before and after the call
number : (g : given.Over) (c : goal.After-writable g) → (stored_at c.self.inside.connections c.key_of-key.result).socket.conn ≡ c.args.conn.0
number g c =
    let there : has_entry (entries_of (listed c.self.inside.connections c.self.inside.keys.entries)) c.args.conn.0 ≡ true = ap (λ (z : ConnectionMapState). has_entry (entries_of z.all) c.args.conn.0) c.self.view_is ∙ c.requires.there in
    ap (λ (z : Connection). z.socket.conn) (stored_of c.self.invariant c.args.conn.0 c.key_of-key.ensures) ∙ own_number (listed c.self.inside.connections c.self.inside.keys.entries) c.args.conn.0 there

after : (g : given.Over) (c : goal.After-writable g) → connection_of (listed c.writable.new.connections c.self.inside.keys.entries) c.args.conn.0 ≡ next g c
after g c =
    let there : has_entry (entries_of (listed c.self.inside.connections c.self.inside.keys.entries)) c.args.conn.0 ≡ true = ap (λ (z : ConnectionMapState). has_entry (entries_of z.all) c.args.conn.0) c.self.view_is ∙ c.requires.there in
    ap (λ (z : _). connection_of z c.args.conn.0) (now g c).1 ∙ replaced_here (listed c.self.inside.connections c.self.inside.keys.entries) c.args.conn.0 (next g c) there (c.writable.ensures.passes.conn_is ∙ number g c)

pub invariant_of-self : goal.invariant_of-self
invariant_of-self g c = (now g c).0

pub returns-clause-all : goal.returns-clause-all
returns-clause-all g c = rw (← c.self.view_is) ((now g c).1 ∙ ap (λ (z : Connection). replaced (listed c.self.inside.connections c.self.inside.keys.entries) c.args.conn.0 (with_socket (connection_of (listed c.self.inside.connections c.self.inside.keys.entries) c.args.conn.0) z.socket)) (sym (after g c)))

pub returns-clause-passes : goal.returns-clause-passes
returns-clause-passes g c = rw (← c.self.view_is)
    (subst (λ (z : Connection). PassesOctets c.args.conn.0 (connection_of (listed c.self.inside.connections c.self.inside.keys.entries) c.args.conn.0).socket.config.limit false [] c.writable.result (connection_of (listed c.self.inside.connections c.self.inside.keys.entries) c.args.conn.0).socket z.socket (g.N.Net.state c.args.out.now.net) (g.N.Net.state c.writable.new.out.net) (g.W.Watch.told c.args.out.now.watch) (g.W.Watch.told c.writable.new.out.watch)) (sym (after g c))
    (subst (λ (z : Connection). PassesOctets c.args.conn.0 z.socket.config.limit false [] c.writable.result z.socket (stored_at c.writable.new.connections c.key_of-key.result).socket (g.N.Net.state c.args.out.now.net) (g.N.Net.state c.writable.new.out.net) (g.W.Watch.told c.args.out.now.watch) (g.W.Watch.told c.writable.new.out.watch)) (stored_of c.self.invariant c.args.conn.0 c.key_of-key.ensures)
    (subst (λ (z : ℕ). PassesOctets z (stored_at c.self.inside.connections c.key_of-key.result).socket.config.limit false [] c.writable.result (stored_at c.self.inside.connections c.key_of-key.result).socket (stored_at c.writable.new.connections c.key_of-key.result).socket (g.N.Net.state c.args.out.now.net) (g.N.Net.state c.writable.new.out.net) (g.W.Watch.told c.args.out.now.watch) (g.W.Watch.told c.writable.new.out.watch)) (number g c) c.writable.ensures.passes)))

pub returns-clause-waits : goal.returns-clause-waits
returns-clause-waits g c = λ ok some.
    ap ((g.N.Net.state c.writable.new.out.net).writable) (sym (number g c)) ∙ c.writable.ensures.waits ok (λ none. some (ap (λ (z : Connection). z.socket.ring) (after g c) ∙ none))
