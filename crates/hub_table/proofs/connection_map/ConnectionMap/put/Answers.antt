use Rattle.hub_table.proofs.All.{◌&&◌, ◌≡◌, ◌≢◌, true, false, [], refl, sym, ap, ◌∙◌, subst, with_value, has_entry, Connection, connection_of, entries_of, replaced, with_socket, is_ending, PassesOctets, ConnectionMapState, stored_at, listed, IsIndexed, own_number, replaced_here, has_key, under_key, stored_of, index_written, ending_stays, ℕ, IsPuttable, can_drop, octets_of, ◌∷◌, nat_lt, length, ◌+◌, ◌≤◌, most_held, subst₂, CountsRinged, OffersOnce}
use Rattle.hub_table.proofs.MapLemmas.{due_stays}
use Rattle.hub_table.proofs.connection_map.ConnectionMap.put.Given as given
use Rattle.hub_table.proofs.connection_map.ConnectionMap.put.Goals as goal

pub key_of-key-requires : goal.key_of-key-requires
key_of-key-requires g c = has_key c.self.invariant c.args.conn.0 (ap (λ (z : ConnectionMapState). has_entry (entries_of z.all) c.args.conn.0) c.self.view_is ∙ c.requires.there)

pub put-requires-clause-there : goal.put-requires-clause-there
put-requires-clause-there g c = under_key c.self.invariant c.args.conn.0 c.key_of-key.ensures

pub put-requires-clause-live : goal.put-requires-clause-live
put-requires-clause-live g c = ap (λ (z : Connection). (g.N.Net.state c.args.out.now.net).live z.socket.conn) (stored_of c.self.invariant c.args.conn.0 c.key_of-key.ensures)
    ∙ ap (λ (z : ConnectionMapState). (g.N.Net.state c.args.out.now.net).live (connection_of z.all c.args.conn.0).socket.conn) c.self.view_is ∙ c.requires.live

pub put-requires-clause-item : goal.put-requires-clause-item
put-requires-clause-item g c = subst (λ (z : Connection). IsPuttable z.socket.config z.socket.numbered c.args.item)
    (sym (stored_of c.self.invariant c.args.conn.0 c.key_of-key.ensures ∙ ap (λ (z : ConnectionMapState). connection_of z.all c.args.conn.0) c.self.view_is)) c.requires.item

pub put-requires-clause-room : goal.put-requires-clause-room
put-requires-clause-room g c = λ whole. subst (λ (z : Connection). length z.socket.ring + length (octets_of c.args.item) ≤ most_held z.socket.config)
    (sym (stored_of c.self.invariant c.args.conn.0 c.key_of-key.ensures ∙ ap (λ (z : ConnectionMapState). connection_of z.all c.args.conn.0) c.self.view_is)) (c.requires.room whole)

-- the connection after the call
abbrev next : (g : given.Over) → goal.After-put g → Connection
next g c = with_socket (connection_of (listed c.self.inside.connections c.self.inside.keys.entries) c.args.conn.0) (stored_at c.put.new.connections c.key_of-key.result).socket

now : (g : given.Over) (c : goal.After-put g) → IsIndexed c.put.new.connections c.self.inside.keys.entries c.self.inside.due c.self.inside.ending
    × ((listed c.put.new.connections c.self.inside.keys.entries) ≡ replaced (listed c.self.inside.connections c.self.inside.keys.entries) c.args.conn.0 (next g c))
now g c =
    let there : has_entry (entries_of (listed c.self.inside.connections c.self.inside.keys.entries)) c.args.conn.0 ≡ true = ap (λ (z : ConnectionMapState). has_entry (entries_of z.all) c.args.conn.0) c.self.view_is ∙ c.requires.there in
    let was = stored_of c.self.invariant c.args.conn.0 c.key_of-key.ensures in
    let own = c.put.ensures.passes.conn_is ∙ ap (λ (z : Connection). z.socket.conn) was ∙ own_number (listed c.self.inside.connections c.self.inside.keys.entries) c.args.conn.0 there in
    index_written c.self.invariant c.args.conn.0 c.key_of-key.ensures (next g c)
    (c.put.ensures.slab ∙ ap (λ (z : Connection). with_value c.self.inside.connections c.key_of-key.result (with_socket z (stored_at c.put.new.connections c.key_of-key.result).socket)) was)
    own there (due_stays c.self.invariant c.args.conn.0 c.key_of-key.ensures (next g c) there own refl) refl
    (ending_stays c.self.invariant c.args.conn.0 c.key_of-key.ensures (next g c) there own (ap is_ending (c.put.ensures.passes.phase ∙ ap (λ (z : Connection). z.socket.phase) was))) refl

-- the connection of the number before and after the call
number : (g : given.Over) (c : goal.After-put g) → (stored_at c.self.inside.connections c.key_of-key.result).socket.conn ≡ c.args.conn.0
number g c =
    let there : has_entry (entries_of (listed c.self.inside.connections c.self.inside.keys.entries)) c.args.conn.0 ≡ true = ap (λ (z : ConnectionMapState). has_entry (entries_of z.all) c.args.conn.0) c.self.view_is ∙ c.requires.there in
    ap (λ (z : Connection). z.socket.conn) (stored_of c.self.invariant c.args.conn.0 c.key_of-key.ensures) ∙ own_number (listed c.self.inside.connections c.self.inside.keys.entries) c.args.conn.0 there

after : (g : given.Over) (c : goal.After-put g) → connection_of (listed c.put.new.connections c.self.inside.keys.entries) c.args.conn.0 ≡ next g c
after g c =
    let there : has_entry (entries_of (listed c.self.inside.connections c.self.inside.keys.entries)) c.args.conn.0 ≡ true = ap (λ (z : ConnectionMapState). has_entry (entries_of z.all) c.args.conn.0) c.self.view_is ∙ c.requires.there in
    ap (λ (z : _). connection_of z c.args.conn.0) (now g c).1 ∙ replaced_here (listed c.self.inside.connections c.self.inside.keys.entries) c.args.conn.0 (next g c) there (c.put.ensures.passes.conn_is ∙ number g c)

pub invariant_of-self : goal.invariant_of-self
invariant_of-self g c = (now g c).0

pub returns-clause-all : goal.returns-clause-all
returns-clause-all g c = rw (← c.self.view_is) ((now g c).1 ∙ ap (λ (z : Connection). replaced (listed c.self.inside.connections c.self.inside.keys.entries) c.args.conn.0 (with_socket (connection_of (listed c.self.inside.connections c.self.inside.keys.entries) c.args.conn.0) z.socket)) (sym (after g c)))

pub returns-clause-passes : goal.returns-clause-passes
returns-clause-passes g c = rw (← c.self.view_is)
    (subst₂ (λ (x y : Connection). PassesOctets c.args.conn.0 x.socket.config.limit (can_drop c.args.item) (octets_of c.args.item ∷ []) c.put.result x.socket y.socket (g.N.Net.state c.args.out.now.net) (g.N.Net.state c.put.new.out.net) (g.W.Watch.told c.args.out.now.watch) (g.W.Watch.told c.put.new.out.watch)) (stored_of c.self.invariant c.args.conn.0 c.key_of-key.ensures) (sym (after g c))
    (subst (λ (z : ℕ). PassesOctets z (stored_at c.self.inside.connections c.key_of-key.result).socket.config.limit (can_drop c.args.item) (octets_of c.args.item ∷ []) c.put.result (stored_at c.self.inside.connections c.key_of-key.result).socket (stored_at c.put.new.connections c.key_of-key.result).socket (g.N.Net.state c.args.out.now.net) (g.N.Net.state c.put.new.out.net) (g.W.Watch.told c.args.out.now.watch) (g.W.Watch.told c.put.new.out.watch)) (number g c) c.put.ensures.passes))

pub returns-clause-once : goal.returns-clause-once
returns-clause-once g c = rw (← c.self.view_is)
    (subst₂ (λ (x y : Connection). x.socket.ring ≡ [] → OffersOnce c.put.result c.args.conn.0 (octets_of c.args.item) y.socket.ring (g.N.Net.state c.args.out.now.net) (g.N.Net.state c.put.new.out.net) (g.W.Watch.told c.args.out.now.watch) (g.W.Watch.told c.put.new.out.watch)) (stored_of c.self.invariant c.args.conn.0 c.key_of-key.ensures) (sym (after g c))
    (λ none. subst (λ (z : ℕ). OffersOnce c.put.result z (octets_of c.args.item) (stored_at c.put.new.connections c.key_of-key.result).socket.ring (g.N.Net.state c.args.out.now.net) (g.N.Net.state c.put.new.out.net) (g.W.Watch.told c.args.out.now.watch) (g.W.Watch.told c.put.new.out.watch)) (number g c) (c.put.ensures.once none)))

pub returns-clause-tally : goal.returns-clause-tally
returns-clause-tally g c = rw (← c.self.view_is)
    (subst₂ (λ (x y : Connection). CountsRinged x.socket.ring y.socket.ring c.args.out.now.tally c.put.new.out.tally) (stored_of c.self.invariant c.args.conn.0 c.key_of-key.ensures) (sym (after g c)) c.put.ensures.tally)

pub returns-clause-dropped : goal.returns-clause-dropped
returns-clause-dropped g c = rw (← c.self.view_is)
    (c.put.ensures.dropped ∙ ap (λ (z : Connection). can_drop c.args.item && nat_lt z.socket.config.limit (length z.socket.ring)) (stored_of c.self.invariant c.args.conn.0 c.key_of-key.ensures))
