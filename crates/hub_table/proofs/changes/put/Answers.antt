use Rattle.hub_table.proofs.All.{◌&&◌, subst₂, CountsRinged, OffersOnce, ◌≡◌, Some, rules, sym, ap, ◌∙◌, unwrap_or, get, with_value, Connection, no_connection, PassesOctets, stored_at, stored_written, [], true, can_drop, octets_of, ◌∷◌, nat_lt, length}
use Rattle.hub_table.proofs.changes.put.Given as given
use Rattle.hub_table.proofs.changes.put.Goals as goal

-- the connection before and after the call
old : (g : given.Over) (c : goal.After-connections-1 g) → c.index_mut.result.now ≡ stored_at c.args.connections.now c.args.key
old g c = let found : get c.args.connections.now c.args.key ≡ Some c.index_mut.result.now = search rules in sym (ap (λ o. unwrap_or o no_connection) found)

abbrev next : (g : given.Over) → goal.After-connections-1 g → Connection
next g c = record { socket = c.put_frame.new.self; closed = c.index_mut.result.now.closed }

new : (g : given.Over) (c : goal.After-connections-1 g) → next g c ≡ stored_at (with_value c.args.connections.now c.args.key (next g c)) c.args.key
new g c = sym (stored_written c.args.connections.now c.args.key (next g c) c.requires.there)

pub returns-clause-passes : goal.returns-clause-passes
returns-clause-passes g c =
    subst₂ (λ (x y : Connection). PassesOctets x.socket.conn x.socket.config.limit (can_drop c.args.item) (octets_of c.args.item ∷ []) c.put_frame.result x.socket y.socket (g.N.Net.state c.args.out.now.net) (g.N.Net.state c.put_frame.new.out.net) (g.W.Watch.told c.args.out.now.watch) (g.W.Watch.told c.put_frame.new.out.watch)) (old g c) (new g c) c.put_frame.ensures.passes

pub returns-clause-once : goal.returns-clause-once
returns-clause-once g c =
    subst₂ (λ (x y : Connection). x.socket.ring ≡ [] → OffersOnce c.put_frame.result x.socket.conn (octets_of c.args.item) y.socket.ring (g.N.Net.state c.args.out.now.net) (g.N.Net.state c.put_frame.new.out.net) (g.W.Watch.told c.args.out.now.watch) (g.W.Watch.told c.put_frame.new.out.watch)) (old g c) (new g c) c.put_frame.ensures.once

pub returns-clause-tally : goal.returns-clause-tally
returns-clause-tally g c = subst₂ (λ (x y : Connection). CountsRinged x.socket.ring y.socket.ring c.args.out.now.tally c.put_frame.new.out.tally) (old g c) (new g c) c.put_frame.ensures.tally

pub returns-clause-dropped : goal.returns-clause-dropped
returns-clause-dropped g c = c.put_frame.ensures.dropped ∙ ap (λ (z : Connection). can_drop c.args.item && nat_lt z.socket.config.limit (length z.socket.ring)) (old g c)
