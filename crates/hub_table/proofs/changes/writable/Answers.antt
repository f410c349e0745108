use Rattle.hub_table.proofs.All.{◌≡◌, Some, rules, sym, ap, ◌∙◌, subst, [], ◌≢◌, true, false, unwrap_or, get, with_value, Connection, no_connection, PassesOctets, stored_at, stored_written}
use Rattle.hub_table.proofs.changes.writable.Goals as goal

pub returns-clause-passes : goal.returns-clause-passes
returns-clause-passes g c =
    let found : get c.args.connections.now c.args.key ≡ Some c.index_mut.result.now = search rules in
    let old : stored_at c.args.connections.now c.args.key ≡ c.index_mut.result.now = ap (λ o. unwrap_or o no_connection) found in
    let next : Connection = record { socket = c.writable.new.self; closed = c.index_mut.result.now.closed } in
    let new : stored_at (with_value c.args.connections.now c.args.key next) c.args.key ≡ next = stored_written c.args.connections.now c.args.key next c.requires.there in
    subst (λ (z : Connection). PassesOctets z.socket.conn z.socket.config.limit false [] c.writable.result z.socket (stored_at (with_value c.args.connections.now c.args.key next) c.args.key).socket (g.N.Net.state c.args.out.now.net) (g.N.Net.state c.writable.new.out.net) (g.W.Watch.told c.args.out.now.watch) (g.W.Watch.told c.writable.new.out.watch)) (sym old)
    (subst (λ (z : Connection). PassesOctets c.index_mut.result.now.socket.conn c.index_mut.result.now.socket.config.limit false [] c.writable.result c.index_mut.result.now.socket z.socket (g.N.Net.state c.args.out.now.net) (g.N.Net.state c.writable.new.out.net) (g.W.Watch.told c.args.out.now.watch) (g.W.Watch.told c.writable.new.out.watch)) (sym new) c.writable.ensures.passes)

pub returns-clause-waits : goal.returns-clause-waits
returns-clause-waits g c =
    let found : get c.args.connections.now c.args.key ≡ Some c.index_mut.result.now = search rules in
    let old : stored_at c.args.connections.now c.args.key ≡ c.index_mut.result.now = ap (λ o. unwrap_or o no_connection) found in
    let next : Connection = record { socket = c.writable.new.self; closed = c.index_mut.result.now.closed } in
    let new : stored_at (with_value c.args.connections.now c.args.key next) c.args.key ≡ next = stored_written c.args.connections.now c.args.key next c.requires.there in
    λ ok some. ap ((g.N.Net.state c.writable.new.out.net).writable) (ap (λ (z : Connection). z.socket.conn) old) ∙ c.writable.ensures.waits ok (λ none. some (ap (λ (z : Connection). z.socket.ring) new ∙ none))
