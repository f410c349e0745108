use Rattle.hub_table.proofs.All.{◌≡◌, ◌≢◌, ◌≤◌, ◌+◌, [], ◌∷◌, true, false, sym, ap, ◌∙◌, subst, arith, length, Entry, Phase, entry_of, has_entry, is_gone, TableState, connection_of, entries_of, with_socket, PassesOctets, Becomes, changes_one, entry_is, is_table, own_number, becomes_put, there_put, due_stays, each_of, config_of, ConfigValue, most_held_in, left_none}
use Rattle.hub_table.proofs.connections.Connections.writable.Given as given
use Rattle.hub_table.proofs.connections.Connections.writable.Goals as goal

pub writable-requires-clause-live : goal.writable-requires-clause-live
writable-requires-clause-live g c = ap ((g.N.Net.state c.args.out.now.net).live) (own_number c.self.inside.table.all c.args.conn.0 (ap (λ (z : TableState). has_entry z.entries c.args.conn.0) c.self.view_is ∙ c.requires.there)) ∙ c.requires.live

became : (g : given.Over) (c : goal.After-writable g) → Becomes c.self.inside.config c.self.inside.named c.args.conn.0 c.self.inside.table.all c.writable.new.self.all (with_socket (connection_of c.self.inside.table.all c.args.conn.0) (connection_of c.writable.new.self.all c.args.conn.0).socket)
became g c =
    let own = each_of c.self.inside.config c.self.inside.named c.self.inside.table.all c.args.conn.0 c.self.invariant.kept.each (ap (λ (z : TableState). has_entry z.entries c.args.conn.0) c.self.view_is ∙ c.requires.there) in
    let passes = c.writable.ensures.passes in
    let none = left_none (connection_of c.self.inside.table.all c.args.conn.0).socket.ring (connection_of c.writable.new.self.all c.args.conn.0).socket.ring in
    becomes_put c.args.conn.0 (connection_of c.writable.new.self.all c.args.conn.0).socket c.self.invariant.kept (ap (λ (z : TableState). has_entry z.entries c.args.conn.0) c.self.view_is ∙ c.requires.there)
    passes.conn_is passes.config passes.phase
    (λ h. passes.numbered ∙ (let n = own.head (sym passes.phase ∙ h) in omega arith))
    (subst (λ (z : Phase). length (connection_of c.writable.new.self.all c.args.conn.0).socket.ring ≤ most_held_in c.self.inside.config z) (sym passes.phase) (let a = own.bound in let b = passes.bound in omega arith))
    (λ gone. none (own.gone (ap is_gone (sym passes.phase) ∙ gone)) passes.bound)
    (λ zero. none (own.unused (let n = passes.numbered in omega arith)) passes.bound) c.writable.ensures.all

-- what the call did, to the entry and by its number
passed : (g : given.Over) (c : goal.After-writable g) → PassesOctets c.args.conn.0 c.args.self.now.config.limit false [] c.writable.result (entry_of c.args.self.now.entries c.args.conn.0) (entry_of (entries_of c.writable.new.self.all) c.args.conn.0) (g.N.Net.state c.args.out.now.net) (g.N.Net.state c.writable.new.out.net) (g.W.Watch.told c.args.out.now.watch) (g.W.Watch.told c.writable.new.out.watch)
passed g c =
    let same : (connection_of c.self.inside.table.all c.args.conn.0).socket.config ≡ c.args.self.now.config = config_of c.self.inside.config c.self.inside.named c.self.inside.table.all c.args.conn.0 c.self.invariant.kept (ap (λ (z : TableState). has_entry z.entries c.args.conn.0) c.self.view_is ∙ c.requires.there) ∙ ap (λ (z : TableState). z.config) c.self.view_is in
    subst (λ (z : ConfigValue). PassesOctets c.args.conn.0 z.limit false [] c.writable.result (entry_of c.args.self.now.entries c.args.conn.0) (entry_of (entries_of c.writable.new.self.all) c.args.conn.0) (g.N.Net.state c.args.out.now.net) (g.N.Net.state c.writable.new.out.net) (g.W.Watch.told c.args.out.now.watch) (g.W.Watch.told c.writable.new.out.watch)) same
    (subst (λ (z : Entry). PassesOctets c.args.conn.0 (connection_of c.self.inside.table.all c.args.conn.0).socket.config.limit false [] c.writable.result z (entry_of (entries_of c.writable.new.self.all) c.args.conn.0) (g.N.Net.state c.args.out.now.net) (g.N.Net.state c.writable.new.out.net) (g.W.Watch.told c.args.out.now.watch) (g.W.Watch.told c.writable.new.out.watch)) (sym (entry_is c.self.inside.table.all c.args.conn.0) ∙ ap (λ (z : TableState). entry_of z.entries c.args.conn.0) c.self.view_is)
    (subst (λ (z : Entry). PassesOctets c.args.conn.0 (connection_of c.self.inside.table.all c.args.conn.0).socket.config.limit false [] c.writable.result (connection_of c.self.inside.table.all c.args.conn.0).socket z (g.N.Net.state c.args.out.now.net) (g.N.Net.state c.writable.new.out.net) (g.W.Watch.told c.args.out.now.watch) (g.W.Watch.told c.writable.new.out.watch)) (sym (entry_is c.writable.new.self.all c.args.conn.0)) c.writable.ensures.passes))

pub invariant_of-self : goal.invariant_of-self
invariant_of-self g c = record { kept = (became g c).kept; room = c.writable.ensures.room ∙ c.self.invariant.room }

pub returns-clause-passes : goal.returns-clause-passes
returns-clause-passes g c = passed g c

pub returns-clause-there : goal.returns-clause-there
returns-clause-there g c = there_put c.self.inside.table.all c.writable.new.self.all c.args.conn.0 (with_socket (connection_of c.self.inside.table.all c.args.conn.0) (connection_of c.writable.new.self.all c.args.conn.0).socket) (ap (λ (z : TableState). has_entry z.entries c.args.conn.0) c.self.view_is ∙ c.requires.there) (c.writable.ensures.passes.conn_is ∙ own_number c.self.inside.table.all c.args.conn.0 (ap (λ (z : TableState). has_entry z.entries c.args.conn.0) c.self.view_is ∙ c.requires.there)) c.writable.ensures.all

pub returns-clause-due : goal.returns-clause-due
returns-clause-due g c = rw (← c.self.view_is) (due_stays c.self.invariant.kept (became g c))

pub returns-clause-elsewhere : goal.returns-clause-elsewhere
returns-clause-elsewhere g c = rw (← c.self.view_is) (changes_one c.self.invariant.kept (became g c))

pub returns-clause-table : goal.returns-clause-table
returns-clause-table g c = is_table (became g c).kept

pub returns-clause-waits : goal.returns-clause-waits
returns-clause-waits g c = λ ok some. c.writable.ensures.waits ok (λ none. some (ap (λ (z : Entry). z.ring) (entry_is c.writable.new.self.all c.args.conn.0) ∙ none))
