use Rattle.hub_table.proofs.All.{◌&&◌, ◌≡◌, ◌≢◌, ◌≤◌, ◌+◌, [], ◌∷◌, true, false, sym, ap, ◌∙◌, subst, arith, length, Entry, Phase, entry_of, has_entry, is_gone, TableState, connection_of, entries_of, with_socket, PassesOctets, Becomes, changes_one, entry_is, is_table, own_number, becomes_put, there_put, due_stays, each_of, config_of, ConfigValue, most_held, most_held_in, octets_of, can_drop, IsPuttable, octets_few, nat_lt, subst₂, CountsRinged, OffersOnce, there_by_phase, most_in, held_after, fits_inside}
use Rattle.hub_table.proofs.connections.Connections.put_frame.Given as given
use Rattle.hub_table.proofs.connections.Connections.put_frame.Goals as goal

pub put-requires-clause-there : goal.put-requires-clause-there
put-requires-clause-there g c = there_by_phase (entries_of c.self.inside.table.all) c.args.conn.0 (ap (λ (z : TableState). is_gone (entry_of z.entries c.args.conn.0).phase) c.self.view_is ∙ c.requires.present)

pub put-requires-clause-live : goal.put-requires-clause-live
put-requires-clause-live g c = ap ((g.N.Net.state c.args.out.now.net).live) (own_number c.self.inside.table.all c.args.conn.0 (there_by_phase (entries_of c.self.inside.table.all) c.args.conn.0 (ap (λ (z : TableState). is_gone (entry_of z.entries c.args.conn.0).phase) c.self.view_is ∙ c.requires.present))) ∙ c.requires.live

pub put-requires-clause-item : goal.put-requires-clause-item
put-requires-clause-item g c =
    subst (λ (z : Entry). IsPuttable (connection_of c.self.inside.table.all c.args.conn.0).socket.config z.numbered c.args.item) (ap (λ (z : TableState). entry_of z.entries c.args.conn.0) (sym c.self.view_is) ∙ entry_is c.self.inside.table.all c.args.conn.0)
    (subst (λ (z : ConfigValue). IsPuttable z (entry_of c.args.self.now.entries c.args.conn.0).numbered c.args.item) (sym (config_of c.self.inside.config c.self.inside.named c.self.inside.table.all c.args.conn.0 c.self.invariant.kept (there_by_phase (entries_of c.self.inside.table.all) c.args.conn.0 (ap (λ (z : TableState). is_gone (entry_of z.entries c.args.conn.0).phase) c.self.view_is ∙ c.requires.present)) ∙ ap (λ (z : TableState). z.config) c.self.view_is)) c.requires.item)

pub put-requires-clause-room : goal.put-requires-clause-room
put-requires-clause-room g c = λ whole.
    subst (λ (z : ConfigValue). length (connection_of c.self.inside.table.all c.args.conn.0).socket.ring + length (octets_of c.args.item) ≤ most_held z) (sym (config_of c.self.inside.config c.self.inside.named c.self.inside.table.all c.args.conn.0 c.self.invariant.kept (there_by_phase (entries_of c.self.inside.table.all) c.args.conn.0 (ap (λ (z : TableState). is_gone (entry_of z.entries c.args.conn.0).phase) c.self.view_is ∙ c.requires.present))))
    (let fits = fits_inside c.self.inside.config c.self.inside.named c.self.inside.table.all c.args.self.now c.args.conn.0 (length (octets_of c.args.item)) c.self.view_is (c.requires.room whole) in let most = most_in c.self.inside.config (connection_of c.self.inside.table.all c.args.conn.0).socket.phase in omega arith)

there : (g : given.Over) (c : goal.After-put g) → has_entry (entries_of c.self.inside.table.all) c.args.conn.0 ≡ true
there g c = there_by_phase (entries_of c.self.inside.table.all) c.args.conn.0 (ap (λ (z : TableState). is_gone (entry_of z.entries c.args.conn.0).phase) c.self.view_is ∙ c.requires.present)

-- the phase of the connection, which stays
phase : (g : given.Over) (c : goal.After-put g) → (connection_of c.put.new.self.all c.args.conn.0).socket.phase ≡ (entry_of c.args.self.now.entries c.args.conn.0).phase
phase g c = c.put.ensures.passes.phase ∙ sym (ap (λ (z : Entry). z.phase) (entry_is c.self.inside.table.all c.args.conn.0)) ∙ ap (λ (z : TableState). (entry_of z.entries c.args.conn.0).phase) c.self.view_is

became : (g : given.Over) (c : goal.After-put g) → Becomes c.self.inside.config c.self.inside.named c.args.conn.0 c.self.inside.table.all c.put.new.self.all (with_socket (connection_of c.self.inside.table.all c.args.conn.0) (connection_of c.put.new.self.all c.args.conn.0).socket)
became g c =
    let own = each_of c.self.inside.config c.self.inside.named c.self.inside.table.all c.args.conn.0 c.self.invariant.kept.each (there g c) in
    let passes = c.put.ensures.passes in
    let few : length (octets_of c.args.item) ≤ c.self.inside.config.max_message + 256 =
    subst (λ (z : TableState). length (octets_of c.args.item) ≤ z.config.max_message + 256) (sym c.self.view_is) (octets_few c.args.self.now.config (entry_of c.args.self.now.entries c.args.conn.0).numbered c.args.item c.requires.item) in
    let held = held_after c.self.inside.config (connection_of c.self.inside.table.all c.args.conn.0).socket.phase (connection_of c.self.inside.table.all c.args.conn.0).socket.config.limit (can_drop c.args.item) (octets_of c.args.item) (connection_of c.self.inside.table.all c.args.conn.0).socket.ring (connection_of c.put.new.self.all c.args.conn.0).socket.ring
    (ap (λ (z : ConfigValue). z.limit) own.config) few own.bound (λ whole. fits_inside c.self.inside.config c.self.inside.named c.self.inside.table.all c.args.self.now c.args.conn.0 (length (octets_of c.args.item)) c.self.view_is (c.requires.room whole)) passes.bound passes.limited in
    becomes_put c.args.conn.0 (connection_of c.put.new.self.all c.args.conn.0).socket c.self.invariant.kept (there g c)
    passes.conn_is passes.config passes.phase
    (λ h. absurd (c.requires.past_head (sym (phase g c) ∙ h)))
    (subst (λ (z : Phase). length (connection_of c.put.new.self.all c.args.conn.0).socket.ring ≤ most_held_in c.self.inside.config z) (sym passes.phase) held)
    (λ gone. absurd (let here = c.requires.present in let z : true ≡ false = sym gone ∙ ap is_gone (phase g c) ∙ here in cc))
    (λ none. absurd (let n = passes.numbered in omega arith)) c.put.ensures.all

pub invariant_of-self : goal.invariant_of-self
invariant_of-self g c = record { kept = (became g c).kept; room = c.put.ensures.room ∙ c.self.invariant.room }

-- the entry of the connection before and after the call, and the numbers of the server
was : (g : given.Over) (c : goal.After-put g) → (connection_of c.self.inside.table.all c.args.conn.0).socket ≡ entry_of c.args.self.now.entries c.args.conn.0
was g c = sym (entry_is c.self.inside.table.all c.args.conn.0) ∙ ap (λ (z : TableState). entry_of z.entries c.args.conn.0) c.self.view_is

now : (g : given.Over) (c : goal.After-put g) → (connection_of c.put.new.self.all c.args.conn.0).socket ≡ entry_of (entries_of c.put.new.self.all) c.args.conn.0
now g c = sym (entry_is c.put.new.self.all c.args.conn.0)

numbers : (g : given.Over) (c : goal.After-put g) → (connection_of c.self.inside.table.all c.args.conn.0).socket.config ≡ c.args.self.now.config
numbers g c = config_of c.self.inside.config c.self.inside.named c.self.inside.table.all c.args.conn.0 c.self.invariant.kept (there g c) ∙ ap (λ (z : TableState). z.config) c.self.view_is

pub returns-clause-passes : goal.returns-clause-passes
returns-clause-passes g c =
    subst (λ (z : ConfigValue). PassesOctets c.args.conn.0 z.limit (can_drop c.args.item) (octets_of c.args.item ∷ []) c.put.result (entry_of c.args.self.now.entries c.args.conn.0) (entry_of (entries_of c.put.new.self.all) c.args.conn.0) (g.N.Net.state c.args.out.now.net) (g.N.Net.state c.put.new.out.net) (g.W.Watch.told c.args.out.now.watch) (g.W.Watch.told c.put.new.out.watch)) (numbers g c)
    (subst₂ (λ (x y : Entry). PassesOctets c.args.conn.0 (connection_of c.self.inside.table.all c.args.conn.0).socket.config.limit (can_drop c.args.item) (octets_of c.args.item ∷ []) c.put.result x y (g.N.Net.state c.args.out.now.net) (g.N.Net.state c.put.new.out.net) (g.W.Watch.told c.args.out.now.watch) (g.W.Watch.told c.put.new.out.watch)) (was g c) (now g c) c.put.ensures.passes)

pub returns-clause-once : goal.returns-clause-once
returns-clause-once g c = subst₂ (λ (x y : Entry). x.ring ≡ [] → OffersOnce c.put.result c.args.conn.0 (octets_of c.args.item) y.ring (g.N.Net.state c.args.out.now.net) (g.N.Net.state c.put.new.out.net) (g.W.Watch.told c.args.out.now.watch) (g.W.Watch.told c.put.new.out.watch)) (was g c) (now g c) c.put.ensures.once

pub returns-clause-tally : goal.returns-clause-tally
returns-clause-tally g c = subst₂ (λ (x y : Entry). CountsRinged x.ring y.ring c.args.out.now.tally c.put.new.out.tally) (was g c) (now g c) c.put.ensures.tally

pub returns-clause-there : goal.returns-clause-there
returns-clause-there g c = there_put c.self.inside.table.all c.put.new.self.all c.args.conn.0 (with_socket (connection_of c.self.inside.table.all c.args.conn.0) (connection_of c.put.new.self.all c.args.conn.0).socket) (there g c) (c.put.ensures.passes.conn_is ∙ own_number c.self.inside.table.all c.args.conn.0 (there g c)) c.put.ensures.all

pub returns-clause-due : goal.returns-clause-due
returns-clause-due g c = rw (← c.self.view_is) (due_stays c.self.invariant.kept (became g c))

pub returns-clause-elsewhere : goal.returns-clause-elsewhere
returns-clause-elsewhere g c = rw (← c.self.view_is) (changes_one c.self.invariant.kept (became g c))

pub returns-clause-table : goal.returns-clause-table
returns-clause-table g c = is_table (became g c).kept

pub returns-clause-dropped : goal.returns-clause-dropped
returns-clause-dropped g c =
    c.put.ensures.dropped ∙ ap (λ (z : ConfigValue). can_drop c.args.item && nat_lt z.limit (length (connection_of c.self.inside.table.all c.args.conn.0).socket.ring)) (numbers g c)
    ∙ ap (λ (z : Entry). can_drop c.args.item && nat_lt c.args.self.now.config.limit (length z.ring)) (was g c)
