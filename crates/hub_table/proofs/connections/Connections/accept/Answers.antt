use Rattle.hub_table.proofs.All.{◌≡◌, ◌<◌, ◌∷◌, ◌++◌, [], None, length, sym, ap, ◌∙◌, subst, arith, Entry, new_entry, TableState, IsTable, entries_of, AreKept, table_state, is_table, length_entries, above_all, becomes_added, state_added}
use Rattle.hub_table.proofs.connections.Connections.accept.Goals as goal

pub add-requires-clause-above : goal.add-requires-clause-above
add-requires-clause-above c = λ n there.
    let new : c.self.inside.named < c.args.conn.0 = subst (λ (z : TableState). z.named < c.args.conn.0) (sym c.self.view_is) c.requires.new in
    subst (λ (z : Entry). n < z.conn) (sym c.in_ok-socket.ensures) (above_all c.self.inside.config c.self.inside.named c.args.conn.0 c.self.inside.table.all c.self.invariant.kept new n there)

pub add-requires-clause-room : goal.add-requires-clause-room
add-requires-clause-room c =
    let room = subst (λ (z : TableState). length z.entries < z.config.max_conns) (sym c.self.view_is) c.requires.room in
    let size = length_entries c.self.inside.table.all in let same = c.self.invariant.room in omega arith

added : (c : goal.After-self-1) → c.add.new.self.all ≡ c.self.inside.table.all ++ (record { socket = new_entry c.self.inside.config c.args.conn.0; closed = None }) ∷ []
added c = c.in_ok-add.ensures.all ∙ ap (λ (z : Entry). c.self.inside.table.all ++ (record { socket = z; closed = None }) ∷ []) c.in_ok-socket.ensures

kept : (c : goal.After-self-1) → AreKept c.self.inside.config c.args.conn.0 c.add.new.self.all
kept c =
    let new : c.self.inside.named < c.args.conn.0 = subst (λ (z : TableState). z.named < c.args.conn.0) (sym c.self.view_is) c.requires.new in
    let room : length (entries_of c.self.inside.table.all) < c.self.inside.config.max_conns = subst (λ (z : TableState). length z.entries < z.config.max_conns) (sym c.self.view_is) c.requires.room in
    becomes_added c.args.conn.0 c.self.invariant.kept new room (added c)

pub invariant_of-self-2 : goal.invariant_of-self-2
invariant_of-self-2 c = record { kept = kept c; room = c.in_ok-add.ensures.room ∙ c.self.invariant.room }

pub returns-clause-accepted : goal.returns-clause-accepted
returns-clause-accepted c = rw (← c.self.view_is) (state_added c.self.inside.config c.args.conn.0 c.self.inside.table.all c.add.new.self.all (new_entry c.self.inside.config c.args.conn.0) (added c))

pub returns-clause-table : goal.returns-clause-table
returns-clause-table c = is_table (kept c)

pub returns-in_err-socket-clause-table : goal.returns-in_err-socket-clause-table
returns-in_err-socket-clause-table c = rw (← c.self.view_is) (is_table c.self.invariant.kept)

pub returns-in_err-add-clause-table : goal.returns-in_err-add-clause-table
returns-in_err-add-clause-table c =
    subst (λ z. IsTable (table_state c.self.inside.config c.self.inside.named z)) (sym c.in_err-add.ensures.all) (is_table c.self.invariant.kept)
