use Rattle.hub_table.proofs.All.{◌≡◌, ◌<◌, ◌++◌, ◌∷◌, [], ℕ, Some, None, length, refl, arith, sym, ap, ◌∙◌, subst, Updates, has_entry, entries_of, ConnectionMapState, listed, IsIndexed, length_listed, index_added}
use Rattle.hub_table.proofs.connection_map.ConnectionMap.add.Goals as goal

pub insert_reserved-requires : goal.insert_reserved-requires
insert_reserved-requires c =
    let room = subst (λ (z : ConnectionMapState). length z.all < z.room) (sym c.self.view_is) c.requires.room in
    let size = length_listed c.self.inside.connections c.self.inside.keys.entries in
    let count = c.self.invariant.count in let slots = c.self.invariant.slots in omega arith

now : (c : goal.After-insert_reserved) → IsIndexed c.insert_reserved.new.self c.insert.new.self.entries c.self.inside.due c.self.inside.ending
    × (listed c.insert_reserved.new.self c.insert.new.self.entries ≡ listed c.self.inside.connections c.self.inside.keys.entries ++ record { socket = c.args.socket; closed = None } ∷ [])
now c =
    let own : c.conn.result.0 ≡ c.args.socket.conn = c.conn.ensures in
    let key : c.insert_reserved.result ≡ c.vacant_key-key.result = c.insert_reserved.ensures.key ∙ sym c.vacant_key-key.ensures.value in
    index_added c.self.invariant c.conn.result.0 c.vacant_key-key.result (record { socket = c.args.socket; closed = None }) c.vacant_key-key.ensures.vacant
    (subst (λ (k : ℕ). Updates c.self.inside.connections c.insert_reserved.new.self k (Some (record { socket = c.args.socket; closed = None }))) key c.insert_reserved.ensures.updates)
    c.insert_reserved.ensures.len c.insert_reserved.ensures.capacity c.in-Ok.ensures.entries
    (λ n there. let l = c.requires.above n (sym (ap (λ (z : ConnectionMapState). has_entry (entries_of z.all) n) c.self.view_is) ∙ there) in omega arith)
    (subst (λ (z : ConnectionMapState). length z.all < z.room) (sym c.self.view_is) c.requires.room)
    (sym own) refl c.requires.fresh

pub invariant_of-self : goal.invariant_of-self
invariant_of-self c = (now c).0

pub returns-in-Ok-clause-all : goal.returns-in-Ok-clause-all
returns-in-Ok-clause-all c = rw (← c.self.view_is) (now c).1
