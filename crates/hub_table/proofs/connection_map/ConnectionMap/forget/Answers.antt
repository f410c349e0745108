use Rattle.hub_table.proofs.All.{◌≡◌, ◌+◌, ℕ, Some, Option, is_some, if◌then◌else◌, length, sym, ap, ◌∙◌, unwrap_or, has_entry, Connection, no_connection, entries_of, without, ConnectionMapState, listed, IsIndexed, has_key, under_key, stored_of, index_removed}
use Rattle.hub_table.proofs.connection_map.ConnectionMap.forget.Goals as goal

pub key_of-key-requires : goal.key_of-key-requires
key_of-key-requires c = has_key c.self.invariant c.args.conn.0 (ap (λ (z : ConnectionMapState). has_entry (entries_of z.all) c.args.conn.0) c.self.view_is ∙ c.requires)

pub remove-requires-2 : goal.remove-requires-2
remove-requires-2 c = under_key c.self.invariant c.args.conn.0 c.key_of-key.ensures

now : (c : goal.After-drop-remove-2) → IsIndexed c.remove-2.new.self c.remove.new.self.entries c.mark.new.self c.mark-2.new.self
    × (listed c.remove-2.new.self c.remove.new.self.entries ≡ without (listed c.self.inside.connections c.self.inside.keys.entries) c.args.conn.0)
now c =
    let gone : c.remove.result ≡ Some c.key_of-key.result = c.remove.ensures.value ∙ c.key_of-key.ensures in
    index_removed c.self.invariant c.args.conn.0 c.key_of-key.ensures c.remove-2.ensures.updates c.remove-2.ensures.len c.remove-2.ensures.capacity c.remove.ensures.entries
    (sym (ap (λ (o : Option ℕ). length c.remove.new.self.entries + (if is_some o then 1 else 0)) gone) ∙ c.remove.ensures.len)
    c.mark.ensures.numbers c.mark.ensures.room c.mark-2.ensures.numbers c.mark-2.ensures.room

pub invariant_of-self : goal.invariant_of-self
invariant_of-self c = (now c).0

pub returns-clause-all : goal.returns-clause-all
returns-clause-all c = rw (← c.self.view_is) (now c).1

pub returns-clause-value : goal.returns-clause-value
returns-clause-value c = rw (← c.self.view_is) (ap (λ (o : Option Connection). (unwrap_or o no_connection).closed) (sym c.remove-2.ensures.value) ∙ ap (λ (z : Connection). z.closed) (stored_of c.self.invariant c.args.conn.0 c.key_of-key.ensures))
