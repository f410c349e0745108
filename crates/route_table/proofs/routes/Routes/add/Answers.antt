use Rattle.route_table.proofs.All.{rules, ◌≡◌, ◌+◌, length, arith, subst, AllRows, IsRow, inserted_rows}
use Rattle.route_table.proofs.routes.Routes.add.Goals as goal

-- the new row is the one that the pattern reads as, with the next number
pub invariant_of-self-in-Ok : goal.invariant_of-self-in-Ok
invariant_of-self-in-Ok c =
    let number : length c.self.inside.protocols.items ≡ c.len-number.result = search rules in
    let size : c.len-number.result + 1 ≡ length c.push_reserved.new.self.items = search rules in
    let rows = inserted_rows c.len-number.result c.args.pattern.now c.self.inside.router c.insert.new.self _ c.type_inv.pattern c.utf8.pattern (subst (λ z. AllRows (IsRow z) c.self.inside.router) number c.self.invariant.rows_hold) c.in-Ok.ensures in
    record { bound = omega arith; rows_hold = subst (λ z. AllRows (IsRow z) c.insert.new.self) size rows }
