use Rattle.route_table.proofs.All.{IsUtf8, subst, sym, arith, length-map, first_value, walk, found_row}
use Rattle.route_table.proofs.routes.Routes.find.Goals as goal

-- what the first parameter took is text, so that `matchit` shows it as it is
pub first_of-value-requires : goal.first_of-value-requires
first_of-value-requires c =
    let row = found_row _ c.self.inside.router c.args.path.now _ c.self.invariant.rows_hold c.type_inv.path c.utf8.path c.in-Ok.ensures.found in
    subst (λ z. IsUtf8 (first_value (walk c.in-Ok.matched.params.pattern.now c.in-Ok.matched.params.text.now z c.in-Ok.matched.params.names.now 0 0))) (sym c.in-Ok.ensures.path) row.1

-- the route is a row's
pub returns-clause-in_table : goal.returns-clause-in_table
returns-clause-in_table c =
    let row = found_row _ c.self.inside.router c.args.path.now _ c.self.invariant.rows_hold c.type_inv.path c.utf8.path c.in-Ok.ensures.found in
    rw (← c.self.view_is) (omega (arith, length-map c.self.inside.protocols.items (λ name. name.items), row.0))
