use Rattle.socket_core.proofs.All.{rules, refl, ◌≡◌, ◌≢◌, ◌<◌, ◌≤◌, ◌++◌, ◌^◌, ℕ, List, [], length, sym, ap, ◌∙◌, subst, arith, Hands, Clear, Failed, RingValue, drop, hands_for, nil_from_length, passes_left, passes_none, the_view}
use Rattle.socket_core.proofs.socket.Socket.writable.Goals as goal

pub returns-then-length-eq0-clause-passes : goal.returns-then-length-eq0-clause-passes
returns-then-length-eq0-clause-passes g c =
    let few : c.self.inside.numbered < 2 ^ 64 = search rules in
    let empty : c.self.inside.ring.octets ≡ [] = nil_from_length c.self.inside.ring.octets (search rules) in
    rw (← c.self.view_is) (passes_none c.self.inside.conn.0 c.self.inside.config.limit (the_view c.self.inside) (g.N.Net.state c.args.out.now.net) (g.W.Watch.told c.args.out.now.watch) few empty)

pub returns-in-None-clause-passes : goal.returns-in-None-clause-passes
returns-in-None-clause-passes g c =
    let few : c.self.inside.numbered < 2 ^ 64 = search rules in
    let failed : Hands c.self.inside.conn.0 Failed [] c.self.inside.ring.octets c.self.inside.ring.octets (g.N.Net.state c.args.out.now.net) (g.N.Net.state c.offer_parts.new.out.net) (g.W.Watch.told c.args.out.now.watch) (g.W.Watch.told c.offer_parts.new.out.watch) =
    subst (λ (z : List ℕ). Hands c.self.inside.conn.0 Failed [] z z (g.N.Net.state c.args.out.now.net) (g.N.Net.state c.offer_parts.new.out.net) (g.W.Watch.told c.args.out.now.watch) (g.W.Watch.told c.offer_parts.new.out.watch)) c.parts.ensures c.in-None.ensures.parts in
    rw (← c.self.view_is) (passes_left c.self.inside.conn.0 c.self.inside.config.limit Failed (the_view c.self.inside) c.self.inside.ring.octets _ _ _ _ few refl (tt {0}) failed)

pub returns-clause-passes : goal.returns-clause-passes
returns-clause-passes g c =
    let few : c.self.inside.numbered < 2 ^ 64 = search rules in
    let left : drop c.in-Some.count c.self.inside.ring.octets ≡ c.gone.new.self.octets = sym (ap (λ (z : RingValue). z.octets) c.gone.ensures) in
    let taken : Hands c.self.inside.conn.0 Clear [] c.self.inside.ring.octets (drop c.in-Some.count c.self.inside.ring.octets) (g.N.Net.state c.args.out.now.net) (g.N.Net.state c.offer_parts.new.out.net) (g.W.Watch.told c.args.out.now.watch) (g.W.Watch.told c.offer_parts.new.out.watch) =
    subst (λ (z : List ℕ). Hands c.self.inside.conn.0 Clear [] z (drop c.in-Some.count z) (g.N.Net.state c.args.out.now.net) (g.N.Net.state c.offer_parts.new.out.net) (g.W.Watch.told c.args.out.now.watch) (g.W.Watch.told c.offer_parts.new.out.watch)) c.parts.ensures c.in-Some.ensures.parts.2 in
    let hands : Hands c.self.inside.conn.0 c.kept.result [] c.self.inside.ring.octets c.gone.new.self.octets (g.N.Net.state c.args.out.now.net) (g.N.Net.state c.offer_parts.new.out.net) (g.W.Watch.told c.args.out.now.watch) (g.W.Watch.told c.offer_parts.new.out.watch) =
    subst (λ (z : List ℕ). Hands c.self.inside.conn.0 c.kept.result [] c.self.inside.ring.octets z (g.N.Net.state c.args.out.now.net) (g.N.Net.state c.offer_parts.new.out.net) (g.W.Watch.told c.args.out.now.watch) (g.W.Watch.told c.offer_parts.new.out.watch)) left (hands_for c.kept.result c.kept.ensures.whole taken) in
    rw (← c.self.view_is) (passes_left c.self.inside.conn.0 c.self.inside.config.limit c.kept.result (the_view c.self.inside) c.gone.new.self.octets _ _ _ _ few c.kept.ensures.undropped (c.kept.ensures.tells c.self.inside.config.limit) hands)
