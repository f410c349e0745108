use Rattle.socket_core.proofs.All.{rules, ◌≡◌, ◌<◌, ℕ, List, length, ap, ◌∙◌, with_octets, over_kept, over_took, over_all, over_failed, some_is, none_is, rest_of}
use Rattle.socket_core.proofs.offering.hand_over.Goals as goal

pub returns-then-length-gt0-clause-hands : goal.returns-then-length-gt0-clause-hands
returns-then-length-gt0-clause-hands g c =
    let some : 0 < length c.args.ring.now.octets = search rules in
    over_kept c.args.conn.0 c.kept.result c.args.octets.now c.args.ring.now c.put.new.self _ _ c.kept.ensures.whole c.kept.ensures.tells (some_is c.args.ring.now.octets some) c.put.ensures.octets

pub returns-in-None-clause-hands : goal.returns-in-None-clause-hands
returns-in-None-clause-hands g c =
    let none : length c.args.ring.now.octets ≡ 0 = search rules in
    over_failed c.args.conn.0 c.args.octets.now c.args.ring.now _ _ _ _ (none_is c.args.ring.now.octets none) c.in-None.ensures.offers

pub returns-then-count-octets-clause-hands : goal.returns-then-count-octets-clause-hands
returns-then-count-octets-clause-hands g c =
    let none : length c.args.ring.now.octets ≡ 0 = search rules in
    let all : c.in-Some.count ≡ length c.args.octets.now = search rules in
    over_all c.args.conn.0 c.in-Some.count c.args.octets.now c.args.ring.now _ _ _ _ (none_is c.args.ring.now.octets none) all c.in-Some.ensures.offers

pub returns-clause-hands : goal.returns-clause-hands
returns-clause-hands g c =
    let none : length c.args.ring.now.octets ≡ 0 = search rules in
    over_took c.args.conn.0 c.in-Some.count c.kept-2.result c.args.octets.now c.args.ring.now c.put-2.new.self _ _ _ _ c.kept-2.ensures.whole c.kept-2.ensures.tells (none_is c.args.ring.now.octets none)
    (c.put-2.ensures.octets ∙ ap (λ (z : List ℕ). with_octets z c.args.ring.now) (rest_of c.in-Some.count c.args.octets.now)) c.in-Some.ensures.offers
