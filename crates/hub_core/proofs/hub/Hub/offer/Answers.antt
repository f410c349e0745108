use Rattle.hub_core.proofs.All.{◌≡◌, ◌≢◌, false, rules, subst, length, Server, server, entry_at, ring_at, is_gone, IsTable, table_of, Kept, Failed, falsely, OffersRing, no_octets, offers_broken, offers_none, offers_whole}
use Rattle.hub_core.proofs.hub.Hub.offer.Goals as goal

pub returns-then-held-eq0 : goal.returns-then-held-eq0
returns-then-held-eq0 g c =
    let none : length (ring_at c.args.self.now c.args.conn.0) ≡ 0 = search rules in
    let table : IsTable (table_of c.args.self.now) = search rules in
    offers_none (server c.args.self.now (g.N.Net.state c.args.out.now.net) (g.W.Watch.told c.args.out.now.watch)) (no_octets (ring_at c.args.self.now c.args.conn.0) none) c.requires.ties table

pub returns-else-eq : goal.returns-else-eq
returns-else-eq g c =
    let well : c.offer_ring-kept.result ≢ Failed = search rules in
    offers_whole c.offer_ring-kept.ensures (falsely (is_gone (entry_at c.args.self.now c.args.conn.0).phase) c.requires.present) well c.requires.ties

pub returns-then-eq : goal.returns-then-eq
returns-then-eq g c =
    let broken : c.offer_ring-kept.result ≡ Failed = search rules in
    let old : Server = server c.args.self.now (g.N.Net.state c.args.out.now.net) (g.W.Watch.told c.args.out.now.watch) in
    let mid : Server = server c.offer_ring-kept.new.self (g.N.Net.state c.offer_ring-kept.new.out.net) (g.W.Watch.told c.offer_ring-kept.new.out.watch) in
    let x : OffersRing c.args.conn.0 Failed old mid = subst (λ (z : Kept). OffersRing c.args.conn.0 z old mid) broken c.offer_ring-kept.ensures in
    offers_broken x c.leave.ensures (falsely (is_gone (entry_at c.args.self.now c.args.conn.0).phase) c.requires.present) c.requires.ties
