use Rattle.socket_core.proofs.All.{rules, refl, ◌≡◌, ◌≢◌, ◌<◌, ◌≤◌, ℕ, List, [], true, length, sym, ap, ◌∙◌, subst, arith, can_drop, octets_of, HandsOver, Bool, false, ◌&&◌, nat_lt, is_drop, and-false, passes_put, passes_dropped, noted_dropped, undropped_of, the_view, OffersOnce}
use Rattle.socket_core.proofs.socket.Socket.put_frame.Goals as goal
use Rattle.socket_core.proofs.socket.Socket.put_frame.Goals.{else-can_drop-via-then-can_drop+else-is_over, else-can_drop-via-else-can_drop}

pub returns-then-is_over-clause-passes : goal.returns-then-is_over-clause-passes
returns-then-is_over-clause-passes g c =
    let may : can_drop c.args.item ≡ true = search rules in
    let over : c.self.inside.config.limit < length c.self.inside.ring.octets = search rules in
    let held : c.ring_length-held.result ≡ length c.self.inside.ring.octets = search rules in
    rw (← c.self.view_is) (passes_dropped c.self.inside.conn.0 c.self.inside.config.limit c.saturating_add-self-inside.result c.ring_length-held.result (can_drop c.args.item) (octets_of c.args.item) (the_view c.self.inside) _ _ _ may c.saturating_add-self-inside.ensures held over c.note.ensures)

pub returns-then-is_over-clause-noted : goal.returns-then-is_over-clause-noted
returns-then-is_over-clause-noted g c = noted_dropped c.self.inside.conn.0 c.self.inside.numbered c.ring_length-held.result (g.N.Net.state c.args.out.now.net) _ _ c.note.ensures

pub returns-clause-passes : goal.returns-clause-passes
returns-clause-passes g c =
    let same : c.deref.result.now ≡ octets_of c.args.item = c.deref.ensures.value ∙ c.spell.ensures.octets in
    let under : can_drop c.args.item ≡ true → length c.self.inside.ring.octets ≤ c.self.inside.config.limit =
    elim c.else-can_drop.branch [
      | else-can_drop-via-then-can_drop+else-is_over w ↦ λ _. (let o = w.is_over in let f = w.if-is_over in search rules)
      | else-can_drop-via-else-can_drop w ↦ λ may. absurd (let f = w.if-can_drop in search rules)
    ] in
    let over : HandsOver c.self.inside.conn.0 c.hand_over.result (octets_of c.args.item) c.self.inside.ring c.hand_over.new.ring (g.N.Net.state c.args.out.now.net) (g.N.Net.state c.hand_over.new.out.net) (g.W.Watch.told c.args.out.now.watch) (g.W.Watch.told c.hand_over.new.out.watch) =
    subst (λ (z : List ℕ). HandsOver c.self.inside.conn.0 c.hand_over.result z c.self.inside.ring c.hand_over.new.ring (g.N.Net.state c.args.out.now.net) (g.N.Net.state c.hand_over.new.out.net) (g.W.Watch.told c.args.out.now.watch) (g.W.Watch.told c.hand_over.new.out.watch)) same c.hand_over.ensures.hands in
    rw (← c.self.view_is) (passes_put c.self.inside.conn.0 c.self.inside.config.limit c.saturating_add-self-inside.result (can_drop c.args.item) c.hand_over.result (octets_of c.args.item) (the_view c.self.inside) c.self.inside.ring c.hand_over.new.ring _ _ _ _ refl c.saturating_add-self-inside.ensures under over)

pub returns-clause-dropped : goal.returns-clause-dropped
returns-clause-dropped g c =
    let none : is_drop c.hand_over.result ≡ false = undropped_of c.hand_over.result c.hand_over.new.ring.octets c.hand_over.ensures.hands.kept in
    let may : (can_drop c.args.item && nat_lt c.self.inside.config.limit (length c.self.inside.ring.octets)) ≡ false =
    elim c.else-can_drop.branch [
      | else-can_drop-via-then-can_drop+else-is_over w ↦ (let o = w.is_over in let f = w.if-is_over in let over : nat_lt c.self.inside.config.limit (length c.self.inside.ring.octets) ≡ false = search rules in
          ap (λ (z : Bool). can_drop c.args.item && z) over ∙ and-false (can_drop c.args.item))
      | else-can_drop-via-else-can_drop w ↦ (let f = w.if-can_drop in let not : can_drop c.args.item ≡ false = search rules in
          ap (λ (z : Bool). z && nat_lt c.self.inside.config.limit (length c.self.inside.ring.octets)) not)
    ] in
    rw (← c.self.view_is) (none ∙ sym may)

pub returns-clause-once : goal.returns-clause-once
returns-clause-once g c =
    let same : c.deref.result.now ≡ octets_of c.args.item = c.deref.ensures.value ∙ c.spell.ensures.octets in
    rw (← c.self.view_is) (λ none. subst (λ (z : List ℕ). OffersOnce c.hand_over.result c.self.inside.conn.0 z c.hand_over.new.ring.octets (g.N.Net.state c.args.out.now.net) (g.N.Net.state c.hand_over.new.out.net) (g.W.Watch.told c.args.out.now.watch) (g.W.Watch.told c.hand_over.new.out.watch)) same (c.hand_over.ensures.once none))
