use Rattle.hub_core.proofs.All.{◌≡◌, Some, rules, Ending, entry_at, phase_at, ending_shown, offers_finished, offers_only}
use Rattle.hub_core.proofs.hub.Hub.writable.Goals as goal

pub returns-then-eq : goal.returns-then-eq
returns-then-eq g c =
    let ending : (entry_at c.offer.new.self c.args.conn.0).phase ≡ Ending = search rules in
    let e = c.finish.ensures in
    offers_finished c.offer.ensures ending e.ties e.elsewhere e.named e.table e.finishes

pub returns-else-eq : goal.returns-else-eq
returns-else-eq g c =
    let still : phase_at c.offer.new.self c.args.conn.0 ≡ Some Ending → ⊥ = search rules in
    offers_only c.offer.ensures (λ ending. absurd (still (ending_shown c.offer.new.self c.args.conn.0 ending)))
