use Rattle.hub_core.proofs.All.{◌≡◌, true, false, rules, refl, failed, close_item, is_open, phase_at, only, notices_ends, end_failed, sends_noted, sends_nothing, sends_served, sends_unserved, of_here, of_other}
use Rattle.hub_core.proofs.hub.Hub.failed.Goals as goal

pub returns-then-was_open : goal.returns-then-was_open
returns-then-was_open g c =
    let was_open : is_open (phase_at c.args.self.now c.args.conn.0) ≡ true = search rules in
    sends_served (is_open (phase_at c.args.self.now c.args.conn.0)) was_open (sends_noted
    (notices_ends c.end-was_open.ensures c.requires.phase (failed c.args.conn.0 c.args.code) (end_failed c.args.conn.0 c.args.code) (g.N.Net.state c.args.out.now.net) (g.W.Watch.told c.args.out.now.watch) (g.W.Watch.told c.note.new.self) c.note.ensures refl (λ d. refl)
    (λ d ne. of_other c.args.conn.0 d ne) (of_here c.args.conn.0) (λ d t. refl))
    c.put_close.ensures)

pub returns-else-was_open : goal.returns-else-was_open
returns-else-was_open g c =
    let closed : is_open (phase_at c.args.self.now c.args.conn.0) ≡ false = search rules in
    sends_unserved (only c.args.conn.0 (close_item c.args.code)) (is_open (phase_at c.args.self.now c.args.conn.0)) closed (sends_nothing
    (notices_ends c.end-was_open.ensures c.requires.phase (failed c.args.conn.0 c.args.code) (end_failed c.args.conn.0 c.args.code) (g.N.Net.state c.args.out.now.net) (g.W.Watch.told c.args.out.now.watch) (g.W.Watch.told c.note.new.self) c.note.ensures refl (λ d. refl)
    (λ d ne. of_other c.args.conn.0 d ne) (of_here c.args.conn.0) (λ d t. refl))
    c.requires.ties c.end-was_open.ensures.table)
