use Rattle.schedule_text.proofs.Followed.{rising_none, rising_some}
use Rattle.schedule_text.proofs.arrivals.Arrivals.rising_fault.Goals as goal

pub returns-then-self-conn : goal.returns-then-self-conn
returns-then-self-conn c = λ acts one follows. rising_none acts c.args.self.now c.args.conn.0 one follows c.if-self-conn.true

pub returns : goal.returns
returns c = λ acts one follows. rising_some acts c.args.self.now c.args.conn.0 one follows c.if-self-conn.false
