use Rattle.mem_net.proofs.All.{refl, sym, ap, length, read_at}
use Rattle.link_trait.specs.declared.act.Act.TheVariants as act
use Rattle.mem_net.proofs.mem_net.MemNet.step.Goals as goal

pub arrive-requires-clause-act : goal.arrive-requires-clause-act
arrive-requires-clause-act c = rw (← c.self.view_is) (read_at c.self.inside.schedule c.acts.result.now c.self.inside.done c.index-acts-self.result (act.Arrive c.in-Arrive.conn c.in-Arrive.credit) c.acts.ensures (rw (← c.self.view_is) at c.requires.more) c.index-acts-self.is c.in-Arrive.is)

pub come-requires-clause-act : goal.come-requires-clause-act
come-requires-clause-act c =
    let at = read_at c.self.inside.schedule c.acts.result.now c.self.inside.done c.index-acts-self.result (act.Octets c.in-Octets.conn c.in-Octets.octets) c.acts.ensures (rw (← c.self.view_is) at c.requires.more) c.index-acts-self.is c.in-Octets.is in
    rw (← c.self.view_is) (act.Octets c.in-Octets.conn c.in-Octets.octets, at, (refl, ap length (sym c.octets-count.ensures)))

pub finish-requires-clause-act : goal.finish-requires-clause-act
finish-requires-clause-act c =
    let at = read_at c.self.inside.schedule c.acts.result.now c.self.inside.done c.index-acts-self.result (act.End c.in-End.conn) c.acts.ensures (rw (← c.self.view_is) at c.requires.more) c.index-acts-self.is c.in-End.is in
    rw (← c.self.view_is) (act.End c.in-End.conn, at, (refl, refl))

pub finish-requires-in-ReadFails-clause-act : goal.finish-requires-in-ReadFails-clause-act
finish-requires-in-ReadFails-clause-act c =
    let at = read_at c.self.inside.schedule c.acts.result.now c.self.inside.done c.index-acts-self.result (act.ReadFails c.in-ReadFails.conn) c.acts.ensures (rw (← c.self.view_is) at c.requires.more) c.index-acts-self.is c.in-ReadFails.is in
    rw (← c.self.view_is) (act.ReadFails c.in-ReadFails.conn, at, (refl, refl))

pub change-requires-clause-act : goal.change-requires-clause-act
change-requires-clause-act c =
    let at = read_at c.self.inside.schedule c.acts.result.now c.self.inside.done c.index-acts-self.result (act.Room c.in-Room.conn c.in-Room.more) c.acts.ensures (rw (← c.self.view_is) at c.requires.more) c.index-acts-self.is c.in-Room.is in
    rw (← c.self.view_is) (act.Room c.in-Room.conn c.in-Room.more, at, (refl, refl))

pub change-requires-in-WriteFails-clause-act : goal.change-requires-in-WriteFails-clause-act
change-requires-in-WriteFails-clause-act c =
    let at = read_at c.self.inside.schedule c.acts.result.now c.self.inside.done c.index-acts-self.result (act.WriteFails c.in-WriteFails.conn) c.acts.ensures (rw (← c.self.view_is) at c.requires.more) c.index-acts-self.is c.in-WriteFails.is in
    rw (← c.self.view_is) (act.WriteFails c.in-WriteFails.conn, at, (refl, refl))

pub tick-requires-clause-act : goal.tick-requires-clause-act
tick-requires-clause-act c = rw (← c.self.view_is) (read_at c.self.inside.schedule c.acts.result.now c.self.inside.done c.index-acts-self.result (act.Tick) c.acts.ensures (rw (← c.self.view_is) at c.requires.more) c.index-acts-self.is c.in-Tick.is)

pub turn-requires-clause-act : goal.turn-requires-clause-act
turn-requires-clause-act c = rw (← c.self.view_is) (read_at c.self.inside.schedule c.acts.result.now c.self.inside.done c.index-acts-self.result (act.Turn) c.acts.ensures (rw (← c.self.view_is) at c.requires.more) c.index-acts-self.is c.in-Turn.is)
