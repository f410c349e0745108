use Rattle.run_laws.proofs.All.{None, subst, Step, Ping, HasStepped, events_of, reader_view, step_is_read, frames_read}
use Rattle.run_laws.proofs.tests.is_ping.Goals as goal

pub returns-in-Ping : goal.returns-in-Ping
returns-in-Ping c = λ is table max heard octets h.
    let old = c.args.reader.now in
    let new = c.next.follows.lender-at-none in
    let it = Ping c.in-Ping.field-0 in (
      c.in-Ping.field-0.now,
      frames_read table max None heard octets (events_of it) (reader_view old) (reader_view new) h (step_is_read old new it (subst (λ (s : Step). HasStepped old s new) c.in-Ping.is c.next.follows.holds-at-none)),
    )
