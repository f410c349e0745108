use Rattle.run_laws.proofs.All.{◌++◌, map, None, refl, subst, Step, Close, HasStepped, events_of, read, reader_view, step_is_read, frames_read, frames_end}
use Rattle.run_laws.proofs.tests.is_close.Goals as goal

pub returns-in-Close : goal.returns-in-Close
returns-in-Close c = λ is table max heard octets h.
    let old = c.args.reader.now in
    let new = c.next.follows.lender-at-none in
    let it = Close c.in-Close.field-0 c.in-Close.field-1 in
    let told = step_is_read old new it (subst (λ (s : Step). HasStepped old s new) c.in-Close.is c.next.follows.holds-at-none) in (
      c.in-Close.field-0,
      c.in-Close.field-1.now,
      frames_end table max None (heard ++ map read (events_of it)) octets (reader_view new) (frames_read table max None heard octets (events_of it) (reader_view old) (reader_view new) h told) (told.none refl),
    )
