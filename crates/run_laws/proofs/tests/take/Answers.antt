use Rattle.run_laws.proofs.All.{reader_view, head_fed, frames_fed}
use Rattle.run_laws.proofs.tests.take.Goals as goal

pub returns-clause-head : goal.returns-clause-head
returns-clause-head c = λ fits max heard before h. head_fed max heard before c.args.octets.now (reader_view c.args.reader.now) (reader_view c.feed.new.self) h
    (record { raw = c.feed.ensures.raw; unread = c.feed.ensures.unread; max = c.feed.ensures.max; ahead = c.feed.ensures.ahead })

pub returns-clause-frames : goal.returns-clause-frames
returns-clause-frames c = λ fits table max last heard before h. frames_fed table max last heard before c.args.octets.now (reader_view c.args.reader.now) (reader_view c.feed.new.self) h
    (record { raw = c.feed.ensures.raw; unread = c.feed.ensures.unread; max = c.feed.ensures.max; ahead = c.feed.ensures.ahead })
