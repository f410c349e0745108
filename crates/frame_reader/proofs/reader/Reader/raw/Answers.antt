use Rattle.frame_reader.proofs.RawLemmas.{room_and_raw, unread_ahead}
use Rattle.frame_reader.proofs.reader.Reader.raw.Goals as goal

pub returns-clause-room : goal.returns-clause-room
returns-clause-room c = room_and_raw c.args.self.now

pub returns-clause-unread : goal.returns-clause-unread
returns-clause-unread c = unread_ahead c.args.self.now
