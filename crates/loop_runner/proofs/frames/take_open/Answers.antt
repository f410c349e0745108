use Rattle.loop_runner.proofs.All.{admits, List, refl, ap, subst, Open, events_of, has_frames, of_here, Event, IsRead, beginning, keep_more, keep_message, keep_ping, keep_pong, keep_close, keep_failed, ends_reading, steps_sends, steps_notes, Every, steps_same}
use Rattle.loop_runner.proofs.frames.take_open.Goals as goal

pub returns-in-Ping-clause-steps : goal.returns-in-Ping-clause-steps
returns-in-Ping-clause-steps g c = steps_sends _ _ c.ping_got.ensures refl

pub returns-in-Pong-clause-steps : goal.returns-in-Pong-clause-steps
returns-in-Pong-clause-steps g c = steps_notes _ _ c.pong_got.ensures refl

pub returns-in-Close-clause-steps : goal.returns-in-Close-clause-steps
returns-in-Close-clause-steps g c = steps_sends _ _ c.peer_close.ensures refl

pub returns-in-Close-clause-last : goal.returns-in-Close-clause-last
returns-in-Close-clause-last g c last = ends_reading _ _ _ _ _ c.peer_close.ensures (of_here c.args.conn.0) Open c.requires.phase refl refl

pub returns-in-Failed-clause-steps : goal.returns-in-Failed-clause-steps
returns-in-Failed-clause-steps g c = steps_sends _ _ c.failed.ensures refl

pub returns-in-Failed-clause-last : goal.returns-in-Failed-clause-last
returns-in-Failed-clause-last g c last = ends_reading _ _ _ _ _ c.failed.ensures (of_here c.args.conn.0) Open c.requires.phase refl refl

pub returns-in-More-clause-kept : goal.returns-in-More-clause-kept
returns-in-More-clause-kept g c = λ table before after reads start config.
    keep_more (beginning g.H.Handler (admits c.args.guard.now.rule) start config table) c.args.conn.0 c.args.route c.args.param.now before after _ _ (ap has_frames c.requires.phase) (subst (λ (z : List Event). IsRead before z after) (ap events_of c.in-More.is) reads)

pub returns-in-Message-clause-kept : goal.returns-in-Message-clause-kept
returns-in-Message-clause-kept g c = λ table before after reads start config.
    let gives = c.give_message.ensures.gives in
    keep_message (beginning g.H.Handler (admits c.args.guard.now.rule) start config table) c.args.conn.0 c.args.route c.args.param.now before after _ _ c.in-Message.kind c.in-Message.body.now _ _ gives.told _ refl c.requires.phase
    (subst (λ (z : List Event). IsRead before z after) (ap events_of c.in-Message.is) reads) gives.noted gives.state gives.served c.give_message.ensures.table

pub returns-in-Ping-clause-kept : goal.returns-in-Ping-clause-kept
returns-in-Ping-clause-kept g c = λ table before after reads start config.
    keep_ping (beginning g.H.Handler (admits c.args.guard.now.rule) start config table) c.args.conn.0 c.args.route c.args.param.now before after _ _ c.in-Ping.body.now _ c.requires.phase
    (subst (λ (z : List Event). IsRead before z after) (ap events_of c.in-Ping.is) reads) c.ping_got.ensures

pub returns-in-Pong-clause-kept : goal.returns-in-Pong-clause-kept
returns-in-Pong-clause-kept g c = λ table before after reads start config.
    keep_pong (beginning g.H.Handler (admits c.args.guard.now.rule) start config table) c.args.conn.0 c.args.route c.args.param.now before after _ _ c.in-Pong.body.now _ c.requires.phase
    (subst (λ (z : List Event). IsRead before z after) (ap events_of c.in-Pong.is) reads) c.pong_got.ensures

pub returns-in-Close-clause-kept : goal.returns-in-Close-clause-kept
returns-in-Close-clause-kept g c = λ table before after reads start config.
    keep_close (beginning g.H.Handler (admits c.args.guard.now.rule) start config table) c.args.conn.0 c.args.route c.args.param.now before after _ _ c.in-Close.code c.in-Close.reason.now _ (ap has_frames c.requires.phase)
    (subst (λ (z : List Event). IsRead before z after) (ap events_of c.in-Close.is) reads) c.peer_close.ensures

pub returns-in-Failed-clause-kept : goal.returns-in-Failed-clause-kept
returns-in-Failed-clause-kept g c = λ table before after reads start config.
    keep_failed (beginning g.H.Handler (admits c.args.guard.now.rule) start config table) c.args.conn.0 c.args.route c.args.param.now before after _ _ c.in-Failed.code _ (ap has_frames c.requires.phase)
    (subst (λ (z : List Event). IsRead before z after) (ap events_of c.in-Failed.is) reads) c.failed.ensures

pub returns-in-More-clause-steps : goal.returns-in-More-clause-steps
returns-in-More-clause-steps g c = steps_same Every _
