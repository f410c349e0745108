use Rattle.ws_program.proofs.ReplayLemmas.{can_run}
use Rattle.ws_program.proofs.replay.replay_text.Goals as goal

pub replay_schedule-requires : goal.replay_schedule-requires
replay_schedule-requires g c = can_run c.args.octets.now c.in-Ok.schedule c.in-Ok.ensures.text
