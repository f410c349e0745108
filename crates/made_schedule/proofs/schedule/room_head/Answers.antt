use Rattle.made_schedule.proofs.All.{refl, room_head}
use Rattle.made_schedule.proofs.schedule.room_head.Goals as goal

pub returns : goal.returns
unfolding room_head
returns c = refl
