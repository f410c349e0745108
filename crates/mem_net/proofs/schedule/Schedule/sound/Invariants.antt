use Rattle.mem_net.proofs.Below.{◌≡◌, take, drop, is_sound, are_sound_after}
use Rattle.mem_net.proofs.schedule.Schedule.sound.Given as goal

abbrev pub invariant-acts : goal.invariant-acts
invariant-acts l = are_sound_after (take l.place l.self-inside.acts.items) (drop l.place l.self-inside.acts.items) ≡ is_sound l.self-inside.acts.items
