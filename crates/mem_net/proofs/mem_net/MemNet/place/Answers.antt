use Rattle.mem_net.proofs.All.{◌≡◌, ◌∙◌, arrivals, sound_rises, arrived}
use Rattle.mem_net.proofs.mem_net.MemNet.place.Goals as goal

pub find-requires : goal.find-requires
find-requires c = rw (c.deref.ensures.value, c.self.invariant.numbers_are) (sound_rises c.self.inside.schedule c.self.invariant.follows.sound)

pub returns : goal.returns
returns c =
    let acts = c.self.inside.schedule in
    let numbers : c.deref.result.now ≡ arrivals acts = c.deref.ensures.value ∙ c.self.invariant.numbers_are in
    rw (← c.self.view_is) (record {
      some = rw numbers at c.find.ensures.some;
      none = rw (← (arrived acts c.args.conn.0)) (rw numbers at c.find.ensures.none);
    })
