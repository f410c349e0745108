use Rattle.mem_net.proofs.Below.{◌≡◌, ◌≤◌, ◌-◌, length, net_state, AllTold, PassesOver, Skips}
use Rattle.mem_net.proofs.mem_net.MemNetNet.next.Given as goal

abbrev pub invariant-acts : goal.invariant-acts
invariant-acts l = Skips (net_state l.initial.self) (net_state l.self) × AllTold l.self × (l.self.acts ≡ l.initial.self.acts) × (l.self.whole ≡ l.initial.self.whole)
    × (l.initial.self.done ≤ l.self.done) × PassesOver l.initial.self l.initial.self.done l.self.done

abbrev pub decreases-acts : goal.decreases-acts
decreases-acts l = length l.self.acts - l.self.done
