use Rattle.mem_net.proofs.All.{rules, ◌≡◌, ◌+◌, ◌≤◌, inl, inr, ℕ, sym, ◌∙◌, arith, cases_lt, Act, MemNetState, net_state, IsOfShut, IsPassedOver, PassesOver, Skips, either}
use Rattle.link_trait.specs.declared.act.Act.TheVariants as act
use Rattle.mem_net.proofs.mem_net.MemNetNet.next.Goals as goal

-- a connection that is not live now was not live before, since acts that are passed over change no live connection
of_shut : (old now : MemNetState) → Skips (net_state old) (net_state now) → (one : Act) → IsOfShut now one → IsOfShut old one
of_shut old now s (act.Octets conn octets) h = sym (s.links.live conn.0) ∙ h
of_shut old now s (act.End conn) h = sym (s.links.live conn.0) ∙ h
of_shut old now s (act.ReadFails conn) h = sym (s.links.live conn.0) ∙ h
of_shut old now s (act.Arrive conn credit) h = absurd h
of_shut old now s (act.Room conn more) h = sym (s.links.live conn.0) ∙ h
of_shut old now s (act.WriteFails conn) h = sym (s.links.live conn.0) ∙ h
of_shut old now s act.Tick h = absurd h
of_shut old now s act.Turn h = absurd h

-- one more act is passed over
one_over : (old now : MemNetState) (done : ℕ) → Skips (net_state old) (net_state now) → now.acts ≡ old.acts → PassesOver old old.done now.done → IsPassedOver now now.done → done ≡ now.done + 1 → PassesOver old old.done done
one_over old now done s a before over e place low high =
    let here : now.done ≤ place → IsPassedOver old place = λ h. let same : now.done ≡ place = omega arith in (over.0, rw (← a, ← same) over.1, of_shut old now s over.0 over.2) in
    either (cases_lt place now.done) (before place low) here

pub acts-preserved : goal.acts-preserved
acts-preserved c =
    let more = one_over c.repeat.new.self c.acts.self c.step.new.self.done c.acts.invariant.0 c.acts.invariant.2 c.acts.invariant.5 c.in_default-step.ensures.tells c.step.ensures.one_more in
    search rules

pub returns-in-Some-step-clause-tells : goal.returns-in-Some-step-clause-tells
returns-in-Some-step-clause-tells c =
    let told = c.in-Some-step.ensures.tells in
    rw (← c.in_default.ensures.same) (inr (inl (c.acts.self.done, c.acts.invariant.4, c.step.ensures.one_more, (told.0, rw (← c.acts.invariant.2) told.1, told.2), c.acts.invariant.5)))

pub returns-clause-tells : goal.returns-clause-tells
returns-clause-tells c = rw (← c.in_default.ensures.same, c.stop.ensures.same) (inr (inr (c.stop.ensures.stop, c.acts.invariant.5)))
