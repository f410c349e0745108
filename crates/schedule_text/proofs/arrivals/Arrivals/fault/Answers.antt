use Rattle.schedule_text.proofs.All.{sym, ◌∙◌, ap, subst, Act, HasLine, fault_after}
use Rattle.schedule_text.proofs.arrivals.Arrivals.fault.Goals as goal

pub returns-in-Arrive : goal.returns-in-Arrive
returns-in-Arrive c = λ acts line follows.
    let one = subst (λ (a : Act). HasLine a) c.in-Arrive.is line in
    c.rising_fault.ensures acts one.0.0 follows ∙ ap (fault_after acts) (sym c.in-Arrive.is)

pub returns-in-Octets : goal.returns-in-Octets
returns-in-Octets c = λ acts line follows. c.sending_fault.ensures acts follows ∙ ap (fault_after acts) (sym c.in-Octets.is)

pub returns-in-Room : goal.returns-in-Room
returns-in-Room c = λ acts line follows. c.naming_fault.ensures acts follows ∙ ap (fault_after acts) (sym c.in-Room.is)
