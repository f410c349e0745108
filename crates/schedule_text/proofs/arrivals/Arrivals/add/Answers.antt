use Rattle.schedule_text.proofs.All.{◌≡◌, [], ◌∷◌, ◌++◌, None, refl, sym, subst, OnOk, on_ok_weaker, Act, HasLine, fault_after, Arrives, Ends, Follows, follows_arrival, follows_end, follows_other, has_come, rises}
use Rattle.link_trait.specs.declared.act.Act.TheVariants as act
use Rattle.schedule_text.proofs.arrivals.Arrivals.add.Goals as goal

pub returns-in-Arrive : goal.returns-in-Arrive
returns-in-Arrive c = λ acts line follows none.
    let there = subst (λ (a : Act). fault_after acts a ≡ None) c.in-Arrive.is none in
    let one = subst (λ (a : Act). HasLine a) c.in-Arrive.is line in
    subst (λ (a : Act). OnOk c.arrive.result (Follows (acts ++ a ∷ []) c.arrive.new.self)) (sym c.in-Arrive.is)
    (on_ok_weaker c.arrive.result (λ (h : Arrives c.in-Arrive.conn.0 c.args.self.now c.arrive.new.self). follows_arrival acts c.in-Arrive.conn c.in-Arrive.credit c.args.self.now c.arrive.new.self one.0.0 follows (rises acts c.in-Arrive.conn.0 there) h) c.arrive.ensures)

pub returns-in-End : goal.returns-in-End
returns-in-End c = λ acts line follows none.
    let there = subst (λ (a : Act). fault_after acts a ≡ None) c.in-End.is none in
    subst (λ (a : Act). OnOk c.end.result (Follows (acts ++ a ∷ []) c.end.new.self)) (sym c.in-End.is)
    (on_ok_weaker c.end.result (λ (h : Ends c.in-End.conn.0 c.args.self.now c.end.new.self). follows_end acts (act.End c.in-End.conn) c.in-End.conn.0 c.args.self.now c.end.new.self (λ q. refl) (λ q. refl) (λ q. refl) follows (has_come acts c.in-End.conn.0 there) h) c.end.ensures)

pub returns-in-ReadFails : goal.returns-in-ReadFails
returns-in-ReadFails c = λ acts line follows none.
    let there = subst (λ (a : Act). fault_after acts a ≡ None) c.in-ReadFails.is none in
    subst (λ (a : Act). OnOk c.end-in-ReadFails.result (Follows (acts ++ a ∷ []) c.end-in-ReadFails.new.self)) (sym c.in-ReadFails.is)
    (on_ok_weaker c.end-in-ReadFails.result (λ (h : Ends c.in-ReadFails.conn.0 c.args.self.now c.end-in-ReadFails.new.self). follows_end acts (act.ReadFails c.in-ReadFails.conn) c.in-ReadFails.conn.0 c.args.self.now c.end-in-ReadFails.new.self (λ q. refl) (λ q. refl) (λ q. refl) follows (has_come acts c.in-ReadFails.conn.0 there) h) c.end-in-ReadFails.ensures)

pub returns-in-Octets : goal.returns-in-Octets
returns-in-Octets c = λ acts line follows none.
    subst (λ (a : Act). Follows (acts ++ a ∷ []) c.args.self.now) (sym c.in-Octets.is) (follows_other acts (act.Octets c.in-Octets.conn c.in-Octets.octets) c.args.self.now (λ q. refl) (λ q. refl) (λ q. refl) follows)

pub returns-in-Tick : goal.returns-in-Tick
returns-in-Tick c = λ acts line follows none.
    subst (λ (a : Act). Follows (acts ++ a ∷ []) c.args.self.now) (sym c.in-Tick.is) (follows_other acts act.Tick c.args.self.now (λ q. refl) (λ q. refl) (λ q. refl) follows)

pub returns-in-Turn : goal.returns-in-Turn
returns-in-Turn c = λ acts line follows none.
    subst (λ (a : Act). Follows (acts ++ a ∷ []) c.args.self.now) (sym c.in-Turn.is) (follows_other acts act.Turn c.args.self.now (λ q. refl) (λ q. refl) (λ q. refl) follows)

pub returns-in-Room : goal.returns-in-Room
returns-in-Room c = λ acts line follows none.
    subst (λ (a : Act). Follows (acts ++ a ∷ []) c.args.self.now) (sym c.in-Room.is) (follows_other acts (act.Room c.in-Room.conn c.in-Room.more) c.args.self.now (λ q. refl) (λ q. refl) (λ q. refl) follows)

pub returns-in-WriteFails : goal.returns-in-WriteFails
returns-in-WriteFails c = λ acts line follows none.
    subst (λ (a : Act). Follows (acts ++ a ∷ []) c.args.self.now) (sym c.in-WriteFails.is) (follows_other acts (act.WriteFails c.in-WriteFails.field-0) c.args.self.now (λ q. refl) (λ q. refl) (λ q. refl) follows)
