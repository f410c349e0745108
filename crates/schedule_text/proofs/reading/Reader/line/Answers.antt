use Rattle.schedule_text.proofs.All.{ℕ, ◌+◌, List, length, sym, ◌∙◌, subst, Act, act_at, Begins, IsRefused, Follows, bad_line, broken_line, next_line, taken_some, taken_none, none_from, shorter, line_is}
use Rattle.schedule_text.specs.declared.fault.Fault.TheVariants as fault
use Rattle.schedule_text.proofs.reading.Reader.line.Goals as goal

pub returns-in_default-clause-line : goal.returns-in_default-clause-line
returns-in_default-clause-line c = λ octets at.
    let rest : List ℕ = c.args.self.now.cursor.rest.now in
    let none = taken_none c.act.new.self.rest.now c.in_ok-act.field-0 (act_at rest) c.in_ok-act.ensures c.in_default.not-Some in
    subst (λ (acts : List Act). IsRefused octets (length acts + 2) fault.BadLine) (sym c.acts.ensures) (bad_line octets c.args.self.now.schedule rest at.begins c.requires none)

pub returns-in-Some-fault-clause-line : goal.returns-in-Some-fault-clause-line
returns-in-Some-fault-clause-line c = λ octets at.
    let rest : List ℕ = c.args.self.now.cursor.rest.now in
    let acts : List Act = c.args.self.now.schedule in
    let taken = taken_some c.act.new.self.rest.now c.in_ok-act.field-0 (act_at rest) c.in-Some.act c.in_ok-act.ensures c.in-Some.is in
    let broken = sym (c.in-Some-fault.ensures acts (line_is rest c.in-Some.act c.act.new.self.rest.now taken) at.follows) in
    subst (λ (acts : List Act). IsRefused octets (length acts + 2) c.in-Some-fault.fault) (sym c.acts.ensures) (broken_line octets acts rest c.in-Some.act c.act.new.self.rest.now c.in-Some-fault.fault at.begins taken broken)

pub returns-clause-line : goal.returns-clause-line
returns-clause-line c = λ octets at.
    let rest : List ℕ = c.args.self.now.cursor.rest.now in
    let acts : List Act = c.args.self.now.schedule in
    let taken = taken_some c.act.new.self.rest.now c.in_ok-act.field-0 (act_at rest) c.in-Some.act c.in_ok-act.ensures c.in-Some.is in
    let line = line_is rest c.in-Some.act c.act.new.self.rest.now taken in
    let none = sym (c.fault.ensures acts line at.follows) ∙ none_from c.fault.result c.in_default-fault.not-Some in
    record {
      begins = subst (λ (acts : List Act). Begins octets acts c.act.new.self.rest.now) (sym c.in_ok-push.ensures.pushed) (next_line octets acts rest c.in-Some.act c.act.new.self.rest.now at.begins taken none);
      follows = subst (λ (acts : List Act). Follows acts c.add.new.self) (sym c.in_ok-push.ensures.pushed) (c.in_ok-add.ensures acts line at.follows none);
    }

pub returns-clause-shorter : goal.returns-clause-shorter
returns-clause-shorter c =
    let rest : List ℕ = c.args.self.now.cursor.rest.now in
    shorter rest c.in-Some.act c.act.new.self.rest.now (taken_some c.act.new.self.rest.now c.in_ok-act.field-0 (act_at rest) c.in-Some.act c.in_ok-act.ensures c.in-Some.is)
