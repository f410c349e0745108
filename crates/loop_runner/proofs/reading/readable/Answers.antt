use Rattle.loop_runner.proofs.All.{◌≡◌, Some, sym, subst, rules, at, Intakes, intake_at, intake_view, with_view, Every, But, Running, running_away, running_written, unread_away, steps_same, written, views_written}
use Rattle.loop_runner.proofs.reading.readable.Goals as goal

pub returns-then-not-is_read-clause-running : goal.returns-then-not-is_read-clause-running
returns-then-not-is_read-clause-running g c = running_away c.args.conn.0 c.args.intakes.now _ c.requires.running (search rules)

pub returns-in-Some-clause-running : goal.returns-in-Some-clause-running
returns-in-Some-clause-running g c =
    let at : intake_at c.args.intakes.now c.args.conn.0 ≡ Some c.in-Some.intake.now = search rules in
    running_written c.args.conn.0 c.args.intakes.now (c.of.follows.lender c.read.new.intake) c.in-Some.intake.now c.read.new.intake _ _ c.requires.running c.read.ensures.takes (search rules)
    (written c.args.conn.0 c.args.intakes.now (c.of.follows.lender c.read.new.intake) c.in-Some.intake.now c.read.new.intake (search rules) at) at

pub returns-in_default-clause-running : goal.returns-in_default-clause-running
returns-in_default-clause-running g c =
    let same : c.of.follows.lender-at-none ≡ c.args.intakes.now = search rules in
    subst (λ (z : Intakes). Running Every z (at g.N.Net g.W.Watch c.args.hub.now c.args.out.now)) (sym same)
    (running_away c.args.conn.0 c.args.intakes.now _ c.requires.running (unread_away (But c.args.conn.0) c.args.conn.0 c.args.intakes.now _ c.requires.running (search rules)))

pub returns-then-not-is_read-clause-steps : goal.returns-then-not-is_read-clause-steps
returns-then-not-is_read-clause-steps g c = steps_same (But c.args.conn.0) _

pub returns-in_default-clause-steps : goal.returns-in_default-clause-steps
returns-in_default-clause-steps g c = steps_same (But c.args.conn.0) _

pub returns-in-Some-clause-kept : goal.returns-in-Some-clause-kept
returns-in-Some-clause-kept g c = λ start config views are k.
    let at : intake_at c.args.intakes.now c.args.conn.0 ≡ Some c.in-Some.intake.now = search rules in (
      with_view c.args.conn.0 (intake_view c.read.new.intake) views,
      views_written c.args.conn.0 c.args.intakes.now (c.of.follows.lender c.read.new.intake) c.read.new.intake views are
          (written c.args.conn.0 c.args.intakes.now (c.of.follows.lender c.read.new.intake) c.in-Some.intake.now c.read.new.intake (search rules) at),
      (c.read.ensures.kept start config).kept views (are c.args.conn.0 c.in-Some.intake.now at) k,
    )
