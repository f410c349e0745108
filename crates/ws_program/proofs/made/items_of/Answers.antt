use Rattle.ws_program.proofs.All.{rules, ◌≡◌, Some, sym, ◌∙◌, Head, Open, Leaving, Ending, Gone, None, phase_at, count_in_phase}
use Rattle.ws_program.proofs.made.items_of.Goals as goal

pub returns-in-None : goal.returns-in-None
returns-in-None c = sym (count_in_phase c.args.hub.now c.args.conn.0 None (sym c.phase.ensures ∙ c.in-None.is))

pub returns-in-Some-Gone : goal.returns-in-Some-Gone
returns-in-Some-Gone c =
    let is : phase_at c.args.hub.now c.args.conn.0 ≡ Some Gone = search rules in
    sym (count_in_phase c.args.hub.now c.args.conn.0 (Some Gone) is)

pub returns-in-Some-Head : goal.returns-in-Some-Head
returns-in-Some-Head c =
    let is : phase_at c.args.hub.now c.args.conn.0 ≡ Some Head = search rules in
    c.numbered.ensures ∙ sym (count_in_phase c.args.hub.now c.args.conn.0 (Some Head) is)

pub returns-in-Some-Open : goal.returns-in-Some-Open
returns-in-Some-Open c =
    let is : phase_at c.args.hub.now c.args.conn.0 ≡ Some Open = search rules in
    c.numbered-in-Some-Open.ensures ∙ sym (count_in_phase c.args.hub.now c.args.conn.0 (Some Open) is)

pub returns-in-Some-Leaving : goal.returns-in-Some-Leaving
returns-in-Some-Leaving c =
    let is : phase_at c.args.hub.now c.args.conn.0 ≡ Some Leaving = search rules in
    c.numbered-in-Some-Leaving.ensures ∙ sym (count_in_phase c.args.hub.now c.args.conn.0 (Some Leaving) is)

pub returns-in-Some-Ending : goal.returns-in-Some-Ending
returns-in-Some-Ending c =
    let is : phase_at c.args.hub.now c.args.conn.0 ≡ Some Ending = search rules in
    c.numbered-in-Some-Ending.ensures ∙ sym (count_in_phase c.args.hub.now c.args.conn.0 (Some Ending) is)
