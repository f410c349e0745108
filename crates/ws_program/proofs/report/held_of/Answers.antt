use Rattle.ws_program.proofs.All.{rules, ◌≡◌, Some, length, refl, sym, ap, ◌∙◌, List, ℕ, Head, Open, Leaving, Ending, Gone, phase_at, held_none, held_gone, held_there}
use Rattle.ws_program.proofs.report.held_of.Goals as goal

pub returns-in-None : goal.returns-in-None
returns-in-None c = ap (λ (l : List ℕ). length l) (sym (held_none c.args.hub.now c.args.conn.0 (sym c.phase.ensures ∙ c.in-None.is)))

pub returns-in-Some-Gone : goal.returns-in-Some-Gone
returns-in-Some-Gone c =
    let is : phase_at c.args.hub.now c.args.conn.0 ≡ Some Gone = search rules in
    ap (λ (l : List ℕ). length l) (sym (held_gone c.args.hub.now c.args.conn.0 is))

pub returns-in-Some-Head : goal.returns-in-Some-Head
returns-in-Some-Head c =
    let is : phase_at c.args.hub.now c.args.conn.0 ≡ Some Head = search rules in
    c.held.ensures ∙ held_there c.args.hub.now c.args.conn.0 Head c.requires.settled refl is

pub returns-in-Some-Open : goal.returns-in-Some-Open
returns-in-Some-Open c =
    let is : phase_at c.args.hub.now c.args.conn.0 ≡ Some Open = search rules in
    c.held-in-Some-Open.ensures ∙ held_there c.args.hub.now c.args.conn.0 Open c.requires.settled refl is

pub returns-in-Some-Leaving : goal.returns-in-Some-Leaving
returns-in-Some-Leaving c =
    let is : phase_at c.args.hub.now c.args.conn.0 ≡ Some Leaving = search rules in
    c.held-in-Some-Leaving.ensures ∙ held_there c.args.hub.now c.args.conn.0 Leaving c.requires.settled refl is

pub returns-in-Some-Ending : goal.returns-in-Some-Ending
returns-in-Some-Ending c =
    let is : phase_at c.args.hub.now c.args.conn.0 ≡ Some Ending = search rules in
    c.held-in-Some-Ending.ensures ∙ held_there c.args.hub.now c.args.conn.0 Ending c.requires.settled refl is
