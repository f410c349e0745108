use Rattle.schedule_text.proofs.All.{sym, count_at_place, count_at_end}
use Rattle.schedule_text.proofs.cursor.digit_count.Goals as goal

pub returns-in-Some : goal.returns-in-Some
returns-in-Some c = count_at_place c.args.octets.now c.in-Some.place (sym c.in-Some.ensures)

pub returns-in-None : goal.returns-in-None
returns-in-None c = count_at_end c.args.octets.now (sym c.in-None.ensures)
