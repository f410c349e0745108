use Rattle.std.proofs.Common.{sym, ◌∙◌}
use Rattle.bus_handler.proofs.DigitLemmas.{text_is_read}
use Rattle.bus_handler.proofs.command.value_of.Goals as goal

pub returns-in_err-ok : goal.returns-in_err-ok
returns-in_err-ok c = absurd (text_is_read c.args.digits.now c.from_utf8.result _ _ c.requires.digits c.from_utf8.ensures.cases (sym c.ok.ensures.value ∙ c.in_err-ok.was))
