use Rattle.std.proofs.Common.{sym, ◌∙◌}
use Rattle.bus_handler.proofs.DigitLemmas.{all_digits, code_said}
use Rattle.bus_handler.proofs.command.code_in.Goals as goal

pub value_of-requires-clause-digits : goal.value_of-requires-clause-digits
value_of-requires-clause-digits c = all_digits c.args.octets.now (sym (c.if-not-are_digits.ensures))

pub returns : goal.returns
returns c = c.value_of.ensures ∙ code_said c.args.octets.now c.if-octets-ne4.false (sym (c.if-not-are_digits.ensures))
