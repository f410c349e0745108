use Rattle.std.proofs.Common.{rules}
use Rattle.command_words.specs.Grammar.{values_of}
use Rattle.command_words.proofs.Numbers.{config_is}
use Rattle.command_words.proofs.values.config.Goals as goal

pub returns : goal.returns
returns c = config_is (values_of c.args.matches.now) c.in_ok-max_message.max_message c.in_ok-limit.limit c.in_ok-ping_after.ping_after
    c.in_ok-idle.idle c.in_ok-leave.leave c.in_ok-max_conns.max_conns c.checked.result
    (search rules) (search rules) (search rules) (search rules) (search rules) (search rules)
    c.checked.ensures.some c.checked.ensures.value
