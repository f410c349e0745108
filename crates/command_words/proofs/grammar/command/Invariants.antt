use Rattle.std.proofs.Common.{◌≡◌, false, map, take}
use Rattle.clap.specs.Simple.{app_of}
use Rattle.clap.specs.declared.builder.command.Command.TheViews.{out-Command}
use Rattle.command_words.specs.Grammar.{option_command}
use Rattle.command_words.specs.Setting.{setting_of}
use Rattle.command_words.proofs.grammar.command.Given as goal

abbrev pub invariant-loop-setting : goal.invariant-loop-setting
invariant-loop-setting l =
    (app_of l.command ≡ option_command l.fn.name (map setting_of (take l.setting-index l.options))) × ((out-Command l.command).has_globals ≡ false)
