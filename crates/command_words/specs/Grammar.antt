-- The commands as clap is told of them, and what it finds. No public clause speaks of these.
use Rattle.std.specs.Prelude.{true, List, Option, Some, codes, fold, option_map, if◌then◌else◌, bytes_eq}
use Rattle.std.specs.Borrow.{Bor}
use Rattle.clap.specs.Walk.{Rule, first_of, rows_of}
use Rattle.clap.specs.Simple.{App, new_app, new_rule, with_rule, with_subcommand}
use Rattle.clap.specs.Matches.{found_of}
use Rattle.clap.specs.declared.builder.action.ArgAction.TheVariants.{Set}
use Rattle.clap.specs.declared.parser.matches.ArgMatches.{ArgMatches}
use Rattle.command_words.specs.declared.command.Command.{Command}
use Rattle.command_words.specs.Meaning.{Text, Setting, ◌>>=◌, echo_of, echo_options, made_of, replay_of, replay_options, serve_of, serve_options}

-- ---- commands

abbrev pub option_rule : Text → Rule
option_rule name = record (new_rule name) { long = Some name; action = Some Set }

abbrev pub seed_rule : Rule
seed_rule = record (new_rule (codes "seed")) { required = true; action = Some Set }

-- the command of this name with these options
abbrev pub option_command : Text → List Setting → App
option_command name settings = fold (λ app setting. with_rule app (option_rule setting.name)) (new_app name) settings

abbrev pub made_command : App
made_command = with_rule (new_app (codes "made")) seed_rule

-- no help, no version, and a command is wanted
abbrev pub bare_command : App
bare_command = record (new_app (codes "wothiqa")) {
  top = record (new_app (codes "wothiqa")).top {
    no_binary_name = true;
    disable_help_flag = true;
    disable_help_subcommand = true;
    subcommand_required = true;
  };
}

-- the commands that have options
abbrev pub option_commands : App
option_commands = with_subcommand (with_subcommand (with_subcommand bare_command
    (option_command (codes "echo") echo_options).top)
    (option_command (codes "replay") replay_options).top)
    (option_command (codes "serve") serve_options).top

abbrev pub commands : App
commands = with_subcommand option_commands made_command.top

-- ---- what clap found

abbrev pub text_of : Option (Bor Text) → Option Text
text_of = option_map (λ text. text.now)

-- the text of each argument's value
abbrev pub values_of : ArgMatches → Text → Option Text
values_of matches name = first_of name (rows_of (found_of matches))

abbrev pub made_of_values : (Text → Option Text) → Option Command
made_of_values value = value (codes "seed") >>= made_of

-- the command of this name, by the text of each argument's value
abbrev pub command_of : Text → (Text → Option Text) → Option Command
command_of name value =
    if bytes_eq (codes "echo") name then echo_of value
    else if bytes_eq (codes "replay") name then replay_of value
    else if bytes_eq (codes "serve") name then serve_of value
    else made_of_values value
