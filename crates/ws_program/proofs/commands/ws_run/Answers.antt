use Rattle.ws_program.proofs.All.{rules, ◌≡◌, map, Some, Echo, string_bytes, meant, nothing_further, echo_in_range}
use Rattle.command_words.specs.declared.command.Command.TheVariants.{Serve}
use Rattle.command_words.proofs.ServeRange.{serve_in_range}
use Rattle.ws_program.proofs.commands.ws_run.Goals as goal

pub returns-in_default-clause-echo : goal.returns-in_default-clause-echo
returns-in_default-clause-echo g c max echo =
    let further = nothing_further max (g.S.Source.left c.args.source.now) in
    search rules

pub echo_run-requires-clause-least : goal.echo_run-requires-clause-least
echo_run-requires-clause-least g c =
    let is : meant (map string_bytes c.args.words.now) ≡ Some (Echo c.in-Echo.max_message) = search rules in
    (echo_in_range (map string_bytes c.args.words.now) c.in-Echo.max_message is).0

pub echo_run-requires-clause-most : goal.echo_run-requires-clause-most
echo_run-requires-clause-most g c =
    let is : meant (map string_bytes c.args.words.now) ≡ Some (Echo c.in-Echo.max_message) = search rules in
    (echo_in_range (map string_bytes c.args.words.now) c.in-Echo.max_message is).1

pub serve_run-requires : goal.serve_run-requires
serve_run-requires g c =
    let is : meant (map string_bytes c.args.words.now) ≡ Some (Serve c.in-Serve.config c.in-Serve.port c.in-Serve.turns) = search rules in
    (serve_in_range (map string_bytes c.args.words.now) c.in-Serve.config c.in-Serve.port c.in-Serve.turns is).2
