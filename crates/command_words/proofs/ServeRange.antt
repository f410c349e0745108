-- The port and the number of turns of a command `serve` are in their ranges.
use Rattle.std.proofs.Common.{◌≡◌, ◌≤◌, ℕ, Bool, cond, codes, true, false, arith, subst, bytes_eq, List, [], ◌∷◌, Some, None}
use Rattle.ws_kinds.specs.ConfigValue.{ConfigValue}
use Rattle.command_words.specs.declared.command.Command.TheVariants as command
use Rattle.command_words.specs.Meaning.{Text, meant, echo_meant, replay_meant, serve_meant, made_meant, echo_options, replay_options, serve_options, options_among, value_of, number, number_in, config_of_values, max_message_option, port_option, turns_option}
use Rattle.command_words.proofs.Meant.{bind_some}
use Rattle.command_words.proofs.Numbers.{ranged}

abbrev AreInRange : ℕ → ℕ → Type 0
AreInRange port turns = (1 ≤ port) × (port ≤ 65535) × (1 ≤ turns)

of_echo : (rest : List Text) (config : ConfigValue) (port turns : ℕ) → echo_meant rest ≡ Some (command.Serve config port turns) → AreInRange port turns
of_echo rest config port turns e =
    let (given, among, made) = bind_some (options_among echo_options rest) _ _ e in
    let (n, is, same) = bind_some (number max_message_option (value_of given)) _ _ made in
    absurd cc

of_replay : (rest : List Text) (config : ConfigValue) (port turns : ℕ) → replay_meant rest ≡ Some (command.Serve config port turns) → AreInRange port turns
of_replay rest config port turns e =
    let (given, among, made) = bind_some (options_among replay_options rest) _ _ e in
    let (c, is, same) = bind_some (config_of_values (value_of given)) _ _ made in
    absurd cc

of_serve : (rest : List Text) (config : ConfigValue) (port turns : ℕ) → serve_meant rest ≡ Some (command.Serve config port turns) → AreInRange port turns
of_serve rest config port turns e =
    let (given, among, made) = bind_some (options_among serve_options rest) _ _ e in
    let (c, is, behind_config) = bind_some (config_of_values (value_of given)) _ _ made in
    let (p, at, behind_port) = bind_some (number port_option (value_of given)) _ _ behind_config in
    let (t, ends, same) = bind_some (number turns_option (value_of given)) _ _ behind_port in
    let same_port : p ≡ port = cc in
    let same_turns : t ≡ turns = cc in
    let port_in = subst (λ (m : ℕ). (1 ≤ m) × (m ≤ 65535)) same_port (ranged port_option (value_of given (codes "port")) p tt at) in
    let turns_in = subst (λ (m : ℕ). (1 ≤ m) × (m ≤ 18446744073709551615)) same_turns (ranged turns_option (value_of given (codes "turns")) t (omega arith, omega arith) ends) in
    (port_in.0, port_in.1, turns_in.0)

of_made : (rest : List Text) (config : ConfigValue) (port turns : ℕ) → made_meant rest ≡ Some (command.Serve config port turns) → AreInRange port turns
of_made [] config port turns e = absurd cc
of_made (seed ∷ []) config port turns e = let (n, is, same) = bind_some (number_in 0 18446744073709551615 seed) _ _ e in absurd cc
of_made (seed ∷ next ∷ rest) config port turns e = absurd cc

by_name : (is_echo is_replay is_serve is_made : Bool) (rest : List Text) (config : ConfigValue) (port turns : ℕ)
    → cond is_echo (echo_meant rest) (cond is_replay (replay_meant rest) (cond is_serve (serve_meant rest) (cond is_made (made_meant rest) None)))
    ≡ Some (command.Serve config port turns) → AreInRange port turns
by_name true is_replay is_serve is_made rest config port turns e = of_echo rest config port turns e
by_name false true is_serve is_made rest config port turns e = of_replay rest config port turns e
by_name false false true is_made rest config port turns e = of_serve rest config port turns e
by_name false false false true rest config port turns e = of_made rest config port turns e
by_name false false false false rest config port turns e = absurd cc

-- words that mean `serve` give it a port and a number of turns in the ranges of their options
pub serve_in_range : (words : List Text) (config : ConfigValue) (port turns : ℕ) → meant words ≡ Some (command.Serve config port turns)
    → (1 ≤ port) × (port ≤ 65535) × (1 ≤ turns)
serve_in_range [] config port turns e = absurd cc
serve_in_range (word ∷ rest) config port turns e =
    by_name (bytes_eq (codes "echo") word) (bytes_eq (codes "replay") word) (bytes_eq (codes "serve") word) (bytes_eq (codes "made") word) rest config port turns e
