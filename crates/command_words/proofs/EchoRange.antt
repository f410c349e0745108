-- The number of a command `echo` is in its range.
use Rattle.std.proofs.Common.{◌≡◌, ◌≤◌, ℕ, Bool, cond, codes, true, false, arith, subst, bytes_eq, List, [], ◌∷◌, Some, None}
use Rattle.command_words.specs.declared.command.Command.TheVariants as command
use Rattle.command_words.specs.Meaning.{Text, meant, echo_meant, replay_meant, serve_meant, made_meant, echo_options, replay_options, serve_options, options_among, value_of, number, number_in, config_of_values, max_message_option, port_option, turns_option}
use Rattle.command_words.proofs.Meant.{bind_some}
use Rattle.command_words.proofs.Numbers.{ranged}

abbrev InRange : ℕ → Type 0
InRange max_message = (1 ≤ max_message) × (max_message ≤ 65536)

of_echo : (rest : List Text) (max_message : ℕ) → echo_meant rest ≡ Some (command.Echo max_message) → InRange max_message
of_echo rest max_message e =
    let (given, among, made) = bind_some (options_among echo_options rest) _ _ e in
    let (n, is, same) = bind_some (number max_message_option (value_of given)) _ _ made in
    let equal : n ≡ max_message = cc in
    subst (λ (m : ℕ). InRange m) equal (ranged max_message_option (value_of given (codes "max-message")) n (omega arith, omega arith) is)

of_replay : (rest : List Text) (max_message : ℕ) → replay_meant rest ≡ Some (command.Echo max_message) → InRange max_message
of_replay rest max_message e =
    let (given, among, made) = bind_some (options_among replay_options rest) _ _ e in
    let (config, is, same) = bind_some (config_of_values (value_of given)) _ _ made in
    absurd cc

of_serve : (rest : List Text) (max_message : ℕ) → serve_meant rest ≡ Some (command.Echo max_message) → InRange max_message
of_serve rest max_message e =
    let (given, among, made) = bind_some (options_among serve_options rest) _ _ e in
    let (config, is, same) = bind_some (config_of_values (value_of given)) _ _ made in
    let (port, at, then) = bind_some (number port_option (value_of given)) _ _ same in
    let (turns, ends, last) = bind_some (number turns_option (value_of given)) _ _ then in
    absurd cc

of_made : (rest : List Text) (max_message : ℕ) → made_meant rest ≡ Some (command.Echo max_message) → InRange max_message
of_made [] max_message e = absurd cc
of_made (seed ∷ []) max_message e = let (n, is, same) = bind_some (number_in 0 18446744073709551615 seed) _ _ e in absurd cc
of_made (seed ∷ next ∷ rest) max_message e = absurd cc

by_name : (is_echo is_replay is_serve is_made : Bool) (rest : List Text) (max_message : ℕ)
    → cond is_echo (echo_meant rest) (cond is_replay (replay_meant rest) (cond is_serve (serve_meant rest) (cond is_made (made_meant rest) None))) ≡ Some (command.Echo max_message)
    → InRange max_message
by_name true is_replay is_serve is_made rest max_message e = of_echo rest max_message e
by_name false true is_serve is_made rest max_message e = of_replay rest max_message e
by_name false false true is_made rest max_message e = of_serve rest max_message e
by_name false false false true rest max_message e = of_made rest max_message e
by_name false false false false rest max_message e = absurd cc

-- words that mean `echo` give it a number in the range of its option
pub echo_in_range : (words : List Text) (max_message : ℕ) → meant words ≡ Some (command.Echo max_message) → (1 ≤ max_message) × (max_message ≤ 65536)
echo_in_range [] max_message e = absurd cc
echo_in_range (word ∷ rest) max_message e =
    by_name (bytes_eq (codes "echo") word) (bytes_eq (codes "replay") word) (bytes_eq (codes "serve") word) (bytes_eq (codes "made") word) rest max_message e
