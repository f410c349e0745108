-- The words of the command line, by their meaning in `command_words`.
use Rattle.std.specs.Prelude.{◌≡◌, ⊤, ℕ, Bool, true, false, List, Option, Some, None, map, string_bytes}
use Rattle.std.specs.Prelude.{String}
use Rattle.std.specs.List.{list_all}
use Rattle.ws_kinds.specs.ConfigValue.{ConfigValue}
use Rattle.command_words.specs.Meaning as meaning
use Rattle.command_words.specs.Meaning.{may_stand, meant}
use Rattle.command_words.specs.declared.command.Command.{Command}
use Rattle.command_words.specs.declared.command.Command.TheVariants.{Echo, Replay, Made, Serve}
use Rattle.ws_program.specs.Serve.{Service}
use Rattle.ws_program.specs.declared.status.Status.{Status}
use Rattle.ws_program.specs.declared.status.Status.TheVariants.{Usage, OutOfMemory}

-- `echo`, with messages of at most so many octets
abbrev pub IsEcho : {A : Type 0} → ℕ → List (String A) → Type 0
IsEcho max_message words = meant (map string_bytes words) ≡ Some (Echo max_message)

-- `replay`, with these numbers of its server
abbrev pub IsReplay : {A : Type 0} → ConfigValue → List (String A) → Type 0
IsReplay config words = meant (map string_bytes words) ≡ Some (Replay config)

-- `serve`, with these numbers of its server, this port and this greatest number of turns
abbrev pub IsServe : {A : Type 0} → Service → List (String A) → Type 0
IsServe asked words = meaning.IsServe asked.config asked.port asked.turns words

-- `made`, with this seed
abbrev pub IsMade : {A : Type 0} → ℕ → List (String A) → Type 0
IsMade seed words = meant (map string_bytes words) ≡ Some (Made seed)

-- the words mean no command
abbrev pub IsNoCommand : {A : Type 0} → List (String A) → Type 0
IsNoCommand words = meant (map string_bytes words) ≡ None

-- the words ask for a command that reads the source
abbrev pub is_reader : Option Command → Bool
is_reader None = false
is_reader (Some (Echo max_message)) = true
is_reader (Some (Replay config)) = true
is_reader (Some (Serve config port turns)) = false
is_reader (Some (Made seed)) = false

abbrev pub IsNoReader : {A : Type 0} → List (String A) → Type 0
IsNoReader words = is_reader (meant (map string_bytes words)) ≡ false

-- the words ask for a server over the net
abbrev pub is_server : Option Command → Bool
is_server None = false
is_server (Some (Echo max_message)) = false
is_server (Some (Replay config)) = false
is_server (Some (Serve config port turns)) = true
is_server (Some (Made seed)) = false

abbrev pub IsNoServer : {A : Type 0} → List (String A) → Type 0
IsNoServer words = is_server (meant (map string_bytes words)) ≡ false

-- How a run of such words ends. That there was too little memory to read them is told only where each of them may stand in a
-- command line.
abbrev pub RefusesWords : {A : Type 0} → List (String A) → Status → Type 0
RefusesWords words Usage = ⊤
RefusesWords words OutOfMemory = list_all may_stand (map string_bytes words) ≡ true
RefusesWords words status = ⊥
