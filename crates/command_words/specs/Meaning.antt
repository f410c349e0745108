-- What the words of a command line mean: `meant`, at the end, is the command, or nothing where they break a rule. A word is the list
-- of its UTF-8 octets.
use Rattle.std.specs.Prelude.{◌≡◌, ◌==◌, ◌&&◌, ◌++◌, ℕ, Bool, true, false, not, List, [], ◌∷◌, Option, Some, None, codes}
use Rattle.std.specs.Prelude.{String, length, map, nat_le, nat_lt, if◌then◌else◌, bytes_eq, find, option_map, string_bytes}
use Rattle.std.specs.List.{after_first, before_first, list_all, list_any}
use Rattle.std.specs.Char.{is_ascii_digit}
use Rattle.std.specs.Str.Parse.{digits_value}
use Rattle.ws_kinds.specs.ConfigValue.{ConfigValue, config_of}
use Rattle.command_words.specs.declared.command.Command.{Command}
use Rattle.command_words.specs.declared.command.Command.TheVariants as command

abbrev pub Text : Type 0
Text = List ℕ

infixl 10 ◌>>=◌
abbrev pub ◌>>=◌ : {A B : Type 0} → Option A → (A → Option B) → Option B
None >>= f = None
(Some x) >>= f = f x

-- ---- numbers

-- it is not empty, and does not begin with `0` (48) where more follows
abbrev pub has_no_leading_zero : Text → Bool
has_no_leading_zero [] = false
has_no_leading_zero (first ∷ []) = true
has_no_leading_zero (first ∷ second ∷ rest) = not (first == 48)

-- decimal digits without a leading zero
abbrev pub is_number : Text → Bool
is_number text = list_all is_ascii_digit text && has_no_leading_zero text

-- the number that a text writes, from `least` to `most`
abbrev pub number_in : ℕ → ℕ → Text → Option ℕ
number_in least most text =
    if is_number text && (nat_le least (digits_value 10 text) && nat_le (digits_value 10 text) most) then Some (digits_value 10 text)
    else None

-- ---- the options

-- an option: its name, the least and the greatest number that it takes, and the number that holds where it is not given; one with no
-- such number has to be given
pub record Setting : Type 0 where
  pub name : Text
  pub least : ℕ
  pub most : ℕ
  pub usual : Option ℕ

abbrev pub max_message_option : Setting
max_message_option = record { name = codes "max-message"; least = 1; most = 65536; usual = Some 16384 }

abbrev pub limit_option : Setting
limit_option = record { name = codes "limit"; least = 1; most = 1048576; usual = Some 65536 }

abbrev pub ping_after_option : Setting
ping_after_option = record { name = codes "ping-after"; least = 1; most = 999999; usual = Some 30 }

-- `config_of_values` says that it is above `ping-after` too
abbrev pub idle_option : Setting
idle_option = record { name = codes "idle"; least = 1; most = 1000000; usual = Some 60 }

abbrev pub leave_option : Setting
leave_option = record { name = codes "leave"; least = 1; most = 1000000; usual = Some 10 }

abbrev pub max_conns_option : Setting
max_conns_option = record { name = codes "max-conns"; least = 1; most = 1024; usual = Some 1024 }

abbrev pub port_option : Setting
port_option = record { name = codes "port"; least = 1; most = 65535; usual = None }

abbrev pub turns_option : Setting
turns_option = record { name = codes "turns"; least = 1; most = 18446744073709551615; usual = Some 18446744073709551615 }

abbrev pub echo_options : List Setting
echo_options = max_message_option ∷ []

abbrev pub replay_options : List Setting
replay_options = max_message_option ∷ limit_option ∷ ping_after_option ∷ idle_option ∷ leave_option ∷ max_conns_option ∷ []

-- those of `replay`, and two more
abbrev pub serve_options : List Setting
serve_options = replay_options ++ port_option ∷ turns_option ∷ []

-- ---- options among words

-- the name of an option that is given, and the text of its value
abbrev pub Given : Type 0
Given = Text × Text

-- what follows `--` (45 is the hyphen), where something does
abbrev pub behind_hyphens : Text → Option Text
behind_hyphens [] = None
behind_hyphens (first ∷ []) = None
behind_hyphens (first ∷ second ∷ []) = None
behind_hyphens (first ∷ second ∷ third ∷ rest) = if first == 45 && second == 45 then Some (third ∷ rest) else None

abbrev pub is_equals : ℕ → Bool
is_equals octet = octet == 61

-- the name in front of the first `=` (61), and the value behind it; no value where there is no `=`
abbrev pub name_and_value : Text → Text × Option Text
name_and_value text = (before_first is_equals text, if list_any is_equals text then Some (after_first is_equals text) else None)

-- the name and the value of `--NAME=VALUE`, or the name of `--NAME`
abbrev pub option_word : Text → Option (Text × Option Text)
option_word word = behind_hyphens word >>= λ text. Some (name_and_value text)

-- an option, and those that come later: a name without a value waits for the next word
abbrev pub given_then : Text × Option Text → (Option Text → Option (List Given)) → Option (List Given)
given_then (name, Some value) later = later None >>= λ given. Some ((name, value) ∷ given)
given_then (name, None) later = later (Some name)

-- the options that words give, in their order. Each is a word `--NAME=VALUE`, or a word `--NAME` and a next word VALUE; where a name is
-- waiting, the first word is its value.
unfoldable pub options_from : Option Text → List Text → Option (List Given)
options_from None [] = Some []
options_from (Some name) [] = None
options_from None (word ∷ rest) = option_word word >>= λ option. given_then option (λ waiting. options_from waiting rest)
options_from (Some name) (value ∷ rest) = options_from None rest >>= λ given. Some ((name, value) ∷ given)

abbrev pub is_given : Text → List Given → Bool
is_given name = list_any (λ option. bytes_eq option.0 name)

-- no name stands twice
abbrev pub are_once : List Given → Bool
are_once [] = true
are_once (option ∷ rest) = not (is_given option.0 rest) && are_once rest

abbrev pub has_option : List Setting → Text → Bool
has_option settings name = list_any (λ setting. bytes_eq setting.name name) settings

-- the options that words give, where each is one of these and none is given twice
abbrev pub options_among : List Setting → List Text → Option (List Given)
options_among settings words = options_from None words
    >>= λ given. if list_all (λ option. has_option settings option.0) given && are_once given then Some given else None

-- the text of an option's value, where the option is given
abbrev pub value_of : List Given → Text → Option Text
value_of given name = option_map (λ option. option.1) (find (λ option. bytes_eq option.0 name) given)

-- ---- commands

-- the usual number where there is one, or the one that the value writes
abbrev pub number_or : Setting → Option Text → Option ℕ
number_or setting None = setting.usual
number_or setting (Some text) = number_in setting.least setting.most text

-- the number of an option, by the text of each option's value
abbrev pub number : Setting → (Text → Option Text) → Option ℕ
number setting value = number_or setting (value setting.name)

-- the numbers of a server, where `idle` is above `ping-after`; options that are not given count with their usual numbers
abbrev pub config_of_values : (Text → Option Text) → Option ConfigValue
config_of_values value = do
  max_message ← number max_message_option value
  limit ← number limit_option value
  ping_after ← number ping_after_option value
  idle ← number idle_option value
  leave ← number leave_option value
  max_conns ← number max_conns_option value
  if nat_lt ping_after idle then Some (config_of max_message limit ping_after idle leave max_conns) else None

abbrev pub echo_of : (Text → Option Text) → Option Command
echo_of value = number max_message_option value >>= λ max_message. Some (command.Echo max_message)

abbrev pub replay_of : (Text → Option Text) → Option Command
replay_of value = config_of_values value >>= λ config. Some (command.Replay config)

abbrev pub serve_of : (Text → Option Text) → Option Command
serve_of value = do
  config ← config_of_values value
  port ← number port_option value
  turns ← number turns_option value
  Some (command.Serve config port turns)

abbrev pub made_of : Text → Option Command
made_of seed = number_in 0 18446744073709551615 seed >>= λ number. Some (command.Made number)

-- what the words behind each command mean
abbrev pub echo_meant : List Text → Option Command
echo_meant words = options_among echo_options words >>= λ given. echo_of (value_of given)

abbrev pub replay_meant : List Text → Option Command
replay_meant words = options_among replay_options words >>= λ given. replay_of (value_of given)

abbrev pub serve_meant : List Text → Option Command
serve_meant words = options_among serve_options words >>= λ given. serve_of (value_of given)

abbrev pub made_meant : List Text → Option Command
made_meant [] = None
made_meant (seed ∷ []) = made_of seed
made_meant (seed ∷ next ∷ rest) = None

-- the command that words mean, or nothing where they break a rule
abbrev pub meant : List Text → Option Command
meant [] = None
meant (word ∷ rest) =
    if bytes_eq (codes "echo") word then echo_meant rest
    else if bytes_eq (codes "replay") word then replay_meant rest
    else if bytes_eq (codes "serve") word then serve_meant rest
    else if bytes_eq (codes "made") word then made_meant rest
    else None

-- `serve`, with these numbers of its server, this port and so many turns
abbrev pub IsServe : {A : Type 0} → ConfigValue → ℕ → ℕ → List (String A) → Type 0
IsServe config port turns words = meant (map string_bytes words) ≡ Some (command.Serve config port turns)

-- ---- words of which some command line with a meaning is made

-- a hyphen and something behind it
abbrev pub is_hyphen_before : Text → Bool
is_hyphen_before [] = false
is_hyphen_before (first ∷ rest) = first == 45 && nat_lt 0 (length rest)

-- no hyphen in front, or `--` with something behind it
abbrev pub may_stand : Text → Bool
may_stand [] = true
may_stand (first ∷ rest) = if first == 45 then is_hyphen_before rest else true
