-- What clap makes of whole command lines, and that it is what they mean.
use Rattle.std.proofs.Common.{◌≡◌, ◌∙◌, ◌&&◌, ℕ, Bool, cond, codes, true, false, not, zero, suc, refl, sym, ap, ap₂, subst, List, [], ◌∷◌, ◌++◌, map, Option, Some, None, is_some, true≢false, fold, rules, option_map, bytes_eq}
use Rattle.std.specs.Prelude.{unwrap_or}
use Rattle.std.specs.List.{list_all}
use Rattle.std.proofs.lemmas.List.{append-nil, append_assoc}
use Rattle.std.proofs.lemmas.List.Folds.{list_all-append}
use Rattle.std.proofs.lemmas.Slice.Eq.{bytes_eq-Decides}
use Rattle.ws_kinds.proofs.Facts.{and_true, clash}
use Rattle.clap.specs.Lexer.{long_of}
use Rattle.clap.specs.Walk.{Names, Row, Rule, Walk, idle, walk, walked, walk_from, nothing_held, settled, finished, first_of, rows_after, stop_after}
use Rattle.clap.specs.Simple.{Shape, built, entered, is_simple, names_of, subcommand_of}
use Rattle.clap.specs.Kinds.{Kinds, IsAmong, or_else}
use Rattle.clap.specs.Faults.{check_fault, defaults_fault, entered_fault, fault_of, is_simple_and_free, level_fault, settle_fault, turn_fault, walk_fault}
use Rattle.clap.specs.declared.error.kind.ErrorKind.{ErrorKind}
use Rattle.clap.proofs.FaultLemmas.{stopped_fault}
use Rattle.clap.proofs.WalkLemmas.{both}
use Rattle.ws_kinds.specs.ConfigValue.{ConfigValue}
use Rattle.command_words.specs.declared.command.Command.{Command}
use Rattle.command_words.specs.declared.command.Command.TheVariants as command
use Rattle.command_words.specs.Meaning.{Text, Given, Setting, ◌>>=◌, config_of_values, echo_meant, echo_of, echo_options, has_option, made_meant, may_stand, max_message_option, limit_option, ping_after_option, idle_option, leave_option, max_conns_option, meant, number, number_in, options_among, port_option, replay_meant, replay_of, replay_options, serve_meant, serve_of, serve_options, turns_option, value_of}
use Rattle.command_words.specs.Grammar.{bare_command, command_of, commands}
use Rattle.command_words.proofs.Walked.{IsCommand, are_options, command_faults, command_rows, first_given, given_in, no_fault, nonempty_first, or_else-none, row, starts_with_hyphen, unusual_false, unusual_word, usual_dashes, usual_long, usual_plain}
use Rattle.command_words.proofs.Meant.{among_taken, are_numbers, bind_some, both_true, may_be, no_hyphen, numbered, taken_among}

-- ---- the commands, as clap builds them

abbrev sub_at : ℕ → List Shape → Shape
sub_at n [] = bare_command.top
sub_at zero (s ∷ rest) = s
sub_at (suc n) (s ∷ rest) = sub_at n rest

abbrev top : Shape
top = (built commands).top

abbrev names : Names
names = names_of (built commands)

abbrev echo_leaf : Shape
echo_leaf = sub_at 0 (built commands).subs

abbrev replay_leaf : Shape
replay_leaf = sub_at 1 (built commands).subs

abbrev serve_leaf : Shape
serve_leaf = sub_at 2 (built commands).subs

abbrev made_leaf : Shape
made_leaf = sub_at 3 (built commands).subs

pub are_simple_and_free : is_simple_and_free commands ≡ true
are_simple_and_free = refl

pub are_simple : is_simple commands ≡ true
are_simple = refl

echo_is : IsCommand echo_options echo_leaf
echo_is = record { rules = refl; once = refl; checks = λ rows. refl }

replay_is : IsCommand replay_options replay_leaf
replay_is = record { rules = refl; once = refl; checks = λ rows. refl }

serve_is : IsCommand serve_options serve_leaf
serve_is = record { rules = refl; once = refl; checks = λ rows. refl }

-- ---- the seed

-- one word, which is no option
abbrev is_seed : List Text → Bool
is_seed [] = false
is_seed (word ∷ []) = not (starts_with_hyphen word)
is_seed (word ∷ next ∷ rest) = false

-- behind the seed
abbrev after_seed : Text → Walk
after_seed word = record { held = record { rows = []; pending = Some (codes "seed", word ∷ []); skip = 0 }; waiting = idle; position = 2; is_trailing = false; stopped = None }

first_long : (word : Text) (p : Text × Option Text) → may_stand word ≡ true → long_of word ≡ Some p → no_fault (turn_fault made_leaf [] (walk_from nothing_held) word) ≡ false
first_long word p usual long = rw (usual_dashes word usual, long) refl

first_plain : (word : Text) → may_stand word ≡ true → long_of word ≡ None
    → (turn_fault made_leaf [] (walk_from nothing_held) word ≡ []) × (walked made_leaf.rules [] (walk_from nothing_held) word ≡ after_seed word)
unfolding walked
first_plain word usual none = (rw (usual_dashes word usual, none, (usual_plain word usual none).1) refl, rw (usual_dashes word usual, none, (usual_plain word usual none).1) refl)

second_fails : (word next : Text) → may_stand next ≡ true → no_fault (turn_fault made_leaf [] (after_seed word) next) ≡ false
second_fails word next usual = go (long_of next) refl
  where
    go : (l : Option (Text × Option Text)) → long_of next ≡ l → no_fault (turn_fault made_leaf [] (after_seed word) next) ≡ false
    go (Some p) long = rw (usual_dashes next usual, long) refl
    go None none = rw (usual_dashes next usual, none, (usual_plain next usual none).1) refl

made_faults : (words : List Text) → list_all may_stand words ≡ true → no_fault (level_fault made_leaf [] nothing_held words false []) ≡ is_seed words
unfolding walk_fault defaults_fault walked
made_faults [] usual = refl
made_faults (word ∷ []) usual = go (long_of word) refl
  where
    go : (l : Option (Text × Option Text)) → long_of word ≡ l → no_fault (level_fault made_leaf [] nothing_held (word ∷ []) false []) ≡ not (starts_with_hyphen word)
    go (Some p) long = nonempty_first _ _ (nonempty_first _ _ (first_long word p (both _ _ usual).0 long)) ∙ ap not (sym (usual_long word p long))
    go None none =
        let taken : no_fault (level_fault made_leaf [] nothing_held (word ∷ []) false []) ≡ true = rw (usual_dashes word (both _ _ usual).0, none, (usual_plain word (both _ _ usual).0 none).1) refl in
        taken ∙ ap not (sym (usual_plain word (both _ _ usual).0 none).0)
made_faults (word ∷ next ∷ rest) usual = nonempty_first _ _ (go (long_of word) refl)
  where
    go : (l : Option (Text × Option Text)) → long_of word ≡ l → no_fault (walk_fault made_leaf [] (walk_from nothing_held) (word ∷ next ∷ rest)) ≡ false
    go (Some p) long = nonempty_first _ _ (first_long word p (both _ _ usual).0 long)
    go None none =
        let step = first_plain word (both _ _ usual).0 none in
        ap₂ (λ k w. no_fault (or_else k (walk_fault made_leaf [] w (next ∷ rest)))) step.0 step.1
        ∙ nonempty_first _ _ (second_fails word next (both _ _ (both _ _ usual).1).0)

made_rows : (words : List Text) → list_all may_stand words ≡ true → is_seed words ≡ true
    → (word : Text) × (words ≡ word ∷ []) × (rows_after made_leaf.rules [] words ≡ row (codes "seed", word) ∷ [])
unfolding walked
made_rows [] usual right = absurd (true≢false (sym right))
made_rows (word ∷ []) usual right = (word, refl, go (long_of word) refl)
  where
    go : (l : Option (Text × Option Text)) → long_of word ≡ l → rows_after made_leaf.rules [] (word ∷ []) ≡ row (codes "seed", word) ∷ []
    go (Some p) long = absurd (true≢false (sym right ∙ ap not (usual_long word p long)))
    go None none = rw (usual_dashes word (both _ _ usual).0, none, (usual_plain word (both _ _ usual).0 none).1) refl
made_rows (word ∷ next ∷ rest) usual right = absurd (true≢false (sym right))

-- ---- above the commands

abbrev stopped_at : Text → List Text → Walk
stopped_at name rest = record { held = nothing_held; waiting = idle; position = 1; is_trailing = false; stopped = Some (name, rest) }

-- once a subcommand was met, the walk passes the rest on
stopped_walk : (c : List Rule) (ns : Names) (name : Text) (front rest : List Text) → fold (walked c ns) (stopped_at name front) rest ≡ stopped_at name (front ++ rest)
unfolding walked
stopped_walk c ns name front [] = ap (stopped_at name) (sym (append-nil front))
stopped_walk c ns name front (word ∷ rest) = stopped_walk c ns name (front ++ word ∷ []) rest ∙ ap (stopped_at name) (append_assoc front (word ∷ []) rest)

sub_faults : (name : Text) (rest : List Text) (first : walked top.rules names (walk_from nothing_held) name ≡ stopped_at name []) → turn_fault top names (walk_from nothing_held) name ≡ []
    → is_some (entered (built commands) (Some (name, rest))) ≡ true
    → fault_of commands (name ∷ rest) ≡ entered_fault (built commands) (Some (name, rest))
unfolding walk_fault defaults_fault
sub_faults name rest first passes has =
    let c = top.rules in
    let end : walk c names nothing_held (name ∷ rest) ≡ stopped_at name rest = ap (λ w. fold (walked c names) w rest) first ∙ stopped_walk c names name [] rest in
    let walk_passes : walk_fault top names (walk_from nothing_held) (name ∷ rest) ≡ [] = ap₂ (λ k w. or_else k (walk_fault top names w rest)) passes first ∙ stopped_fault top names (stopped_at name []) (name, []) rest in
    ap₂ (λ k (w : Walk). or_else k (or_else (entered_fault (built commands) w.stopped) (or_else (settle_fault top.rules top.args_override_self w.held) (or_else (defaults_fault (settled top.rules w.held).rows top.rules) (check_fault top (finished top.rules w.held) (is_some (entered (built commands) w.stopped))))))) walk_passes end
    ∙ ap (λ b. or_else (entered_fault (built commands) (Some (name, rest))) (or_else [] (or_else [] (check_fault top (finished top.rules nothing_held) b)))) has
    ∙ or_else-none _

unknown_command : (word : Text) (rest : List Text) → may_stand word ≡ true → bytes_eq (codes "echo") word ≡ false → bytes_eq (codes "replay") word ≡ false
    → bytes_eq (codes "serve") word ≡ false → bytes_eq (codes "made") word ≡ false → no_fault (turn_fault top names (walk_from nothing_held) word) ≡ false
unknown_command word rest usual e f s g = go (long_of word) refl
  where
    go : (l : Option (Text × Option Text)) → long_of word ≡ l → no_fault (turn_fault top names (walk_from nothing_held) word) ≡ false
    go (Some p) long = rw (e, f, s, g, usual_dashes word usual, long) refl
    go None none = rw (e, f, s, g, usual_dashes word usual, none, (usual_plain word usual none).1) refl

echo_first : (rest : List Text) → list_all may_stand rest ≡ true → no_fault (fault_of commands (codes "echo" ∷ rest)) ≡ are_options (has_option echo_options) None [] rest
unfolding walked
echo_first rest usual = ap no_fault (sub_faults (codes "echo") rest refl refl refl) ∙ command_faults echo_options echo_leaf echo_is rest usual

replay_first : (rest : List Text) → list_all may_stand rest ≡ true → no_fault (fault_of commands (codes "replay" ∷ rest)) ≡ are_options (has_option replay_options) None [] rest
unfolding walked
replay_first rest usual = ap no_fault (sub_faults (codes "replay") rest refl refl refl) ∙ command_faults replay_options replay_leaf replay_is rest usual

serve_first : (rest : List Text) → list_all may_stand rest ≡ true → no_fault (fault_of commands (codes "serve" ∷ rest)) ≡ are_options (has_option serve_options) None [] rest
unfolding walked
serve_first rest usual = ap no_fault (sub_faults (codes "serve") rest refl refl refl) ∙ command_faults serve_options serve_leaf serve_is rest usual

made_first : (rest : List Text) → list_all may_stand rest ≡ true → no_fault (fault_of commands (codes "made" ∷ rest)) ≡ is_seed rest
unfolding walked
made_first rest usual = ap no_fault (sub_faults (codes "made") rest refl refl refl) ∙ made_faults rest usual

-- ---- which words clap takes

abbrev if_command : Text → Bool → Bool → Bool → Bool → Bool
if_command word echo replay serve made =
    cond (bytes_eq (codes "echo") word) echo
    (cond (bytes_eq (codes "replay") word) replay (cond (bytes_eq (codes "serve") word) serve (cond (bytes_eq (codes "made") word) made false)))

abbrev pub are_taken : List Text → Bool
are_taken [] = false
are_taken (word ∷ rest) = if_command word (are_options (has_option echo_options) None [] rest) (are_options (has_option replay_options) None [] rest)
    (are_options (has_option serve_options) None [] rest) (is_seed rest)

-- which command a word is
data Which (word : Text) : Type 0 where
  echo : codes "echo" ≡ word → Which word
  replay : codes "replay" ≡ word → Which word
  serve : codes "serve" ≡ word → Which word
  made : codes "made" ≡ word → Which word
  unknown : bytes_eq (codes "echo") word ≡ false → bytes_eq (codes "replay") word ≡ false → bytes_eq (codes "serve") word ≡ false
      → bytes_eq (codes "made") word ≡ false → Which word

which : (word : Text) → Which word
which word = go (bytes_eq (codes "echo") word) (bytes_eq (codes "replay") word) (bytes_eq (codes "serve") word) (bytes_eq (codes "made") word) refl refl refl refl
  where
    go : (a b c d : Bool) → bytes_eq (codes "echo") word ≡ a → bytes_eq (codes "replay") word ≡ b → bytes_eq (codes "serve") word ≡ c
        → bytes_eq (codes "made") word ≡ d → Which word
    go true b c d e f s g = echo (search (rules, bytes_eq-Decides (codes "echo") word))
    go false true c d e f s g = replay (search (rules, bytes_eq-Decides (codes "replay") word))
    go false false true d e f s g = serve (search (rules, bytes_eq-Decides (codes "serve") word))
    go false false false true e f s g = made (search (rules, bytes_eq-Decides (codes "made") word))
    go false false false false e f s g = unknown e f s g

none_taken : (word : Text) (a b c d : Bool) → bytes_eq (codes "echo") word ≡ false → bytes_eq (codes "replay") word ≡ false
    → bytes_eq (codes "serve") word ≡ false → bytes_eq (codes "made") word ≡ false → if_command word a b c d ≡ false
none_taken word a b c d e f s g = rw (e, f, s, g) refl

taken_exactly : (words : List Text) → list_all may_stand words ≡ true → no_fault (fault_of commands words) ≡ are_taken words
unfolding walk_fault defaults_fault
taken_exactly [] usual = refl
taken_exactly (word ∷ rest) usual = go (which word)
  where
    go : Which word → no_fault (fault_of commands (word ∷ rest)) ≡ are_taken (word ∷ rest)
    go (echo same) = subst (λ w. no_fault (fault_of commands (w ∷ rest)) ≡ are_taken (w ∷ rest)) same (echo_first rest (both _ _ usual).1)
    go (replay same) = subst (λ w. no_fault (fault_of commands (w ∷ rest)) ≡ are_taken (w ∷ rest)) same (replay_first rest (both _ _ usual).1)
    go (serve same) = subst (λ w. no_fault (fault_of commands (w ∷ rest)) ≡ are_taken (w ∷ rest)) same (serve_first rest (both _ _ usual).1)
    go (made same) = subst (λ w. no_fault (fault_of commands (w ∷ rest)) ≡ are_taken (w ∷ rest)) same (made_first rest (both _ _ usual).1)
    go (unknown e f s g) = nonempty_first _ _ (nonempty_first _ _ (unknown_command word rest (both _ _ usual).0 e f s g)) ∙ sym (none_taken word _ _ _ _ e f s g)

-- ---- what words mean that clap does not take

seed_unusual : (words : List Text) → list_all may_stand words ≡ false → is_seed words ≡ false
seed_unusual [] h = refl
seed_unusual (word ∷ []) h = ap not (unusual_word word (and_true (may_stand word) ∙ h)).0
seed_unusual (word ∷ next ∷ rest) h = refl

rest_unusual : (name word : Text) (rest : List Text) → name ≡ word → may_stand name ≡ true → list_all may_stand (word ∷ rest) ≡ false → list_all may_stand rest ≡ false
rest_unusual name word rest same stands h = ap (λ b. b && list_all may_stand rest) (sym stands ∙ ap may_stand same) ∙ h

-- words that clap is not handed are none that it would take
pub unusual_taken : (words : List Text) → list_all may_stand words ≡ false → are_taken words ≡ false
unusual_taken [] h = refl
unusual_taken (word ∷ rest) h = go (which word)
  where
    go : Which word → are_taken (word ∷ rest) ≡ false
    go (echo same) = subst (λ w. are_taken (w ∷ rest) ≡ false) same (unusual_false (has_option echo_options) rest (rest_unusual (codes "echo") word rest same refl h) None [])
    go (replay same) = subst (λ w. are_taken (w ∷ rest) ≡ false) same (unusual_false (has_option replay_options) rest (rest_unusual (codes "replay") word rest same refl h) None [])
    go (serve same) = subst (λ w. are_taken (w ∷ rest) ≡ false) same (unusual_false (has_option serve_options) rest (rest_unusual (codes "serve") word rest same refl h) None [])
    go (made same) = subst (λ w. are_taken (w ∷ rest) ≡ false) same (seed_unusual rest (rest_unusual (codes "made") word rest same refl h))
    go (unknown e f s g) = none_taken word _ _ _ _ e f s g

-- ---- what the words mean that clap does not take

by_none : {A B : Type 0} (o : Option A) (f : A → Option B) → ((x : A) → o ≡ Some x → f x ≡ None) → (o >>= f) ≡ None
by_none None f h = refl
by_none (Some x) f h = h x refl

echo_none : (rest : List Text) → are_options (has_option echo_options) None [] rest ≡ false → echo_meant rest ≡ None
echo_none rest fails = by_none (options_among echo_options rest) (λ given. echo_of (value_of given))
    (λ given among. by_none (number max_message_option (value_of given)) (λ n. Some (command.Echo n))
    (λ n is. absurd (clash _ fails (among_taken echo_options rest given among (both_true _ _ (numbered max_message_option (value_of given (codes "max-message")) n is) refl)))))

config_numbers : (given : List Given) (config : ConfigValue) → config_of_values (value_of given) ≡ Some config → are_numbers replay_options given ≡ true
config_numbers given config e =
    let (max_message, a, after_a) = bind_some (number max_message_option (value_of given)) _ _ e in
    let (limit, b, after_b) = bind_some (number limit_option (value_of given)) _ _ after_a in
    let (ping_after, c, after_c) = bind_some (number ping_after_option (value_of given)) _ _ after_b in
    let (end, d, after_d) = bind_some (number idle_option (value_of given)) _ _ after_c in
    let (leave, f, after_f) = bind_some (number leave_option (value_of given)) _ _ after_d in
    let (max_conns, g, after_g) = bind_some (number max_conns_option (value_of given)) _ _ after_f in
    both_true _ _ (numbered max_message_option (value_of given (codes "max-message")) max_message a) (both_true _ _ (numbered limit_option (value_of given (codes "limit")) limit b)
    (both_true _ _ (numbered ping_after_option (value_of given (codes "ping-after")) ping_after c) (both_true _ _ (numbered idle_option (value_of given (codes "idle")) end d)
    (both_true _ _ (numbered leave_option (value_of given (codes "leave")) leave f) (both_true _ _ (numbered max_conns_option (value_of given (codes "max-conns")) max_conns g) refl)))))

replay_none : (rest : List Text) → are_options (has_option replay_options) None [] rest ≡ false → replay_meant rest ≡ None
replay_none rest fails = by_none (options_among replay_options rest) (λ given. replay_of (value_of given))
    (λ given among. by_none (config_of_values (value_of given)) (λ config. Some (command.Replay config))
    (λ config is. absurd (clash _ fails (among_taken replay_options rest given among (config_numbers given config is)))))

abbrev with_turns : ConfigValue → ℕ → Option ℕ → Option Command
with_turns config port turns = turns >>= λ turns. Some (command.Serve config port turns)

abbrev with_port : ConfigValue → Option ℕ → Option ℕ → Option Command
with_port config port turns = port >>= λ port. with_turns config port turns

serve_numbers : (given : List Given) (config : ConfigValue) (port turns : ℕ) → config_of_values (value_of given) ≡ Some config
    → number port_option (value_of given) ≡ Some port → number turns_option (value_of given) ≡ Some turns → are_numbers serve_options given ≡ true
serve_numbers given config port turns is at ends =
    list_all-append (λ (setting : Setting). may_be setting (value_of given setting.name)) replay_options (port_option ∷ turns_option ∷ [])
    ∙ both_true _ _ (config_numbers given config is) (both_true _ _ (numbered port_option (value_of given (codes "port")) port at) (both_true _ _ (numbered turns_option (value_of given (codes "turns")) turns ends) refl))

serve_none : (rest : List Text) → are_options (has_option serve_options) None [] rest ≡ false → serve_meant rest ≡ None
serve_none rest fails = by_none (options_among serve_options rest) (λ given. serve_of (value_of given))
    (λ given among. by_none (config_of_values (value_of given)) (λ config. with_port config (number port_option (value_of given)) (number turns_option (value_of given)))
    (λ config is. by_none (number port_option (value_of given)) (λ port. with_turns config port (number turns_option (value_of given)))
    (λ port at. by_none (number turns_option (value_of given)) (λ turns. Some (command.Serve config port turns))
    (λ turns ends. absurd (clash _ fails (among_taken serve_options rest given among (serve_numbers given config port turns is at ends)))))))

made_none : (rest : List Text) → is_seed rest ≡ false → made_meant rest ≡ None
made_none [] fails = refl
made_none (seed ∷ []) fails = by_none (number_in 0 18446744073709551615 seed) (λ n. Some (command.Made n))
    (λ n is. absurd (clash _ fails (no_hyphen seed 0 18446744073709551615 (ap is_some is))))
made_none (seed ∷ next ∷ rest) fails = refl

pub refused : (words : List Text) → are_taken words ≡ false → meant words ≡ None
refused [] h = refl
refused (word ∷ rest) h = go (which word)
  where
    go : Which word → meant (word ∷ rest) ≡ None
    go (echo same) = subst (λ w. meant (w ∷ rest) ≡ None) same (echo_none rest (ap (λ w. are_taken (w ∷ rest)) same ∙ h))
    go (replay same) = subst (λ w. meant (w ∷ rest) ≡ None) same (replay_none rest (ap (λ w. are_taken (w ∷ rest)) same ∙ h))
    go (serve same) = subst (λ w. meant (w ∷ rest) ≡ None) same (serve_none rest (ap (λ w. are_taken (w ∷ rest)) same ∙ h))
    go (made same) = subst (λ w. meant (w ∷ rest) ≡ None) same (made_none rest (ap (λ w. are_taken (w ∷ rest)) same ∙ h))
    go (unknown e f s g) = rw (e, f, s, g) refl

-- ---- what clap finds in the words that it takes

sub_stop : (name : Text) (rest : List Text) (first : walked top.rules names (walk_from nothing_held) name ≡ stopped_at name []) → stop_after top.rules names (name ∷ rest) ≡ Some (name, rest)
sub_stop name rest first = ap (λ (w : Walk). w.stopped) (ap (λ w. fold (walked top.rules names) w rest) first ∙ stopped_walk top.rules names name [] rest)

echo_stop : (rest : List Text) → stop_after top.rules names (codes "echo" ∷ rest) ≡ Some (codes "echo", rest)
unfolding walked
echo_stop rest = sub_stop (codes "echo") rest refl

replay_stop : (rest : List Text) → stop_after top.rules names (codes "replay" ∷ rest) ≡ Some (codes "replay", rest)
unfolding walked
replay_stop rest = sub_stop (codes "replay") rest refl

serve_stop : (rest : List Text) → stop_after top.rules names (codes "serve" ∷ rest) ≡ Some (codes "serve", rest)
unfolding walked
serve_stop rest = sub_stop (codes "serve") rest refl

made_stop : (rest : List Text) → stop_after top.rules names (codes "made" ∷ rest) ≡ Some (codes "made", rest)
unfolding walked
made_stop rest = sub_stop (codes "made") rest refl

-- the command that clap finds, and the rows of its arguments, give what the words mean
abbrev IsFound : List Text → Type 0
IsFound words = (name : Text) × (rows : List Row) × (subcommand_of commands words ≡ Some (name, rows)) × (command_of name (λ argument. first_of argument rows) ≡ meant words)

given_rows : (given : List Given) → (λ name. first_of name (map row given)) ≡ value_of given
given_rows given = λ i name. (first_given given name) i

echo_found : (rest : List Text) → list_all may_stand rest ≡ true → are_options (has_option echo_options) None [] rest ≡ true → IsFound (codes "echo" ∷ rest)
echo_found rest usual right = (
  codes "echo",
  map row (given_in None [] rest),
  ap (entered (built commands)) (echo_stop rest) ∙ ap (λ rows. Some (codes "echo", rows)) (command_rows echo_options echo_leaf echo_is rest usual right),
  ap echo_of (given_rows (given_in None [] rest)) ∙ sym (ap (λ o. o >>= λ given. echo_of (value_of given)) (taken_among echo_options rest right)),
)

replay_found : (rest : List Text) → list_all may_stand rest ≡ true → are_options (has_option replay_options) None [] rest ≡ true → IsFound (codes "replay" ∷ rest)
replay_found rest usual right = (
  codes "replay",
  map row (given_in None [] rest),
  ap (entered (built commands)) (replay_stop rest) ∙ ap (λ rows. Some (codes "replay", rows)) (command_rows replay_options replay_leaf replay_is rest usual right),
  ap replay_of (given_rows (given_in None [] rest)) ∙ sym (ap (λ o. o >>= λ given. replay_of (value_of given)) (taken_among replay_options rest right)),
)

serve_found : (rest : List Text) → list_all may_stand rest ≡ true → are_options (has_option serve_options) None [] rest ≡ true → IsFound (codes "serve" ∷ rest)
serve_found rest usual right = (
  codes "serve",
  map row (given_in None [] rest),
  ap (entered (built commands)) (serve_stop rest) ∙ ap (λ rows. Some (codes "serve", rows)) (command_rows serve_options serve_leaf serve_is rest usual right),
  ap serve_of (given_rows (given_in None [] rest)) ∙ sym (ap (λ o. o >>= λ given. serve_of (value_of given)) (taken_among serve_options rest right)),
)

made_found : (rest : List Text) → list_all may_stand rest ≡ true → is_seed rest ≡ true → IsFound (codes "made" ∷ rest)
made_found rest usual right =
    let (seed, is, rows) = made_rows rest usual right in (
      codes "made",
      row (codes "seed", seed) ∷ [],
      ap (entered (built commands)) (made_stop rest) ∙ ap (λ rows. Some (codes "made", rows)) rows,
      ap made_meant (sym is),
    )

pub found : (words : List Text) → list_all may_stand words ≡ true → are_taken words ≡ true → IsFound words
found [] usual h = absurd (true≢false (sym h))
found (word ∷ rest) usual h = go (which word)
  where
    go : Which word → IsFound (word ∷ rest)
    go (echo same) = subst (λ w. IsFound (w ∷ rest)) same (echo_found rest (both _ _ usual).1 (ap (λ w. are_taken (w ∷ rest)) same ∙ h))
    go (replay same) = subst (λ w. IsFound (w ∷ rest)) same (replay_found rest (both _ _ usual).1 (ap (λ w. are_taken (w ∷ rest)) same ∙ h))
    go (serve same) = subst (λ w. IsFound (w ∷ rest)) same (serve_found rest (both _ _ usual).1 (ap (λ w. are_taken (w ∷ rest)) same ∙ h))
    go (made same) = subst (λ w. IsFound (w ∷ rest)) same (made_found rest (both _ _ usual).1 (ap (λ w. are_taken (w ∷ rest)) same ∙ h))
    go (unknown e f s g) = absurd (clash _ (none_taken word _ _ _ _ e f s g) h)

-- ---- for the caller

abbrev pub Words : Type 0
Words = List Text

pub words_taken : (words : Words) → list_all may_stand words ≡ true → fault_of commands words ≡ [] → are_taken words ≡ true
words_taken words usual none = sym (taken_exactly words usual) ∙ ap no_fault none

pub words_refused : (words : Words) (k : ErrorKind) → list_all may_stand words ≡ true → IsAmong k (fault_of commands words) → meant words ≡ None
words_refused words k usual among = refused words (sym (taken_exactly words usual) ∙ go (fault_of commands words) among)
  where
    go : (ks : Kinds) → IsAmong k ks → no_fault ks ≡ false
    go [] h = absurd h
    go (x ∷ xs) h = refl

some_is : {X Y : Type 0} (f : X → Y) (o : Option X) (x : X) (y : Y) → o ≡ Some x → Some y ≡ option_map f o → y ≡ f x
some_is f o x y is e = let same : Some y ≡ Some (f x) = e ∙ ap (option_map f) is in ap (λ o. unwrap_or o y) same

-- what is read of the command that clap found
pub read_of_found : (words : Words) (name : Text) (rows : List Row) → list_all may_stand words ≡ true → fault_of commands words ≡ []
    → Some name ≡ option_map (λ p. p.0) (subcommand_of commands words) → Some rows ≡ option_map (λ p. p.1) (subcommand_of commands words)
    → command_of name (λ argument. first_of argument rows) ≡ meant words
read_of_found words name rows usual none first second =
    let (n, r, is, means) = found words usual (words_taken words usual none) in
    let a : name ≡ n = some_is (λ p. p.0) (subcommand_of commands words) (n, r) name is first in
    let b : rows ≡ r = some_is (λ p. p.1) (subcommand_of commands words) (n, r) rows is second in
    ap₂ (λ n r. command_of n (λ argument. first_of argument r)) a b ∙ means

pub map_first : {X A B : Type 0} (f : X → A) (g : X → B) (o : Option X) → option_map f o ≡ option_map (λ (p : A × B). p.0) (option_map (λ x. (f x, g x)) o)
map_first f g None = refl
map_first f g (Some x) = refl
