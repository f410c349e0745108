-- What clap's walk makes of words behind a command whose options take one value each.
use Rattle.std.proofs.Common.{◌≡◌, ◌∙◌, ◌+◌, ◌&&◌, ◌||◌, ◌==◌, ℕ, Bool, cond, true, false, not, refl, sym, ap, ap₂, subst, arith, List, [], ◌∷◌, ◌++◌, map, length, Option, Some, None, is_some, true≢false, nat_lt, fold, rules, option_and_then, option_map, find, slice_get}
use Rattle.std.specs.List.{list_all}
use Rattle.std.proofs.lemmas.Bool.{lt-ltb}
use Rattle.std.specs.Str.{bytes_eq}
use Rattle.std.proofs.lemmas.Slice.Eq.{bytes_eq-Decides}
use Rattle.clap.specs.Lexer.{long_of, short_of}
use Rattle.clap.specs.Walk.{Held, Row, Rule, Waiting, idle, option, Walk, action_of, arg_by_id, arg_by_index, arg_by_long, takes_values, settled, used, walked, has_row, walk, at_row, subcommand_met, more_values, with_default, walk_from, nothing_held, finished, first_of, rows_after}
use Rattle.clap.specs.Facts.{unwrap_or_range, parser_of_value}
use Rattle.clap.specs.Simple.{Shape}
use Rattle.clap.specs.Kinds.{Kinds, or_else}
use Rattle.clap.specs.Faults.{turn_fault, walk_fault, settle_fault, use_fault, react_fault, stray_fault}
use Rattle.clap.specs.declared.builder.action.ArgAction.TheVariants.{Set}
use Rattle.clap.specs.declared.parser.matches.ValueSource.TheVariants.{CommandLine}
use Rattle.clap.specs.declared.builder.value_parser.Reading.TheVariants.{AsWritten}
use Rattle.clap.specs.declared.builder.value_parser.ValueParser.TheVariants as vp
use Rattle.clap.specs.declared.error.kind.ErrorKind.TheVariants as kind
use Rattle.std.proofs.lemmas.List.{append-nil, map-append}
use Rattle.clap.proofs.SimpleLemmas.{is_false}
use Rattle.clap.proofs.WalkLemmas.{list_any-map, both}
use Rattle.clap.specs.Simple.{filled}
use Rattle.clap.specs.Faults.{default_fault, defaults_fault, check_fault, level_fault}
use Rattle.command_words.specs.Meaning.{Text, Given, Setting, has_option, is_given as has_name, is_hyphen_before, may_stand, value_of}
use Rattle.command_words.specs.Grammar.{option_rule}

-- ---- which words are options

abbrev pub starts_with_hyphen : Text → Bool
starts_with_hyphen [] = false
starts_with_hyphen (x ∷ xs) = x == 45

-- `name=value` is given, and `name` waits for its value
abbrev pub named : {X : Type 0} → Text → Option Text → List Given → (Option Text → List Given → X) → X
named name (Some v) given next = next None (given ++ (name, v) ∷ [])
named name None given next = next (Some name) given

-- the word is an option that was not given before
abbrev pub begun : (Text → Bool) → Option (Text × Option Text) → List Given → (Option Text → List Given → Bool) → Bool
begun is_option None given next = false
begun is_option (Some p) given next = is_option p.0 && (not (has_name p.0 given) && named p.0 p.1 given next)

-- the words after the given options are options, where the name that waits has its value first
unfoldable pub are_options : (Text → Bool) → Option Text → List Given → List Text → Bool
are_options is_option None given [] = true
are_options is_option (Some name) given [] = false
are_options is_option None given (word ∷ rest) = begun is_option (long_of word) given (λ waiting now. are_options is_option waiting now rest)
are_options is_option (Some name) given (v ∷ rest) = not (starts_with_hyphen v) && are_options is_option None (given ++ (name, v) ∷ []) rest

abbrev pub met : Option (Text × Option Text) → List Given → (Option Text → List Given → List Given) → List Given
met None given next = given
met (Some p) given next = named p.0 p.1 given next

-- the options that are given in the words, with those before
unfoldable pub given_in : Option Text → List Given → List Text → List Given
given_in waiting given [] = given
given_in None given (word ∷ rest) = met (long_of word) given (λ waiting now. given_in waiting now rest)
given_in (Some name) given (v ∷ rest) = given_in None (given ++ (name, v) ∷ []) rest

-- ---- faults

abbrev pub no_fault : Kinds → Bool
no_fault [] = true
no_fault (k ∷ ks) = false

no_fault-else : (a b : Kinds) → no_fault (or_else a b) ≡ (no_fault a && no_fault b)
no_fault-else [] b = refl
no_fault-else (k ∷ ks) b = refl

pub or_else-none : (a : Kinds) → or_else a [] ≡ a
or_else-none [] = refl
or_else-none (k ∷ ks) = refl

or_else-assoc : (a b c : Kinds) → or_else (or_else a b) c ≡ or_else a (or_else b c)
or_else-assoc [] b c = refl
or_else-assoc (k ∷ ks) b c = refl

pub nonempty_first : (a b : Kinds) → no_fault a ≡ false → no_fault (or_else a b) ≡ false
nonempty_first [] b h = absurd (true≢false h)
nonempty_first (k ∷ ks) b h = refl

none_of : (a : Kinds) → no_fault a ≡ true → a ≡ []
none_of [] h = refl
none_of (k ∷ ks) h = absurd (true≢false (sym h))

-- ---- an option as the walk reads it

pub record IsOptionRule (a : Rule) (name : Text) : Type 0 where
  pub id : a.id ≡ name
  pub action : action_of a ≡ Set
  pub least : (unwrap_or_range a.range).start_inclusive ≡ 1
  pub most : (unwrap_or_range a.range).end_inclusive ≡ 1
  pub parser : parser_of_value a.parser ≡ vp.String

takes : (a : Rule) (name : Text) → IsOptionRule a name → takes_values a ≡ true
takes a name is = rw is.most refl

pub record AreRules (is_option : Text → Bool) (c : List Rule) : Type 0 where
  pub known : (name : Text) → is_option name ≡ true → (a : Rule) × (arg_by_long c name ≡ Some a) × (arg_by_id c name ≡ Some a) × IsOptionRule a name
  pub unknown : (name : Text) → is_option name ≡ false → arg_by_long c name ≡ None
  pub no_place : (i : ℕ) → arg_by_index c i ≡ None

pub record IsLeaf (is_option : Text → Bool) (s : Shape) : Type 0 where
  pub rules : AreRules is_option s.rules
  pub once : s.args_override_self ≡ false

-- ---- what is held

abbrev pub row : Given → Row
row p = record { id = p.0; values = p.1 ∷ []; count = None; source = Some CommandLine; reading = AsWritten }

abbrev held : List Given → Option (Text × List Text) → Held
held given pending = record { rows = map row given; pending = pending; skip = 0 }

abbrev at : List Given → Option (Text × List Text) → Waiting → Walk
at given pending waiting = record { held = held given pending; waiting = waiting; position = 1; is_trailing = false; stopped = None }

has_row-map : (name : Text) (given : List Given) → has_row name (map row given) ≡ has_name name given
has_row-map name given = sym (list_any-map (λ (r : Row). bytes_eq r.id name) row given)

bytes_eq-self : (t : Text) → bytes_eq t t ≡ true
bytes_eq-self t = search (rules, bytes_eq-Decides t t)

-- a use of an option with one value fails only where it was used before
used_once : (a : Rule) (name v : Text) (given : List Given) → IsOptionRule a name
    → no_fault (use_fault false a (v ∷ []) (map row given)) ≡ not (has_name name given)
used_once a name v given is = rw (is.action, is.least, is.most, is.parser, is.id, has_row-map name given) (go (has_name name given))
  where
    go : (b : Bool) → no_fault (or_else (cond (b && true) (kind.ArgumentConflict ∷ []) []) []) ≡ not b
    go true = refl
    go false = refl

absent : (name : Text) (change : Row → List Row) (missing : List Row) (given : List Given) → has_name name given ≡ false
    → at_row name change missing (map row given) ≡ map row given ++ missing
absent name change missing [] fresh = refl
absent name change missing (p ∷ rest) fresh = go (bytes_eq p.0 name) fresh (absent name change missing rest)
  where
    go : (b : Bool) → (b || has_name name rest) ≡ false → (has_name name rest ≡ false → at_row name change missing (map row rest) ≡ map row rest ++ missing)
        → cond b (change (row p) ++ map row rest) (row p ∷ at_row name change missing (map row rest)) ≡ row p ∷ (map row rest ++ missing)
    go true h next = absurd (true≢false h)
    go false h next = ap (λ l. row p ∷ l) (next h)

used_rows : (a : Rule) (name v : Text) (given : List Given) → IsOptionRule a name → has_name name given ≡ false
    → used a (v ∷ []) (map row given) ≡ map row (given ++ (name, v) ∷ [])
used_rows a name v given is fresh =
    rw (is.action, is.parser, is.id, absent name (λ _. []) [] given fresh, append-nil (map row given)) (absent name (more_values CommandLine (v ∷ [])) (row (name, v) ∷ []) given fresh ∙ sym (map-append row given ((name, v) ∷ [])))

settle_one : {is_option : Text → Bool} (c : List Rule) (name v : Text) (given : List Given) → AreRules is_option c → is_option name ≡ true
    → no_fault (settle_fault c false (held given (Some (name, v ∷ [])))) ≡ not (has_name name given)
settle_one c name v given are option_name =
    let (a, long, by_id, is) = are.known name option_name in rw by_id (used_once a name v given is)

settle_empty : {is_option : Text → Bool} (c : List Rule) (name : Text) (given : List Given) → AreRules is_option c → is_option name ≡ true
    → no_fault (settle_fault c false (held given (Some (name, [])))) ≡ false
settle_empty c name given are option_name =
    let (a, long, by_id, is) = are.known name option_name in rw (by_id, is.least) refl

react_once : (c : List Rule) (a : Rule) (name v : Text) (h : Held) (rows : List Given) → IsOptionRule a name → (settled c h).rows ≡ map row rows → has_name name rows ≡ false
    → or_else (react_fault c false a (v ∷ []) h) [] ≡ or_else (settle_fault c false h) []
react_once c a name v h rows is same fresh =
    let unused : use_fault false a (v ∷ []) (settled c h).rows ≡ [] = ap (use_fault false a (v ∷ [])) same ∙ none_of _ (used_once a name v rows is ∙ ap not fresh) in
    ap (λ k. or_else (or_else (settle_fault c false h) k) []) unused ∙ ap (λ k. or_else k []) (or_else-none (settle_fault c false h))

-- ---- words

pub usual_dashes : (word : Text) → may_stand word ≡ true → bytes_eq word (45 ∷ 45 ∷ []) ≡ false
usual_dashes word usual = go (bytes_eq word (45 ∷ 45 ∷ [])) refl
  where
    go : (b : Bool) → bytes_eq word (45 ∷ 45 ∷ []) ≡ b → b ≡ false
    go false e = refl
    go true e =
        let same : word ≡ 45 ∷ 45 ∷ [] = search (rules, bytes_eq-Decides word (45 ∷ 45 ∷ [])) in
        absurd (true≢false (sym usual ∙ ap may_stand same))

hyphens_long : (x : ℕ) (xs : List ℕ) → (x == 45) ≡ true → is_hyphen_before xs ≡ true → is_some (long_of (x ∷ xs)) ≡ true
hyphens_long x [] e h = absurd (true≢false (sym h))
hyphens_long x (y ∷ []) e h = absurd (true≢false (sym (both (y == 45) _ h).1))
hyphens_long x (y ∷ z ∷ zs) e h = rw (e, (both (y == 45) _ h).0) refl

-- a usual word that is no long option has no hyphen in front
pub usual_plain : (word : Text) → may_stand word ≡ true → long_of word ≡ None → (starts_with_hyphen word ≡ false) × (short_of word ≡ None)
usual_plain [] usual none = (refl, refl)
usual_plain (x ∷ xs) usual none = go (x == 45) refl usual none
  where
    go : (b : Bool) → (x == 45) ≡ b → cond b (is_hyphen_before xs) true ≡ true → long_of (x ∷ xs) ≡ None → (starts_with_hyphen (x ∷ xs) ≡ false) × (short_of (x ∷ xs) ≡ None)
    go false e u n = (e, rw e refl)
    go true e u n = absurd (true≢false (sym (hyphens_long x xs e u) ∙ ap is_some n))

pub usual_long : (word : Text) (p : Text × Option Text) → long_of word ≡ Some p → starts_with_hyphen word ≡ true
usual_long [] p e = absurd (true≢false (sym (ap is_some e)))
usual_long (x ∷ xs) p e = go (x == 45) refl
  where
    go : (b : Bool) → (x == 45) ≡ b → b ≡ true
    go true is = refl
    go false is =
        let none : is_some (long_of (x ∷ xs)) ≡ false = rw is refl in
        absurd (true≢false (sym (ap is_some e) ∙ none))

-- ---- one word

abbrev walk_with : List Row → Walk
walk_with rs = record { held = record { rows = rs; pending = None; skip = 0 }; waiting = idle; position = 1; is_trailing = false; stopped = None }

abbrev walk_waiting : List Row → Text → Walk
walk_waiting rs n = record { held = record { rows = rs; pending = Some (n, []); skip = 0 }; waiting = option n; position = 1; is_trailing = false; stopped = None }

stray : (s : Shape) → no_fault (stray_fault s) ≡ false
stray s = go s.is_leaf
  where
    go : (b : Bool) → no_fault (cond b (kind.UnknownArgument ∷ []) (kind.UnknownArgument ∷ kind.InvalidSubcommand ∷ [])) ≡ false
    go true = refl
    go false = refl

module _ (is_option : Text → Bool) (s : Shape) (leaf : IsLeaf is_option s) where
  -- nothing waits, and the word is no option
  idle_plain : (given : List Given) (pending : Option (Text × List Text)) (word : Text) → may_stand word ≡ true → long_of word ≡ None
      → no_fault (turn_fault s [] (at given pending idle) word) ≡ false
  idle_plain given pending word usual none =
      rw (usual_dashes word usual, none, (usual_plain word usual none).1, leaf.rules.no_place 1) (stray s)

  -- an unknown option, whatever waits
  long_unknown : (given : List Given) (pending : Option (Text × List Text)) (waiting : Waiting) (word : Text) (p : Text × Option Text) → may_stand word ≡ true
      → subcommand_met [] waiting word ≡ None → long_of word ≡ Some p → is_option p.0 ≡ false → no_fault (turn_fault s [] (at given pending waiting) word) ≡ false
  long_unknown given pending waiting word p usual met long unknown =
      rw (met, usual_dashes word usual, long, leaf.rules.unknown p.0 unknown) refl

  -- an option with its value behind `=`
  long_with_value : (given : List Given) (pending : Option (Text × List Text)) (word name v : Text) → may_stand word ≡ true
      → long_of word ≡ Some (name, Some v) → is_option name ≡ true → (rows : List Given) → (settled s.rules (held given pending)).rows ≡ map row rows → has_name name rows ≡ false
      → (turn_fault s [] (at given pending idle) word ≡ or_else (settle_fault s.rules false (held given pending)) [])
      × (walked s.rules [] (at given pending idle) word ≡ at (rows ++ (name, v) ∷ []) None idle)
  unfolding walked
  long_with_value given pending word name v usual long named rows same fresh =
      let (a, by_long, by_id, is) = leaf.rules.known name named in (
        rw (usual_dashes word usual, long, by_long, takes a name is, leaf.once) (react_once s.rules a name v (held given pending) rows is same fresh),
        rw (usual_dashes word usual, long, by_long, takes a name is) (ap walk_with (ap (used a (v ∷ [])) same ∙ used_rows a name v rows is fresh)),
      )

  -- an option that waits for its value
  long_alone : (given : List Given) (pending : Option (Text × List Text)) (word name : Text) → may_stand word ≡ true
      → long_of word ≡ Some (name, None) → is_option name ≡ true → (rows : List Given) → (settled s.rules (held given pending)).rows ≡ map row rows
      → (turn_fault s [] (at given pending idle) word ≡ or_else (settle_fault s.rules false (held given pending)) [])
      × (walked s.rules [] (at given pending idle) word ≡ at rows (Some (name, [])) (option name))
  unfolding walked
  long_alone given pending word name usual long named rows same =
      let (a, by_long, by_id, is) = leaf.rules.known name named in (
        rw (usual_dashes word usual, long, by_long, takes a name is, leaf.once) refl,
        rw (usual_dashes word usual, long, by_long, takes a name is) (ap₂ walk_waiting same is.id),
      )

  -- the value that was waited for
  value_met : (given : List Given) (word name : Text) → may_stand word ≡ true → long_of word ≡ None → is_option name ≡ true
      → (turn_fault s [] (at given (Some (name, [])) (option name)) word ≡ [])
      × (walked s.rules [] (at given (Some (name, [])) (option name)) word ≡ at given (Some (name, word ∷ [])) idle)
  unfolding walked
  value_met given word name usual none named =
      let (a, by_long, by_id, is) = leaf.rules.known name named in
      (rw (usual_dashes word usual, none, (usual_plain word usual none).1) refl, rw (usual_dashes word usual, none, (usual_plain word usual none).1, by_id, is.most, is.id, bytes_eq-self name) refl)

  -- an option, where what is pending fails
  long_after : (given : List Given) (pending : Option (Text × List Text)) (waiting : Waiting) (word : Text) (p : Text × Option Text) → may_stand word ≡ true
      → subcommand_met [] waiting word ≡ None → long_of word ≡ Some p → no_fault (settle_fault s.rules false (held given pending)) ≡ false
      → no_fault (turn_fault s [] (at given pending waiting) word) ≡ false
  long_after given pending waiting word p usual met long fails = go (is_option p.0) refl
    where
      with_value : (v : Option Text) → long_of word ≡ Some (p.0, v) → is_option p.0 ≡ true → no_fault (turn_fault s [] (at given pending waiting) word) ≡ false
      with_value (Some v) is_long named =
          let (a, by_long, by_id, is) = leaf.rules.known p.0 named in
          rw (met, usual_dashes word usual, is_long, by_long, takes a p.0 is, leaf.once) (nonempty_first _ _ (nonempty_first _ _ fails))
      with_value None is_long named =
          let (a, by_long, by_id, is) = leaf.rules.known p.0 named in
          rw (met, usual_dashes word usual, is_long, by_long, takes a p.0 is, leaf.once) (nonempty_first _ _ fails)

      go : (b : Bool) → is_option p.0 ≡ b → no_fault (turn_fault s [] (at given pending waiting) word) ≡ false
      go false unknown = long_unknown given pending waiting word p usual met long unknown
      go true named = with_value p.1 long named

  -- an option with its value behind `=`, given before
  long_again : (given : List Given) (pending : Option (Text × List Text)) (word name v : Text) → may_stand word ≡ true
      → long_of word ≡ Some (name, Some v) → is_option name ≡ true → (rows : List Given) → settle_fault s.rules false (held given pending) ≡ [] → (settled s.rules (held given pending)).rows ≡ map row rows → has_name name rows ≡ true
      → no_fault (turn_fault s [] (at given pending idle) word) ≡ false
  long_again given pending word name v usual long named rows passes same given_before =
      let (a, by_long, by_id, is) = leaf.rules.known name named in
      let fails : no_fault (use_fault false a (v ∷ []) (settled s.rules (held given pending)).rows) ≡ false = ap (λ rs. no_fault (use_fault false a (v ∷ []) rs)) same ∙ used_once a name v rows is ∙ ap not given_before in
      rw (usual_dashes word usual, long, by_long, takes a name is, leaf.once) (nonempty_first _ _ (ap (λ k. no_fault (or_else k (use_fault false a (v ∷ []) (settled s.rules (held given pending)).rows))) passes ∙ fails))

  -- an option where a value was waited for
  long_for_value : (given : List Given) (word name : Text) (p : Text × Option Text) → may_stand word ≡ true → long_of word ≡ Some p → is_option name ≡ true
      → no_fault (turn_fault s [] (at given (Some (name, [])) (option name)) word) ≡ false
  long_for_value given word name p usual long named =
      long_after given (Some (name, [])) (option name) word p usual refl long (settle_empty s.rules name given leaf.rules named)

  -- the faults of the words from here on, and of what is pending at the end
  total : Walk → List Text → Kinds
  total w [] = settle_fault s.rules false w.held
  total w (word ∷ rest) = or_else (turn_fault s [] w word) (total (walked s.rules [] w word) rest)

  -- what is pending passes, and gives these rows
  record Settles (given : List Given) (pending : Option (Text × List Text)) (rows : List Given) : Type 0 where
    passes : settle_fault s.rules false (held given pending) ≡ []
    same : (settled s.rules (held given pending)).rows ≡ map row rows

  settles_none : (given : List Given) → Settles given None given
  settles_none given = record { passes = refl; same = refl }

  settles_one : (given : List Given) (name v : Text) → is_option name ≡ true → has_name name given ≡ false → Settles given (Some (name, v ∷ [])) (given ++ (name, v) ∷ [])
  settles_one given name v known fresh =
      let (a, by_long, by_id, is) = leaf.rules.known name known in
      record {
        passes = none_of _ (settle_one s.rules name v given leaf.rules known ∙ ap not fresh);
        same = rw by_id (used_rows a name v given is fresh);
      }

  abbrev Idle : List Text → Type 0
  Idle words = (given : List Given) (pending : Option (Text × List Text)) (rows : List Given) → Settles given pending rows
      → no_fault (total (at given pending idle) words) ≡ are_options is_option None rows words

  abbrev Waits : List Text → Type 0
  Waits words = (given : List Given) (name : Text) → is_option name ≡ true → has_name name given ≡ false
      → no_fault (total (at given (Some (name, [])) (option name)) words) ≡ are_options is_option (Some name) given words

  -- an option that was given before fails, whatever follows
  doomed : (words : List Text) → list_all may_stand words ≡ true → (given : List Given) (name v : Text) → is_option name ≡ true → has_name name given ≡ true
      → no_fault (total (at given (Some (name, v ∷ [])) idle) words) ≡ false
  unfolding total
  doomed [] usual given name v known twice = settle_one s.rules name v given leaf.rules known ∙ ap not twice
  doomed (word ∷ rest) usual given name v known twice = nonempty_first _ _ (go (long_of word) refl)
    where
      fails : no_fault (settle_fault s.rules false (held given (Some (name, v ∷ [])))) ≡ false
      fails = settle_one s.rules name v given leaf.rules known ∙ ap not twice

      go : (l : Option (Text × Option Text)) → long_of word ≡ l → no_fault (turn_fault s [] (at given (Some (name, v ∷ [])) idle) word) ≡ false
      go None none = idle_plain given (Some (name, v ∷ [])) word (both _ _ usual).0 none
      go (Some p) long = long_after given (Some (name, v ∷ [])) idle word p (both _ _ usual).0 refl long fails

  doomed_waiting : (words : List Text) → list_all may_stand words ≡ true → (given : List Given) (name : Text) → is_option name ≡ true → has_name name given ≡ true
      → no_fault (total (at given (Some (name, [])) (option name)) words) ≡ false
  unfolding total
  doomed_waiting [] usual given name known twice = settle_empty s.rules name given leaf.rules known
  doomed_waiting (word ∷ rest) usual given name known twice = go (long_of word) refl
    where
      go : (l : Option (Text × Option Text)) → long_of word ≡ l
          → no_fault (or_else (turn_fault s [] (at given (Some (name, [])) (option name)) word) (total (walked s.rules [] (at given (Some (name, [])) (option name)) word) rest)) ≡ false
      go None none =
          let met = value_met given word name (both _ _ usual).0 none known in
          ap₂ (λ k w. no_fault (or_else k (total w rest))) met.0 met.1 ∙ doomed rest (both _ _ usual).1 given name word known twice
      go (Some p) long = nonempty_first _ _ (long_for_value given word name p (both _ _ usual).0 long known)

  waits_step : (word : Text) (rest : List Text) → may_stand word ≡ true → Idle rest → Waits (word ∷ rest)
  unfolding total are_options
  waits_step word rest usual next given name known fresh = go (long_of word) refl
    where
      go : (l : Option (Text × Option Text)) → long_of word ≡ l
          → no_fault (or_else (turn_fault s [] (at given (Some (name, [])) (option name)) word) (total (walked s.rules [] (at given (Some (name, [])) (option name)) word) rest))
          ≡ (not (starts_with_hyphen word) && are_options is_option None (given ++ (name, word) ∷ []) rest)
      go None none =
          let met = value_met given word name usual none known in
          ap₂ (λ k w. no_fault (or_else k (total w rest))) met.0 met.1 ∙ next given (Some (name, word ∷ [])) _ (settles_one given name word known fresh)
          ∙ ap (λ b. not b && are_options is_option None (given ++ (name, word) ∷ []) rest) (sym (usual_plain word usual none).0)
      go (Some p) long = nonempty_first _ _ (long_for_value given word name p usual long known)
          ∙ ap (λ b. not b && are_options is_option None (given ++ (name, word) ∷ []) rest) (sym (usual_long word p long))

  idle_step : (word : Text) (rest : List Text) → may_stand word ≡ true → list_all may_stand rest ≡ true → Idle rest → Waits rest → Idle (word ∷ rest)
  unfolding total are_options
  idle_step word rest usual others next waits given pending rows settles = go (long_of word) refl
    where
      Says : Option (Text × Option Text) → Type 0
      Says l = no_fault (or_else (turn_fault s [] (at given pending idle) word) (total (walked s.rules [] (at given pending idle) word) rest))
          ≡ begun is_option l rows (λ waiting now. are_options is_option waiting now rest)

      read : (name : Text) (v : Option Text) → long_of word ≡ Some (name, v) → is_option name ≡ true → (b : Bool) → has_name name rows ≡ b
          → no_fault (or_else (turn_fault s [] (at given pending idle) word) (total (walked s.rules [] (at given pending idle) word) rest))
          ≡ (not b && named name v rows (λ waiting now. are_options is_option waiting now rest))
      read name (Some v) long known false fresh =
          let met = long_with_value given pending word name v usual long known rows settles.same fresh in
          ap₂ (λ k w. no_fault (or_else k (total w rest))) (met.0 ∙ ap (λ k. or_else k []) settles.passes) met.1 ∙ next _ None _ (settles_none _)
      read name None long known false fresh =
          let met = long_alone given pending word name usual long known rows settles.same in
          ap₂ (λ k w. no_fault (or_else k (total w rest))) (met.0 ∙ ap (λ k. or_else k []) settles.passes) met.1 ∙ waits rows name known fresh
      read name (Some v) long known true twice = nonempty_first _ _ (long_again given pending word name v usual long known rows settles.passes settles.same twice)
      read name None long known true twice =
          let met = long_alone given pending word name usual long known rows settles.same in
          ap₂ (λ k w. no_fault (or_else k (total w rest))) (met.0 ∙ ap (λ k. or_else k []) settles.passes) met.1 ∙ doomed_waiting rest others rows name known twice

      known_or_not : (p : Text × Option Text) → long_of word ≡ Some p → (b : Bool) → is_option p.0 ≡ b
          → no_fault (or_else (turn_fault s [] (at given pending idle) word) (total (walked s.rules [] (at given pending idle) word) rest))
          ≡ (b && (not (has_name p.0 rows) && named p.0 p.1 rows (λ waiting now. are_options is_option waiting now rest)))
      known_or_not p long false unknown = nonempty_first _ _ (long_unknown given pending idle word p usual refl long unknown)
      known_or_not p long true known = read p.0 p.1 long known (has_name p.0 rows) refl

      go : (l : Option (Text × Option Text)) → long_of word ≡ l
          → no_fault (or_else (turn_fault s [] (at given pending idle) word) (total (walked s.rules [] (at given pending idle) word) rest))
          ≡ begun is_option (long_of word) rows (λ waiting now. are_options is_option waiting now rest)
      go None none = nonempty_first _ _ (idle_plain given pending word usual none) ∙ ap (λ l. begun is_option l rows (λ waiting now. are_options is_option waiting now rest)) (sym none)
      go (Some p) long = known_or_not p long (is_option p.0) refl ∙ ap (λ l. begun is_option l rows (λ waiting now. are_options is_option waiting now rest)) (sym long)

  -- clap takes exactly what are options
  walked_exactly : (words : List Text) → list_all may_stand words ≡ true → Idle words × Waits words
  unfolding total are_options
  walked_exactly [] usual = (λ given pending rows settles. ap no_fault settles.passes, λ given name known fresh. settle_empty s.rules name given leaf.rules known)
  walked_exactly (word ∷ rest) usual =
      let below = walked_exactly rest (both _ _ usual).1 in
      (idle_step word rest (both _ _ usual).0 (both _ _ usual).1 below.0 below.1, waits_step word rest (both _ _ usual).0 below.0)

  EndsWith : Walk → List Text → List Given → Type 0
  EndsWith w words rows = (settled s.rules (fold (walked s.rules []) w words).held).rows ≡ map row rows

  abbrev IdleRows : List Text → Type 0
  IdleRows words = (given : List Given) (pending : Option (Text × List Text)) (rows : List Given) → Settles given pending rows → are_options is_option None rows words ≡ true
      → EndsWith (at given pending idle) words (given_in None rows words)

  abbrev WaitsRows : List Text → Type 0
  WaitsRows words = (given : List Given) (name : Text) → is_option name ≡ true → has_name name given ≡ false → are_options is_option (Some name) given words ≡ true
      → EndsWith (at given (Some (name, [])) (option name)) words (given_in (Some name) given words)

  waits_rows : (word : Text) (rest : List Text) → may_stand word ≡ true → IdleRows rest → WaitsRows (word ∷ rest)
  unfolding are_options given_in EndsWith
  waits_rows word rest usual next given name known fresh right =
      let hyphens = both _ _ right in
      go (long_of word) refl hyphens.0 hyphens.1
    where
      go : (l : Option (Text × Option Text)) → long_of word ≡ l → not (starts_with_hyphen word) ≡ true → are_options is_option None (given ++ (name, word) ∷ []) rest ≡ true
          → EndsWith (walked s.rules [] (at given (Some (name, [])) (option name)) word) rest (given_in None (given ++ (name, word) ∷ []) rest)
      go None none hyphen right =
          let step = value_met given word name usual none known in
          ap (λ w. (settled s.rules (fold (walked s.rules []) w rest).held).rows) step.1 ∙ next given (Some (name, word ∷ [])) _ (settles_one given name word known fresh) right
      go (Some p) long hyphen right = absurd (true≢false (sym hyphen ∙ ap not (usual_long word p long)))

  idle_rows : (word : Text) (rest : List Text) → may_stand word ≡ true → IdleRows rest → WaitsRows rest → IdleRows (word ∷ rest)
  unfolding are_options given_in EndsWith
  idle_rows word rest usual next waits given pending rows settles right = go (long_of word) refl right
    where
      read : (name : Text) (v : Option Text) → long_of word ≡ Some (name, v) → is_option name ≡ true → has_name name rows ≡ false → named name v rows (λ waiting now. are_options is_option waiting now rest) ≡ true
          → EndsWith (walked s.rules [] (at given pending idle) word) rest (named name v rows (λ waiting now. given_in waiting now rest))
      read name (Some v) long known fresh right =
          let step = long_with_value given pending word name v usual long known rows settles.same fresh in
          ap (λ w. (settled s.rules (fold (walked s.rules []) w rest).held).rows) step.1 ∙ next _ None _ (settles_none _) right
      read name None long known fresh right =
          let step = long_alone given pending word name usual long known rows settles.same in
          ap (λ w. (settled s.rules (fold (walked s.rules []) w rest).held).rows) step.1 ∙ waits rows name known fresh right

      go : (l : Option (Text × Option Text)) → long_of word ≡ l → begun is_option (long_of word) rows (λ waiting now. are_options is_option waiting now rest) ≡ true
          → EndsWith (walked s.rules [] (at given pending idle) word) rest (met (long_of word) rows (λ waiting now. given_in waiting now rest))
      go None none right = absurd (true≢false (sym right ∙ ap (λ l. begun is_option l rows (λ waiting now. are_options is_option waiting now rest)) none))
      go (Some p) long right =
          let here : begun is_option (Some p) rows (λ waiting now. are_options is_option waiting now rest) ≡ true = ap (λ l. begun is_option l rows (λ waiting now. are_options is_option waiting now rest)) (sym long) ∙ right in
          let first = both (is_option p.0) _ here in
          let second = both (not (has_name p.0 rows)) _ first.1 in
          let P : Option (Text × Option Text) → Type 0 = λ l. EndsWith (walked s.rules [] (at given pending idle) word) rest (met l rows (λ waiting now. given_in waiting now rest)) in
          subst P (sym long) (read p.0 p.1 long first.0 (is_false (has_name p.0 rows) second.0) second.1)

  rows_exactly : (words : List Text) → list_all may_stand words ≡ true → IdleRows words × WaitsRows words
  unfolding are_options given_in EndsWith
  rows_exactly [] usual = (λ given pending rows settles right. settles.same, λ given name known fresh right. absurd (true≢false (sym right)))
  rows_exactly (word ∷ rest) usual =
      let below = rows_exactly rest (both _ _ usual).1 in
      (idle_rows word rest (both _ _ usual).0 below.0 below.1, waits_rows word rest (both _ _ usual).0 below.0)

  -- the faults of clap's walk and of its end
  total_is : (w : Walk) (words : List Text) → or_else (walk_fault s [] w words) (settle_fault s.rules false (fold (walked s.rules []) w words).held) ≡ total w words
  unfolding total walk_fault
  total_is w [] = refl
  total_is w (word ∷ rest) = or_else-assoc (turn_fault s [] w word) _ _ ∙ ap (or_else (turn_fault s [] w word)) (total_is (walked s.rules [] w word) rest)

-- ---- words that clap is not handed

begun_false : (is_option : Text → Bool) (l : Option (Text × Option Text)) (given : List Given) (next : Option Text → List Given → Bool) → ((w : Option Text) (g : List Given) → next w g ≡ false) → begun is_option l given next ≡ false
begun_false is_option None given next h = refl
begun_false is_option (Some (name, v)) given next h = go (is_option name) (has_name name given) v
  where
    go : (b d : Bool) (v : Option Text) → (b && (not d && named name v given next)) ≡ false
    go false d v = refl
    go true true v = refl
    go true false (Some x) = h _ _
    go true false None = h _ _

both_false : (a b : Bool) → b ≡ false → (a && b) ≡ false
both_false true b h = h
both_false false b h = refl

second_hyphen : (x : ℕ) (xs : List ℕ) → (x == 45) ≡ true → is_hyphen_before xs ≡ false → long_of (x ∷ xs) ≡ None
second_hyphen x [] e h = rw e refl
second_hyphen x (y ∷ ys) e h = go (y == 45) refl ys h
  where
    go : (b : Bool) → (y == 45) ≡ b → (ys : List ℕ) → (b && nat_lt 0 (length ys)) ≡ false → long_of (x ∷ y ∷ ys) ≡ None
    go false f ys h = rw (e, f) refl
    go true f [] h = rw (e, f) refl
    go true f (z ∷ zs) h =
        let long : nat_lt 0 (length (z ∷ zs)) ≡ true = lt-ltb 0 (length (z ∷ zs)) (omega arith) in
        absurd (true≢false (sym long ∙ h))

pub unusual_word : (word : Text) → may_stand word ≡ false → (starts_with_hyphen word ≡ true) × (long_of word ≡ None)
unusual_word [] h = absurd (true≢false h)
unusual_word (x ∷ xs) h = go (x == 45) refl h
  where
    go : (b : Bool) → (x == 45) ≡ b → cond b (is_hyphen_before xs) true ≡ false → (starts_with_hyphen (x ∷ xs) ≡ true) × (long_of (x ∷ xs) ≡ None)
    go false e h = absurd (true≢false h)
    go true e h = (e, second_hyphen x xs e h)

pub unusual_false : (is_option : Text → Bool) (words : List Text) → list_all may_stand words ≡ false → (waiting : Option Text) (given : List Given) → are_options is_option waiting given words ≡ false
unfolding are_options
unusual_false is_option [] h waiting given = absurd (true≢false h)
unusual_false is_option (word ∷ rest) h waiting given = go (may_stand word) refl h waiting (unusual_false is_option rest)
  where
    go : (b : Bool) → may_stand word ≡ b → (b && list_all may_stand rest) ≡ false → (waiting : Option Text) → (list_all may_stand rest ≡ false → (w : Option Text) (g : List Given) → are_options is_option w g rest ≡ false) → are_options is_option waiting given (word ∷ rest) ≡ false
    go false e h None below = ap (λ l. begun is_option l given (λ w g. are_options is_option w g rest)) (unusual_word word e).1
    go false e h (Some name) below = ap (λ b. not b && are_options is_option None (given ++ (name, word) ∷ []) rest) (unusual_word word e).0
    go true e h None below = begun_false is_option (long_of word) given _ (below h)
    go true e h (Some name) below = both_false (not (starts_with_hyphen word)) _ (below h None _)

-- ---- a leaf with no defaults

record IsBare (s : Shape) : Type 0 where
  defaults : (rows : List Row) → defaults_fault rows s.rules ≡ []
  checks : (rows : List Row) → check_fault s rows false ≡ []

leaf_faults : (is_option : Text → Bool) (s : Shape) (leaf : IsLeaf is_option s) → IsBare s → (words : List Text) → list_all may_stand words ≡ true
    → no_fault (level_fault s [] nothing_held words false []) ≡ are_options is_option None [] words
leaf_faults is_option s leaf is_bare words usual =
    let c = s.rules in
    let end = walk c [] nothing_held words in
    let a = walk_fault s [] (walk_from nothing_held) words in
    let sf = settle_fault s.rules s.args_override_self end.held in
    let rest : or_else sf (or_else (defaults_fault (settled c end.held).rows c) (check_fault s (finished c end.held) false)) ≡ settle_fault s.rules false end.held =
    ap₂ (λ x y. or_else sf (or_else x y)) (is_bare.defaults (settled c end.held).rows) (is_bare.checks (finished c end.held)) ∙ or_else-none sf ∙ ap (λ b. settle_fault s.rules b end.held) leaf.once in
    let claim = (walked_exactly is_option s leaf words usual).0 [] None [] (settles_none is_option s leaf []) in
    ap no_fault (ap (or_else a) rest ∙ total_is is_option s leaf (at [] None idle) words) ∙ claim

-- ---- the options of a table

option_is : (name : Text) → IsOptionRule (filled (option_rule name)) name
option_is name = record { id = refl; action = refl; least = refl; most = refl; parser = refl }

no_default : (rows : List Row) (name : Text) → default_fault rows (filled (option_rule name)) ≡ []
no_default rows name = go (has_row name rows)
  where
    go : (b : Bool) → cond {A = Kinds} (b || true) [] [] ≡ []
    go true = refl
    go false = refl

no_default_rows : (rows : List Row) (name : Text) → with_default rows (filled (option_rule name)) ≡ rows
no_default_rows rows name = go (has_row name rows)
  where
    go : (b : Bool) → cond {A = List Row} b rows rows ≡ rows
    go true = refl
    go false = refl

abbrev pub option_rules : List Setting → List Rule
option_rules settings = map (λ setting. filled (option_rule setting.name)) settings

abbrev Known : List Rule → Text → Type 0
Known c name = (a : Rule) × (arg_by_long c name ≡ Some a) × (arg_by_id c name ≡ Some a) × IsOptionRule a name

known_rule : (settings : List Setting) (name : Text) → has_option settings name ≡ true → Known (option_rules settings) name
known_rule [] name h = absurd (true≢false (sym h))
known_rule (setting ∷ settings) name h = go (bytes_eq setting.name name) refl h (known_rule settings name)
  where
    go : (b : Bool) → bytes_eq setting.name name ≡ b → (b || has_option settings name) ≡ true → (has_option settings name ≡ true → Known (option_rules settings) name)
        → Known (option_rules (setting ∷ settings)) name
    go true e h below =
        let same : setting.name ≡ name = search (rules, bytes_eq-Decides setting.name name) in
        (filled (option_rule setting.name), rw e refl, rw e refl, subst (IsOptionRule (filled (option_rule setting.name))) same (option_is setting.name))
    go false e h below = let (a, long, by_id, is) = below h in (a, rw e long, rw e by_id, is)

unknown_rule : (settings : List Setting) (name : Text) → has_option settings name ≡ false → arg_by_long (option_rules settings) name ≡ None
unknown_rule [] name h = refl
unknown_rule (setting ∷ settings) name h = go (bytes_eq setting.name name) refl h (unknown_rule settings name)
  where
    go : (b : Bool) → bytes_eq setting.name name ≡ b → (b || has_option settings name) ≡ false → (has_option settings name ≡ false → arg_by_long (option_rules settings) name ≡ None)
        → arg_by_long (option_rules (setting ∷ settings)) name ≡ None
    go true e h below = absurd (true≢false h)
    go false e h below = rw e (below h)

no_place : (settings : List Setting) (i : ℕ) → arg_by_index (option_rules settings) i ≡ None
no_place [] i = refl
no_place (setting ∷ settings) i = no_place settings i

are_rules : (settings : List Setting) → AreRules (has_option settings) (option_rules settings)
are_rules settings = record { known = known_rule settings; unknown = unknown_rule settings; no_place = no_place settings }

no_defaults : (settings : List Setting) (rows : List Row) → defaults_fault rows (option_rules settings) ≡ []
unfolding defaults_fault
no_defaults [] rows = refl
no_defaults (setting ∷ settings) rows =
    ap (λ k. or_else k (defaults_fault (with_default rows (filled (option_rule setting.name))) (option_rules settings))) (no_default rows setting.name)
    ∙ no_defaults settings (with_default rows (filled (option_rule setting.name)))

no_more_rows : (settings : List Setting) (rows : List Row) → fold with_default rows (option_rules settings) ≡ rows
no_more_rows [] rows = refl
no_more_rows (setting ∷ settings) rows = ap (λ r. fold with_default r (option_rules settings)) (no_default_rows rows setting.name) ∙ no_more_rows settings rows

-- a command with these options and nothing else
pub record IsCommand (settings : List Setting) (s : Shape) : Type 0 where
  pub rules : s.rules ≡ option_rules settings
  pub once : s.args_override_self ≡ false
  pub checks : (rows : List Row) → check_fault s rows false ≡ []

leaf_is : (settings : List Setting) (s : Shape) → IsCommand settings s → IsLeaf (has_option settings) s
leaf_is settings s is = record { rules = subst (AreRules (has_option settings)) (sym is.rules) (are_rules settings); once = is.once }

-- clap takes exactly what are options
pub command_faults : (settings : List Setting) (s : Shape) → IsCommand settings s → (words : List Text) → list_all may_stand words ≡ true
    → no_fault (level_fault s [] nothing_held words false []) ≡ are_options (has_option settings) None [] words
command_faults settings s is = leaf_faults (has_option settings) s (leaf_is settings s is)
    (record { defaults = λ rows. ap (defaults_fault rows) is.rules ∙ no_defaults settings rows; checks = is.checks })

-- and finds what is given in them
pub command_rows : (settings : List Setting) (s : Shape) → IsCommand settings s → (words : List Text) → list_all may_stand words ≡ true
    → are_options (has_option settings) None [] words ≡ true → rows_after s.rules [] words ≡ map row (given_in None [] words)
unfolding EndsWith
command_rows settings s is words usual right =
    let end = settled s.rules (walk s.rules [] nothing_held words).held in
    ap (fold with_default end.rows) is.rules ∙ no_more_rows settings end.rows
    ∙ (rows_exactly (has_option settings) s (leaf_is settings s is) words usual).0 [] None [] (settles_none (has_option settings) s (leaf_is settings s is) []) right

pub first_given : (given : List Given) (name : Text) → first_of name (map row given) ≡ value_of given name
first_given [] name = refl
first_given (p ∷ rest) name = go (bytes_eq p.0 name) (first_given rest name)
  where
    go : (b : Bool) → first_of name (map row rest) ≡ value_of rest name
        → option_and_then (λ (r : Row). slice_get r.values 0) (cond b (Some (row p)) (find (λ r. bytes_eq r.id name) (map row rest)))
        ≡ option_map (λ (q : Given). q.1) (cond b (Some p) (find (λ q. bytes_eq q.0 name) rest))
    go true below = refl
    go false below = below
