use Rattle.std.proofs.Common.{rules, ◌≡◌, ◌∙◌, map, string_bytes, false, true, ap, sym, ⊎_elim, subst, option_map}
use Rattle.std.specs.List.{list_all}
use Rattle.std.proofs.lemmas.List.Folds.{list_all-map}
use Rattle.clap.specs.Walk.{rows_of}
use Rattle.clap.specs.Matches.{found_of}
use Rattle.clap.specs.Simple.{app_of, is_simple, subcommand_of}
use Rattle.clap.specs.Faults.{is_simple_and_free, fault_of}
use Rattle.clap.specs.Kinds.{IsAmong}
use Rattle.clap.specs.declared.parser.matches.ArgMatches.TheViews.{out-ArgMatches}
use Rattle.command_words.specs.Meaning.{may_stand}
use Rattle.command_words.specs.Grammar.{commands}
use Rattle.command_words.proofs.Found.{are_simple, are_simple_and_free, map_first, read_of_found, refused, unusual_taken, words_refused}
use Rattle.command_words.proofs.reading.read.Goals as goal

pub returns-then-not-may_all_stand-clause-meaning : goal.returns-then-not-may_all_stand-clause-meaning
returns-then-not-may_all_stand-clause-meaning c =
    let words = map string_bytes c.args.words.now in
    let stand : list_all (λ word. may_stand (string_bytes word)) c.args.words.now ≡ false = search rules in
    sym (refused words (unusual_taken words (list_all-map may_stand string_bytes c.args.words.now ∙ stand)))

pub returns-in_err-commands-clause-memory : goal.returns-in_err-commands-clause-memory
returns-in_err-commands-clause-memory c =
    let stand : list_all (λ word. may_stand (string_bytes word)) c.args.words.now ≡ true = search rules in
    let usual = list_all-map may_stand string_bytes c.args.words.now ∙ stand in
    search (rules, usual)

pub returns-in-OutOfMemory-clause-memory : goal.returns-in-OutOfMemory-clause-memory
returns-in-OutOfMemory-clause-memory c =
    let stand : list_all (λ word. may_stand (string_bytes word)) c.args.words.now ≡ true = search rules in
    list_all-map may_stand string_bytes c.args.words.now ∙ stand

pub returns-in-Some-clause-meaning : goal.returns-in-Some-clause-meaning
returns-in-Some-clause-meaning c =
    let words = map string_bytes c.args.words.now in
    let stand : list_all (λ word. may_stand (string_bytes word)) c.args.words.now ≡ true = search rules in
    let app : app_of c.in_ok-commands.field-0 ≡ commands = c.in_ok-commands.ensures in
    let ok = c.in-Ok.ensures in
    let none = sym (ap (λ a. fault_of a words) app) ∙ ok.kinds (ap is_simple_and_free app ∙ are_simple_and_free) in
    let found = (ok.matches (ap is_simple app ∙ are_simple)).1 ∙ ap (λ a. subcommand_of a words) app in
    let inside = (out-ArgMatches c.in-Ok.matches).subcommand in
    c.command.ensures ∙ read_of_found words c.in-Some.name.now (rows_of (found_of c.in-Some.inner.now)) (list_all-map may_stand string_bytes c.args.words.now ∙ stand) none
    (c.in-Some.ensures.name ∙ map_first _ _ inside ∙ ap (option_map (λ p. p.0)) found) (c.in-Some.ensures.rows ∙ ap (option_map (λ p. p.1)) found)

pub returns : goal.returns
returns c =
    let words = map string_bytes c.args.words.now in
    let stand : list_all (λ word. may_stand (string_bytes word)) c.args.words.now ≡ true = search rules in
    let app : app_of c.in_ok-commands.field-0 ≡ commands = c.in_ok-commands.ensures in
    let kinds = c.in-Err.ensures.kinds (ap is_simple_and_free app ∙ are_simple_and_free) in
    let among = ⊎_elim (λ m. absurd (c.in_default.not-OutOfMemory (c.kind.ensures ∙ m))) (λ h. h) kinds in
    record {
      meaning = sym (words_refused words _ (list_all-map may_stand string_bytes c.args.words.now ∙ stand) (subst (IsAmong _) (ap (λ a. fault_of a words) app) among));
      memory = tt;
    }
