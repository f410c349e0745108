use Rattle.std.proofs.Common.{◌≡◌, ◌∙◌, ◌<◌, ◌+◌, ◌||◌, ℕ, refl, sym, ap, ap₂, List, [], ◌∷◌, length, map, take, get_or, fold}
use Rattle.std.proofs.lemmas.List.{take_all}
use Rattle.std.proofs.lemmas.List.Sums.{fold_more}
use Rattle.clap.specs.Simple.{App, new_app, with_rule}
use Rattle.command_words.specs.declared.settings.Setting.{Setting}
use Rattle.command_words.specs.Meaning.{Text}
use Rattle.command_words.specs.Grammar.{option_command, option_rule}
use Rattle.command_words.specs.Setting.{setting_of}
use Rattle.command_words.proofs.grammar.command.Goals as goal

abbrev with_option : App → Setting → App
with_option app setting = with_rule app (option_rule setting.name.now)

folded : (settings : List Setting) (app : App) → fold (λ app setting. with_rule app (option_rule setting.name)) app (map setting_of settings) ≡ fold with_option app settings
folded [] app = refl
folded (setting ∷ settings) app = folded settings (with_option app setting)

one_more : (name : Text) (settings : List Setting) (i : ℕ) (other : Setting) → i < length settings
    → option_command name (map setting_of (take (i + 1) settings)) ≡ with_option (option_command name (map setting_of (take i settings))) (get_or settings i other)
one_more name settings i other h =
    folded (take (i + 1) settings) (new_app name) ∙ fold_more with_option (new_app name) settings i other h
    ∙ ap (λ app. with_option app (get_or settings i other)) (sym (folded (take i settings) (new_app name)))

pub loop-setting-preserved : goal.loop-setting-preserved
loop-setting-preserved c =
    let adds = c.in_ok-command.ensures in
    let invariant = c.loop-setting.invariant in (
      adds.shape c.option.ensures.local ∙ ap₂ with_rule invariant.0 c.option.ensures.rule
          ∙ sym (one_more c.args.name.now c.args.options.now c.loop-setting.setting-index _ c.loop-setting-test.true),
      adds.globals ∙ ap₂ (λ a b. a || b) invariant.1 c.option.ensures.local,
    )

pub returns-clause-app : goal.returns-clause-app
returns-clause-app c =
    let all = take_all c.loop-setting.setting-index c.args.options.now c.loop-setting-test.false in
    c.loop-setting.invariant.0 ∙ ap (λ settings. option_command c.args.name.now (map setting_of settings)) all
