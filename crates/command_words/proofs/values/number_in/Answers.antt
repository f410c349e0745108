use Rattle.std.proofs.Common.{◌≡◌, ◌∙◌, sym, rules, Bool, cond, true, false, true≢false, ◌&&◌, ◌<◌, ◌^◌, arith, [], ◌∷◌, ℕ, length, Some, None, Result, Ok, Err, refl, nat_le}
use Rattle.std.specs.Result.{result_ok}
use Rattle.std.specs.List.{list_all}
use Rattle.std.specs.Char.{is_ascii_digit}
use Rattle.std.specs.Str.Parse.{ParsesUnsigned, digits_value}
use Rattle.std.proofs.lemmas.Str.Parse.{IsNumeralModel, numerals_by_value, parse_digits}
use Rattle.std.proofs.lemmas.Bool.Decides.{nat_tests}
use Rattle.command_words.specs.Meaning.{Text, has_no_leading_zero, number_in}
use Rattle.command_words.proofs.values.number_in.Goals as goal

own : IsNumeralModel (λ ds. list_all is_ascii_digit ds ≡ true) (digits_value 10)
own = numerals_by_value (λ ds. list_all is_ascii_digit ds ≡ true) (search rules)

some_digit : (text : Text) → has_no_leading_zero text ≡ true → 0 < length text
some_digit [] h = absurd (true≢false (sym h))
some_digit (first ∷ rest) h = omega arith

over : (n most : ℕ) → most < 2 ^ 64 → (n < 2 ^ 64 → ⊥) → nat_le n most ≡ false
over n most bound h = grind (arith, nat_tests)

-- digits that are no number of 64 bits are above every such number
no_number : {E : Type 0} (text : Text) (r : Result ℕ E) (least most : ℕ) → ParsesUnsigned 64 10 text r → list_all is_ascii_digit text ≡ true → has_no_leading_zero text ≡ true
    → result_ok r ≡ None → most < 2 ^ 64 → number_in least most text ≡ None
no_number text (Ok x) least most parses digits zero none bound = absurd cc
no_number text (Err e) least most parses digits zero none bound =
    let far = over (digits_value 10 text) most bound (λ below. parse_digits own 64 text (Err e) parses digits (some_digit text zero, below)) in
    rw (digits, zero, far) (last (nat_le least (digits_value 10 text)))
  where
    last : (b : Bool) → cond (b && false) (Some (digits_value 10 text)) None ≡ None
    last true = refl
    last false = refl

pub returns-in_err-number-clause-value : goal.returns-in_err-number-clause-value
returns-in_err-number-clause-value c =
    let digits : list_all is_ascii_digit c.args.text.now ≡ true = search rules in
    let zero : has_no_leading_zero c.args.text.now ≡ true = search rules in
    let bound : c.args.most < 2 ^ 64 = search rules in
    c.from_residual.ensures ∙ sym (no_number c.args.text.now c.parse.result c.args.least c.args.most c.parse.ensures.value.0 digits zero (sym c.ok.ensures.value ∙ c.in_err-number.was) bound)
