-- Four decimal digits.
use Rattle.std.proofs.Common.{◌≡◌, ◌<◌, ◌^◌, ℕ, List, [], ◌∷◌, Bool, true, Some, None, Result, Ok, Err, MatchResult, IsUtf8, cond, ◌&&◌, length, nat_eq, nat_lt, sym, ap, ◌∙◌, subst, arith}
use Rattle.std.specs.Char.{is_ascii_digit}
use Rattle.std.specs.List.{list_all}
use Rattle.std.specs.Result.{result_ok}
use Rattle.std.specs.Str.Parse.{AllDigits, digits_value}
use Rattle.std.proofs.lemmas.Bool.{and_from}
use Rattle.std.proofs.lemmas.Bool.Decides.{nat_tests}
use Rattle.std.proofs.lemmas.Fmt.{IsAscii-from_digits}
use Rattle.std.proofs.lemmas.Int.Digits.{digits_value-lt}
use Rattle.std.proofs.lemmas.Str.{IsUtf8-from_ascii}
use Rattle.std.proofs.lemmas.Str.Parse.{tells_digits}
use Rattle.ws_kinds.proofs.Facts.{and_left, and_right}
use Rattle.bus_handler.specs.Bus.{code_in}

pub all_digits : (octets : List ℕ) → list_all is_ascii_digit octets ≡ true → AllDigits 10 octets
all_digits [] e = tells_digits.empty
all_digits (first ∷ rest) e =
    let here : is_ascii_digit first ≡ true = and_left (is_ascii_digit first) (list_all is_ascii_digit rest) e in
    tells_digits.more first rest (grind (arith, nat_tests)) (all_digits rest (and_right (is_ascii_digit first) (list_all is_ascii_digit rest) e))

-- digits are text
pub text_is_read : {T E : Type 0} (digits : List ℕ) (r : Result T E) (P : T → Type 0) (Q : E → Type 0) → AllDigits 10 digits → MatchResult r P (λ e. ¬ (IsUtf8 digits) × Q e) → result_ok r ≡ None → ⊥
text_is_read digits (Ok x) P Q all h e = cc
text_is_read digits (Err e) P Q all h k = h.0 (IsUtf8-from_ascii digits (IsAscii-from_digits digits all))

-- what four of them say is below 2 ^ 16
pub code_fits : (octets : List ℕ) → AllDigits 10 octets → length octets ≡ 4 → nat_lt (digits_value 10 octets) (2 ^ 16) ≡ true
code_fits octets all four =
    let small : digits_value 10 octets < 10 ^ length octets = digits_value-lt 10 octets all in
    let small : digits_value 10 octets < 10 ^ 4 = subst (λ (z : ℕ). digits_value 10 octets < 10 ^ z) four small in
    grind (arith, nat_tests)

pub code_said : (octets : List ℕ) → length octets ≡ 4 → list_all is_ascii_digit octets ≡ true → cond (nat_lt (digits_value 10 octets) (2 ^ 16)) (Some (digits_value 10 octets)) None ≡ code_in octets
code_said octets four all =
    let both : (nat_eq (length octets) 4 && list_all is_ascii_digit octets) ≡ true = and_from (nat_eq (length octets) 4) (list_all is_ascii_digit octets) (ap (λ (z : ℕ). nat_eq z 4) four) all in
    ap (λ (z : Bool). cond z (Some (digits_value 10 octets)) None) (code_fits octets (all_digits octets all) four ∙ sym both)
