-- The ranges of numbers that options give, and the numbers of a server made of them.
use Rattle.std.proofs.Common.{◌≡◌, ◌&&◌, ◌≤◌, ℕ, Bool, cond, codes, true, false, true≢false, refl, sym, ap, subst, arith, Option, Some, None, nat_le, nat_lt, IsSome, IfSome, ◌↔◌}
use Rattle.std.proofs.lemmas.Bool.Decides.{nat_tests}
use Rattle.std.specs.Str.Parse.{digits_value}
use Rattle.ws_kinds.specs.ConfigValue.{ConfigValue, IsConfig, config_of}
use Rattle.ws_kinds.proofs.Facts.{and_left, and_right, less_is, not_less_is}
use Rattle.command_words.specs.Meaning.{Text, Setting, is_number, number, number_in, number_or, config_of_values, max_message_option, limit_option, ping_after_option, idle_option, leave_option, max_conns_option}

chosen : (b : Bool) (x n : ℕ) → cond b (Some x) None ≡ Some n → (b ≡ true) × (x ≡ n)
chosen true x n e = (refl, cc)
chosen false x n e = absurd cc

between : (least most n : ℕ) → (nat_le least n && nat_le n most) ≡ true → (least ≤ n) × (n ≤ most)
between least most n h =
    let low = and_left (nat_le least n) (nat_le n most) h in
    let high = and_right (nat_le least n) (nat_le n most) h in
    (grind (arith, nat_tests), grind (arith, nat_tests))

in_range : (least most : ℕ) (text : Text) (n : ℕ) → number_in least most text ≡ Some n → (least ≤ n) × (n ≤ most)
in_range least most text n e =
    let h = chosen (is_number text && (nat_le least (digits_value 10 text) && nat_le (digits_value 10 text) most)) (digits_value 10 text) n e in
    subst (λ (m : ℕ). (least ≤ m) × (m ≤ most)) h.1 (between least most (digits_value 10 text) (and_right (is_number text) _ h.0))

usual_in : (least most : ℕ) (usual : Option ℕ) (n : ℕ) → IfSome usual (λ m. (least ≤ m) × (m ≤ most)) → usual ≡ Some n → (least ≤ n) × (n ≤ most)
usual_in least most (Some m) n inside e = let same : m ≡ n = cc in subst (λ (m : ℕ). (least ≤ m) × (m ≤ most)) same inside
usual_in least most None n inside e = absurd cc

pub ranged : (setting : Setting) (text : Option Text) (n : ℕ) → IfSome setting.usual (λ m. (setting.least ≤ m) × (m ≤ setting.most)) → number_or setting text ≡ Some n
    → (setting.least ≤ n) × (n ≤ setting.most)
ranged setting None n inside e = usual_in setting.least setting.most setting.usual n inside e
ranged setting (Some text) n inside e = in_range setting.least setting.most text n e

checked : (r : Option ConfigValue) (config : ConfigValue) → (IsSome r ↔ IsConfig config) → IfSome r (λ c. c ≡ config)
    → (b : Bool) → (b ≡ true → IsConfig config) → (b ≡ false → IsConfig config → ⊥) → r ≡ cond b (Some config) None
checked (Some x) config some same true right wrong = ap Some same
checked (Some x) config some same false right wrong = absurd (wrong refl (some.0 refl))
checked None config some same true right wrong = absurd (true≢false (sym (some.1 (right refl))))
checked None config some same false right wrong = refl

-- numbers that were read make a server's numbers exactly where `idle` is above `ping_after`
pub config_is : (value : Text → Option Text) (max_message limit ping_after idle leave max_conns : ℕ) (r : Option ConfigValue)
    → number max_message_option value ≡ Some max_message → number limit_option value ≡ Some limit → number ping_after_option value ≡ Some ping_after
    → number idle_option value ≡ Some idle → number leave_option value ≡ Some leave → number max_conns_option value ≡ Some max_conns
    → (IsSome r ↔ IsConfig (config_of max_message limit ping_after idle leave max_conns))
    → IfSome r (λ c. c ≡ config_of max_message limit ping_after idle leave max_conns) → r ≡ config_of_values value
config_is value max_message limit ping_after idle leave max_conns r a b c d e f some same =
    rw (a, b, c, d, e, f) (checked r (config_of max_message limit ping_after idle leave max_conns) some same (nat_lt ping_after idle)
    (λ h. record {
      max_message = ranged max_message_option (value (codes "max-message")) max_message (omega arith, omega arith) a;
      limit = ranged limit_option (value (codes "limit")) limit (omega arith, omega arith) b;
      ping_after = ranged ping_after_option (value (codes "ping-after")) ping_after (omega arith, omega arith) c;
      idle = (less_is ping_after idle h, (ranged idle_option (value (codes "idle")) idle (omega arith, omega arith) d).1);
      leave = ranged leave_option (value (codes "leave")) leave (omega arith, omega arith) e;
      max_conns = ranged max_conns_option (value (codes "max-conns")) max_conns (omega arith, omega arith) f;
    }) (λ h config. let most = not_less_is ping_after idle h in let least = config.idle.0 in absurd (omega (arith, most, least))))
