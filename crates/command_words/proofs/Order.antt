-- Options in two words or one, and in any order.
use Rattle.std.proofs.Common.{◌≡◌, ◌∙◌, ◌<◌, ◌+◌, ◌&&◌, ◌||◌, ℕ, Bool, cond, true, false, not, suc, refl, sym, ap, ap₂, arith, List, [], ◌∷◌, ◌++◌, length, drop, Option, Some, None, true≢false, rules, find, option_map, bytes_eq}
use Rattle.std.specs.List.{list_any, list_all, position_or_len}
use Rattle.std.proofs.lemmas.List.{append_assoc, drop_at, length-append, take_at, take_all}
use Rattle.std.proofs.lemmas.List.Folds.{list_all-append, list_any-append}
use Rattle.std.proofs.lemmas.Slice.Eq.{bytes_eq-Decides}
use Rattle.ws_kinds.proofs.Facts.{and_right, and_true, clash, or_left, or_right}
use Rattle.command_words.specs.declared.command.Command.{Command}
use Rattle.command_words.specs.Meaning.{Text, Given, Setting, ◌>>=◌, are_once, given_then, has_option, is_equals, is_given, name_and_value, option_word, options_among, options_from, value_of}
use Rattle.command_words.proofs.Meant.{bind_some, not_given, same_bytes}

-- ---- one word or two

next_place : (n m : ℕ) → n ≡ m → 1 + n ≡ suc m
next_place n m e = omega arith

place : (name value : Text) → list_any is_equals name ≡ false → position_or_len is_equals (name ++ 61 ∷ value) ≡ length name
place [] value h = refl
place (x ∷ name) value h = rw (or_left (is_equals x) _ h) (next_place _ _ (place name value (or_right (is_equals x) _ h)))

place_alone : (name : Text) → list_any is_equals name ≡ false → position_or_len is_equals name ≡ length name
place_alone [] h = refl
place_alone (x ∷ name) h = rw (or_left (is_equals x) _ h) (next_place _ _ (place_alone name (or_right (is_equals x) _ h)))

has_equals : (name value : Text) → list_any is_equals (name ++ 61 ∷ value) ≡ true
has_equals [] value = refl
has_equals (x ∷ name) value = go (is_equals x) (has_equals name value)
  where
    go : (b : Bool) → list_any is_equals (name ++ 61 ∷ value) ≡ true → (b || list_any is_equals (name ++ 61 ∷ value)) ≡ true
    go true h = refl
    go false h = h

joined : (name value : Text) → list_any is_equals name ≡ false → name_and_value (name ++ 61 ∷ value) ≡ (name, Some value)
joined name value h =
    let behind : drop (length name + 1) (name ++ 61 ∷ value) ≡ value =
    ap (drop (length name + 1)) (sym (append_assoc name (61 ∷ []) value)) ∙ drop_at (name ++ 61 ∷ []) value (length name + 1) (length-append name (61 ∷ [])) in
    rw (place name value h, has_equals name value, take_at name (61 ∷ value) (length name) refl, behind) refl

alone : (name : Text) → list_any is_equals name ≡ false → name_and_value name ≡ (name, None)
alone name h = rw (place_alone name h, h, take_all (length name) name (omega arith)) refl

word_is : (text : Text) → 0 < length text → option_word (45 ∷ 45 ∷ text) ≡ Some (name_and_value text)
word_is [] h = absurd (omega arith)
word_is (x ∷ text) h = refl

longer : (name value : Text) → 0 < length (name ++ 61 ∷ value)
longer [] value = omega arith
longer (x ∷ name) value = omega arith

pub either_form : (name value : Text) (rest : List Text) → 0 < length name → list_any is_equals name ≡ false
    → options_from None ((45 ∷ 45 ∷ ((name ++ 61 ∷ []) ++ value)) ∷ rest) ≡ options_from None ((45 ∷ 45 ∷ name) ∷ value ∷ rest)
unfolding options_from
either_form name value rest long h =
    ap (λ text. options_from None ((45 ∷ 45 ∷ text) ∷ rest)) (append_assoc name (61 ∷ []) value)
    ∙ ap (λ o. o >>= λ option. given_then option (λ waiting. options_from waiting rest)) (word_is (name ++ 61 ∷ value) (longer name value) ∙ ap Some (joined name value h))
    ∙ sym (ap (λ o. o >>= λ option. given_then option (λ waiting. options_from waiting (value ∷ rest))) (word_is name long ∙ ap Some (alone name h)))

-- ---- options behind options

abbrev GoesOn : List Text → List Given → List Text → Type 0
GoesOn back y front = (waiting : Option Text) (x : List Given) → options_from waiting front ≡ Some x → options_from waiting (front ++ back) ≡ Some (x ++ y)

go_on_given : (back : List Text) (y : List Given) (rest : List Text) → GoesOn back y rest → (name : Text) (v : Option Text) (x : List Given)
    → given_then (name, v) (λ waiting. options_from waiting rest) ≡ Some x → given_then (name, v) (λ waiting. options_from waiting (rest ++ back)) ≡ Some (x ++ y)
go_on_given back y rest below name None x e = below (Some name) x e
go_on_given back y rest below name (Some v) x e =
    let (later, from, same) = bind_some (options_from None rest) (λ given. Some ((name, v) ∷ given)) x e in
    ap (λ o. o >>= λ given. Some ((name, v) ∷ given)) (below None later from) ∙ ap (λ o. o >>= λ l. Some (l ++ y)) same

go_on_option : (back : List Text) (y : List Given) (rest : List Text) → GoesOn back y rest → (l : Option (Text × Option Text)) (x : List Given)
    → (l >>= λ option. given_then option (λ waiting. options_from waiting rest)) ≡ Some x
    → (l >>= λ option. given_then option (λ waiting. options_from waiting (rest ++ back))) ≡ Some (x ++ y)
go_on_option back y rest below None x e = absurd cc
go_on_option back y rest below (Some p) x e = go_on_given back y rest below p.0 p.1 x e

go_on_step : (back : List Text) (y : List Given) (word : Text) (rest : List Text) → GoesOn back y rest → GoesOn back y (word ∷ rest)
unfolding options_from
go_on_step back y word rest below None x e = go_on_option back y rest below (option_word word) x e
go_on_step back y word rest below (Some name) x e =
    let (later, from, same) = bind_some (options_from None rest) (λ given. Some ((name, word) ∷ given)) x e in
    ap (λ o. o >>= λ given. Some ((name, word) ∷ given)) (below None later from) ∙ ap (λ o. o >>= λ l. Some (l ++ y)) same

go_on_none : (back : List Text) (y : List Given) → options_from None back ≡ Some y → GoesOn back y []
unfolding options_from
go_on_none back y h None x e = h ∙ ap (λ o. o >>= λ l. Some (l ++ y)) e
go_on_none back y h (Some name) x e = absurd cc

goes_on : (back : List Text) (y : List Given) → options_from None back ≡ Some y → (front : List Text) → GoesOn back y front
goes_on back y h [] = go_on_none back y h
goes_on back y h (word ∷ rest) = go_on_step back y word rest (goes_on back y h rest)

-- ---- each name once, in any order

abbrev are_apart : List Given → List Given → Bool
are_apart x y = list_all (λ (p : Given). not (is_given p.0 y)) x

once_step : (g h o q c : Bool) → (not (g || h) && ((o && q) && c)) ≡ (((not g && o) && q) && (not h && c))
once_step true h o q c = refl
once_step false true true true c = refl
once_step false true true false c = refl
once_step false true false q c = refl
once_step false false o q c = refl

once_append : (x y : List Given) → are_once (x ++ y) ≡ ((are_once x && are_once y) && are_apart x y)
once_append [] y = and_true (are_once y)
once_append (p ∷ x) y =
    ap₂ (λ a b. not a && b) (list_any-append (λ (o : Given). bytes_eq o.0 p.0) x y) (once_append x y)
    ∙ once_step (is_given p.0 x) (is_given p.0 y) (are_once x) (are_once y) (are_apart x y)

apart_step : (e g h c : Bool) → (not (e || g) && (not h && c)) ≡ (not (e || h) && (not g && c))
apart_step true g h c = refl
apart_step false true true c = refl
apart_step false true false c = refl
apart_step false false true c = refl
apart_step false false false c = refl

apart_none : (x : List Given) → are_apart x [] ≡ true
apart_none [] = refl
apart_none (p ∷ x) = apart_none x

apart_first : (p : Given) (x y : List Given) → are_apart y (p ∷ x) ≡ (not (is_given p.0 y) && are_apart y x)
apart_first p x [] = refl
apart_first p x (q ∷ y) =
    ap₂ (λ e b. not (e || is_given q.0 x) && b) (same_bytes p.0 q.0) (apart_first p x y)
    ∙ apart_step (bytes_eq q.0 p.0) (is_given q.0 x) (is_given p.0 y) (are_apart y x)

apart_sym : (x y : List Given) → are_apart x y ≡ are_apart y x
apart_sym [] y = sym (apart_none y)
apart_sym (p ∷ x) y = ap (λ b. not (is_given p.0 y) && b) (apart_sym x y) ∙ sym (apart_first p x y)

and_sym : (a b : Bool) → (a && b) ≡ (b && a)
and_sym true b = and_true b
and_sym false true = refl
and_sym false false = refl

once_sym : (x y : List Given) → are_once (x ++ y) ≡ are_once (y ++ x)
once_sym x y = once_append x y ∙ ap₂ (λ a b. a && b) (and_sym (are_once x) (are_once y)) (apart_sym x y) ∙ sym (once_append y x)

-- ---- the values, in any order

earlier : (name : Text) (x y : List Given) → is_given name y ≡ false → value_of (x ++ y) name ≡ value_of x name
earlier name [] y h = not_given name y h
earlier name (p ∷ x) y h = go (bytes_eq p.0 name) (earlier name x y h)
  where
    go : (b : Bool) → value_of (x ++ y) name ≡ value_of x name
        → option_map (λ (o : Given). o.1) (cond b (Some p) (find (λ (o : Given). bytes_eq o.0 name) (x ++ y)))
        ≡ option_map (λ (o : Given). o.1) (cond b (Some p) (find (λ (o : Given). bytes_eq o.0 name) x))
    go true below = refl
    go false below = below

later : (name : Text) (x y : List Given) → is_given name x ≡ false → value_of (x ++ y) name ≡ value_of y name
later name [] y h = refl
later name (p ∷ x) y h = rw (or_left (bytes_eq p.0 name) _ h) (later name x y (or_right (bytes_eq p.0 name) _ h))

not_apart : (name : Text) (x y : List Given) → is_given name x ≡ true → is_given name y ≡ true → are_apart x y ≡ false
not_apart name [] y g h = absurd (true≢false (sym g))
not_apart name (p ∷ x) y g h = go (bytes_eq p.0 name) refl g (λ g. not_apart name x y g h)
  where
    go : (b : Bool) → bytes_eq p.0 name ≡ b → (b || is_given name x) ≡ true → (is_given name x ≡ true → are_apart x y ≡ false) → are_apart (p ∷ x) y ≡ false
    go true e g below =
        let same : p.0 ≡ name = search (rules, bytes_eq-Decides p.0 name) in
        ap (λ b. not b && are_apart x y) (ap (λ n. is_given n y) same ∙ h)
    go false e g below = ap (λ b. not (is_given p.0 y) && b) (below g) ∙ none (not (is_given p.0 y))
      where
        none : (b : Bool) → (b && false) ≡ false
        none true = refl
        none false = refl

value_sym : (x y : List Given) → are_once (x ++ y) ≡ true → (name : Text) → value_of (x ++ y) name ≡ value_of (y ++ x) name
value_sym x y once name = go (is_given name x) (is_given name y) refl refl
  where
    apart : are_apart x y ≡ true
    apart = and_right (are_once x && are_once y) (are_apart x y) (sym (once_append x y) ∙ once)

    go : (a b : Bool) → is_given name x ≡ a → is_given name y ≡ b → value_of (x ++ y) name ≡ value_of (y ++ x) name
    go false b e f = later name x y e ∙ sym (earlier name y x e)
    go true false e f = earlier name x y f ∙ sym (later name y x f)
    go true true e f = absurd (clash _ (not_apart name x y e f) apart)

-- ---- whole commands

abbrev kept : List Setting → List Given → Option (List Given)
kept settings given = cond (list_all (λ (p : Given). has_option settings p.0) given && are_once given) (Some given) None

kept_sym : (settings : List Setting) (x y : List Given)
    → (list_all (λ (p : Given). has_option settings p.0) (x ++ y) && are_once (x ++ y)) ≡ (list_all (λ (p : Given). has_option settings p.0) (y ++ x) && are_once (y ++ x))
kept_sym settings x y =
    ap₂ (λ a b. a && b)
    (list_all-append (λ (p : Given). has_option settings p.0) x y ∙ and_sym (list_all (λ (p : Given). has_option settings p.0) x) (list_all (λ (p : Given). has_option settings p.0) y) ∙ sym (list_all-append (λ (p : Given). has_option settings p.0) y x))
    (once_sym x y)

pub any_order : (settings : List Setting) (of_values : (Text → Option Text) → Option Command) (front back : List Text) (x y : List Given)
    → options_from None front ≡ Some x → options_from None back ≡ Some y
    → (options_among settings (front ++ back) >>= λ given. of_values (value_of given)) ≡ (options_among settings (back ++ front) >>= λ given. of_values (value_of given))
any_order settings of_values front back x y e f =
    ap (λ o. (o >>= kept settings) >>= λ given. of_values (value_of given)) (goes_on back y f front None x e)
    ∙ go (list_all (λ (p : Given). has_option settings p.0) (x ++ y) && are_once (x ++ y)) refl
    ∙ sym (ap (λ o. (o >>= kept settings) >>= λ given. of_values (value_of given)) (goes_on front x e back None y f))
  where
    go : (b : Bool) → (list_all (λ (p : Given). has_option settings p.0) (x ++ y) && are_once (x ++ y)) ≡ b
        → (kept settings (x ++ y) >>= λ given. of_values (value_of given)) ≡ (kept settings (y ++ x) >>= λ given. of_values (value_of given))
    go false h = rw (h, sym (kept_sym settings x y) ∙ h) refl
    go true h =
        let once = and_right (list_all (λ (p : Given). has_option settings p.0) (x ++ y)) (are_once (x ++ y)) h in
        let same : value_of (x ++ y) ≡ value_of (y ++ x) = λ i name. (value_sym x y once name) i in
        ap (λ b. cond b (Some (x ++ y)) None >>= λ given. of_values (value_of given)) h ∙ ap of_values same
        ∙ sym (ap (λ b. cond b (Some (y ++ x)) None >>= λ given. of_values (value_of given)) (sym (kept_sym settings x y) ∙ h))
