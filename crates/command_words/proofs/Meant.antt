-- What words mean, by which options they are.
use Rattle.std.proofs.Common.{◌≡◌, ◌∙◌, ◌&&◌, ◌||◌, ◌==◌, ℕ, Bool, cond, true, false, not, refl, sym, ap, ap₂, subst, List, [], ◌∷◌, ◌++◌, Option, Some, None, is_some, true≢false, rules, bytes_eq}
use Rattle.std.specs.List.{list_all}
use Rattle.std.proofs.lemmas.List.{append-nil, append_assoc}
use Rattle.clap.proofs.SimpleLemmas.{is_false}
use Rattle.std.proofs.lemmas.List.Folds.{list_any-append}
use Rattle.std.proofs.lemmas.Slice.Eq.{bytes_eq-Decides}
use Rattle.ws_kinds.proofs.Facts.{and_left, and_right, clash, equal_is, or_false}
use Rattle.clap.specs.Lexer.{long_of}
use Rattle.command_words.specs.Meaning.{Text, Given, Setting, ◌>>=◌, option_word, given_then, options_from, options_among, has_option, is_given, are_once, value_of, number_or, number_in}
use Rattle.command_words.proofs.Walked.{starts_with_hyphen, named, begun, are_options, met, given_in}

-- ---- options

pub bind_some : {A B : Type 0} (o : Option A) (f : A → Option B) (y : B) → (o >>= f) ≡ Some y → (x : A) × (o ≡ Some x) × (f x ≡ Some y)
bind_some (Some x) f y e = (x, refl, e)
bind_some None f y e = absurd cc

pub both_true : (a b : Bool) → a ≡ true → b ≡ true → (a && b) ≡ true
both_true a b e f = rw (e, f) refl

-- a word is read as clap reads it
lexed : (word : Text) → option_word word ≡ long_of word
lexed [] = refl
lexed (first ∷ []) = go (first == 45) refl
  where
    go : (b : Bool) → (first == 45) ≡ b → None ≡ long_of (first ∷ [])
    go true e = rw e refl
    go false e = rw e refl
lexed (first ∷ second ∷ []) = go (first == 45) (second == 45) refl refl
  where
    go : (b d : Bool) → (first == 45) ≡ b → (second == 45) ≡ d → None ≡ long_of (first ∷ second ∷ [])
    go true true e f = rw (e, f) refl
    go true false e f = rw (e, f) refl
    go false d e f = rw e refl
lexed (first ∷ second ∷ third ∷ rest) = go (first == 45) (second == 45) refl refl
  where
    go : (b d : Bool) → (first == 45) ≡ b → (second == 45) ≡ d → option_word (first ∷ second ∷ third ∷ rest) ≡ long_of (first ∷ second ∷ third ∷ rest)
    go true true e f = rw (e, f) refl
    go true false e f = rw (e, f) refl
    go false d e f = rw e refl

-- none of the names stands before, or twice
unfoldable are_fresh : List Given → List Given → Bool
are_fresh before [] = true
are_fresh before (p ∷ more) = not (is_given p.0 before) && are_fresh (before ++ p ∷ []) more

abbrev AreKnown : (Text → Bool) → List Given → Type 0
AreKnown is_option given = list_all (λ (p : Given). is_option p.0) given ≡ true

abbrev ArePlain : List Given → Type 0
ArePlain given = list_all (λ (p : Given). not (starts_with_hyphen p.1)) given ≡ true

-- the name that waits is an option that was not given
abbrev MayWait : (Text → Bool) → Option Text → List Given → Type 0
MayWait is_option None before = Unit {0}
MayWait is_option (Some name) before = (is_option name ≡ true) × (is_given name before ≡ false)

abbrev AreRead : (Text → Bool) → Option Text → List Given → List Text → Type 0
AreRead is_option waiting before words = (more : List Given) × (options_from waiting words ≡ Some more) × (given_in waiting before words ≡ before ++ more)
    × AreKnown is_option more × (are_fresh before more ≡ true)

abbrev ReadAll : (Text → Bool) → List Text → Type 0
ReadAll is_option words = (waiting : Option Text) (before : List Given) → MayWait is_option waiting before
    → are_options is_option waiting before words ≡ true → AreRead is_option waiting before words

-- the words from one on, by what it is
abbrev IsReadAs : (Text → Bool) → List Given → List Text → Option (Text × Option Text) → Type 0
IsReadAs is_option before rest l = (more : List Given) × ((l >>= λ option. given_then option (λ waiting. options_from waiting rest)) ≡ Some more)
    × (met l before (λ waiting now. given_in waiting now rest) ≡ before ++ more) × AreKnown is_option more × (are_fresh before more ≡ true)

read_option : (is_option : Text → Bool) (before : List Given) (rest : List Text) → ReadAll is_option rest → (name : Text) (v : Option Text)
    → is_option name ≡ true → is_given name before ≡ false → named name v before (λ waiting now. are_options is_option waiting now rest) ≡ true
    → IsReadAs is_option before rest (Some (name, v))
unfolding are_fresh
read_option is_option before rest below name (Some v) known new h =
    let (more, from, given, all, fresh) = below None (before ++ (name, v) ∷ []) tt h in (
      (name, v) ∷ more,
      ap (λ o. o >>= λ given. Some ((name, v) ∷ given)) from,
      given ∙ append_assoc before ((name, v) ∷ []) more,
      both_true _ _ known all,
      both_true _ _ (ap not new) fresh,
    )
read_option is_option before rest below name None known new h = below (Some name) before (known, new) h

read_as : (is_option : Text → Bool) (before : List Given) (rest : List Text) → ReadAll is_option rest → (l : Option (Text × Option Text))
    → begun is_option l before (λ waiting now. are_options is_option waiting now rest) ≡ true → IsReadAs is_option before rest l
read_as is_option before rest below None h = absurd (true≢false (sym h))
read_as is_option before rest below (Some p) h = read_option is_option before rest below p.0 p.1 (and_left _ _ h)
    (is_false _ (and_left _ _ (and_right (is_option p.0) _ h))) (and_right _ _ (and_right (is_option p.0) _ h))

read_step : (is_option : Text → Bool) (word : Text) (rest : List Text) → ReadAll is_option rest → ReadAll is_option (word ∷ rest)
unfolding are_options given_in options_from are_fresh
read_step is_option word rest below None before may h =
    let (more, from, given, known, fresh) = read_as is_option before rest below (long_of word) h in
    (more, ap (λ l. l >>= λ option. given_then option (λ waiting. options_from waiting rest)) (lexed word) ∙ from, given, known, fresh)
read_step is_option word rest below (Some name) before may h =
    let (more, from, given, known, fresh) = below None (before ++ (name, word) ∷ []) tt (and_right _ _ h) in (
      (name, word) ∷ more,
      ap (λ o. o >>= λ given. Some ((name, word) ∷ given)) from,
      given ∙ append_assoc before ((name, word) ∷ []) more,
      both_true _ _ may.0 known,
      both_true _ _ (ap not may.1) fresh,
    )

read_none : (is_option : Text → Bool) → ReadAll is_option []
unfolding are_options given_in options_from are_fresh
read_none is_option None before may h = ([], refl, sym (append-nil before), refl, refl)
read_none is_option (Some name) before may h = absurd (true≢false (sym h))

read_all : (is_option : Text → Bool) (words : List Text) → ReadAll is_option words
read_all is_option [] = read_none is_option
read_all is_option (word ∷ rest) = read_step is_option word rest (read_all is_option rest)

-- the name that waits comes first
waits_first : (name : Text) (words : List Text) (more : List Given) → options_from (Some name) words ≡ Some more
    → (v : Text) × (later : List Given) × (more ≡ (name, v) ∷ later)
unfolding options_from
waits_first name [] more e = absurd cc
waits_first name (v ∷ rest) more e =
    let (later, from, same) = bind_some (options_from None rest) (λ given. Some ((name, v) ∷ given)) more e in
    (v, later, let back : (name, v) ∷ later ≡ more = cc in sym back)

abbrev TakesAll : (Text → Bool) → List Text → Type 0
TakesAll is_option words = (waiting : Option Text) (before more : List Given) → options_from waiting words ≡ Some more
    → AreKnown is_option more → are_fresh before more ≡ true → ArePlain more → are_options is_option waiting before words ≡ true

take_option : (is_option : Text → Bool) (before more : List Given) (rest : List Text) → TakesAll is_option rest → AreKnown is_option more → are_fresh before more ≡ true
    → ArePlain more → (name : Text) (v : Option Text) → given_then (name, v) (λ waiting. options_from waiting rest) ≡ Some more
    → (is_option name && (not (is_given name before) && named name v before (λ waiting now. are_options is_option waiting now rest))) ≡ true
unfolding are_fresh
take_option is_option before more rest below known fresh plain name (Some v) e =
    let (later, from, same) = bind_some (options_from None rest) (λ given. Some ((name, v) ∷ given)) more e in
    let back : more ≡ (name, v) ∷ later = cc in
    let k : AreKnown is_option ((name, v) ∷ later) = subst (AreKnown is_option) back known in
    let f : are_fresh before ((name, v) ∷ later) ≡ true = subst (λ m. are_fresh before m ≡ true) back fresh in
    let p : ArePlain ((name, v) ∷ later) = subst ArePlain back plain in
    both_true _ _ (and_left _ _ k)
    (both_true _ _ (and_left _ _ f) (below None (before ++ (name, v) ∷ []) later from (and_right _ _ k) (and_right _ _ f) (and_right _ _ p)))
take_option is_option before more rest below known fresh plain name None e =
    let (v, later, back) = waits_first name rest more e in
    let k : AreKnown is_option ((name, v) ∷ later) = subst (AreKnown is_option) back known in
    let f : are_fresh before ((name, v) ∷ later) ≡ true = subst (λ m. are_fresh before m ≡ true) back fresh in
    both_true _ _ (and_left _ _ k) (both_true _ _ (and_left _ _ f) (below (Some name) before more e known fresh plain))

take_as : (is_option : Text → Bool) (before more : List Given) (rest : List Text) → TakesAll is_option rest → AreKnown is_option more → are_fresh before more ≡ true
    → ArePlain more → (l : Option (Text × Option Text)) → (l >>= λ option. given_then option (λ waiting. options_from waiting rest)) ≡ Some more
    → begun is_option l before (λ waiting now. are_options is_option waiting now rest) ≡ true
take_as is_option before more rest below known fresh plain None e = absurd cc
take_as is_option before more rest below known fresh plain (Some p) e = take_option is_option before more rest below known fresh plain p.0 p.1 e

take_step : (is_option : Text → Bool) (word : Text) (rest : List Text) → TakesAll is_option rest → TakesAll is_option (word ∷ rest)
unfolding are_options options_from are_fresh
take_step is_option word rest below (Some name) before more e known fresh plain =
    let (later, from, same) = bind_some (options_from None rest) (λ given. Some ((name, word) ∷ given)) more e in
    let back : more ≡ (name, word) ∷ later = cc in
    let k : AreKnown is_option ((name, word) ∷ later) = subst (AreKnown is_option) back known in
    let f : are_fresh before ((name, word) ∷ later) ≡ true = subst (λ m. are_fresh before m ≡ true) back fresh in
    let p : ArePlain ((name, word) ∷ later) = subst ArePlain back plain in
    both_true _ _ (and_left _ _ p) (below None (before ++ (name, word) ∷ []) later from (and_right _ _ k) (and_right _ _ f) (and_right _ _ p))
take_step is_option word rest below None before more e known fresh plain =
    take_as is_option before more rest below known fresh plain (long_of word)
    (sym (ap (λ l. l >>= λ option. given_then option (λ waiting. options_from waiting rest)) (lexed word)) ∙ e)

take_none : (is_option : Text → Bool) → TakesAll is_option []
unfolding are_options options_from
take_none is_option None before more e known fresh plain = refl
take_none is_option (Some name) before more e known fresh plain = absurd cc

takes_all : (is_option : Text → Bool) (words : List Text) → TakesAll is_option words
takes_all is_option [] = take_none is_option
takes_all is_option (word ∷ rest) = take_step is_option word rest (takes_all is_option rest)

-- ---- each name once

pub same_bytes : (a b : Text) → bytes_eq a b ≡ bytes_eq b a
same_bytes a b = go (bytes_eq a b) (bytes_eq b a) refl refl
  where
    go : (c d : Bool) → bytes_eq a b ≡ c → bytes_eq b a ≡ d → c ≡ d
    go true true e f = refl
    go false false e f = refl
    go true false e f =
        let same : a ≡ b = search (rules, bytes_eq-Decides a b) in
        let back : bytes_eq b a ≡ true = subst (λ t. bytes_eq t a ≡ true) same (subst (λ t. bytes_eq a t ≡ true) (sym same) e) in
        absurd (clash _ f back)
    go false true e f =
        let same : b ≡ a = search (rules, bytes_eq-Decides b a) in
        let back : bytes_eq a b ≡ true = subst (λ t. bytes_eq t b ≡ true) same (subst (λ t. bytes_eq b t ≡ true) (sym same) f) in
        absurd (clash _ e back)

abbrev none_before : List Given → List Given → Bool
none_before before more = list_all (λ (p : Given). not (is_given p.0 before)) more

apart_step : (a b l g : Bool) → (not (a || b) && (l && not g)) ≡ ((not a && l) && not (b || g))
apart_step true b l g = refl
apart_step false true true g = refl
apart_step false true false g = refl
apart_step false false l g = refl

none_before_more : (p : Given) (before more : List Given) → none_before (before ++ p ∷ []) more ≡ (none_before before more && not (is_given p.0 more))
none_before_more p before [] = refl
none_before_more p before (q ∷ more) =
    let one : is_given q.0 (before ++ p ∷ []) ≡ (is_given q.0 before || bytes_eq q.0 p.0) =
    list_any-append (λ (o : Given). bytes_eq o.0 q.0) before (p ∷ []) ∙ ap (λ b. is_given q.0 before || (b || false)) (same_bytes p.0 q.0) ∙ ap (λ b. is_given q.0 before || b) (sym (or_false (bytes_eq q.0 p.0))) in
    ap₂ (λ a b. not a && b) one (none_before_more p before more)
    ∙ apart_step (is_given q.0 before) (bytes_eq q.0 p.0) (none_before before more) (is_given p.0 more)

fresh_step : (a l g o : Bool) → (not a && ((l && not g) && o)) ≡ ((not a && l) && (not g && o))
fresh_step true l g o = refl
fresh_step false true g o = refl
fresh_step false false g o = refl

fresh_is : (more before : List Given) → are_fresh before more ≡ (none_before before more && are_once more)
unfolding are_fresh
fresh_is [] before = refl
fresh_is (p ∷ more) before =
    ap (λ b. not (is_given p.0 before) && b) (fresh_is more (before ++ p ∷ []) ∙ ap (λ b. b && are_once more) (none_before_more p before more))
    ∙ fresh_step (is_given p.0 before) (none_before before more) (is_given p.0 more) (are_once more)

none_before_first : (more : List Given) → none_before [] more ≡ true
none_before_first [] = refl
none_before_first (p ∷ more) = none_before_first more

once_is : (more : List Given) → are_fresh [] more ≡ are_once more
once_is more = fresh_is more [] ∙ ap (λ b. b && are_once more) (none_before_first more)

-- ---- values that are numbers

no_digit : (first : ℕ) (rest : Text) (least most : ℕ) → (first == 45) ≡ true → is_some (number_in least most (first ∷ rest)) ≡ false
no_digit first rest least most e =
    let same : first ≡ 45 = equal_is first 45 e in
    subst (λ x. is_some (number_in least most (x ∷ rest)) ≡ false) (sym same) refl

pub no_hyphen : (text : Text) (least most : ℕ) → is_some (number_in least most text) ≡ true → not (starts_with_hyphen text) ≡ true
no_hyphen [] least most h = refl
no_hyphen (first ∷ rest) least most h = go (first == 45) refl
  where
    go : (b : Bool) → (first == 45) ≡ b → not b ≡ true
    go false e = refl
    go true e = absurd (clash _ (no_digit first rest least most e) h)

-- the option is not given, or its value is a number in its range
abbrev pub may_be : Setting → Option Text → Bool
may_be setting None = true
may_be setting (Some text) = is_some (number_in setting.least setting.most text)

pub numbered : (setting : Setting) (text : Option Text) (n : ℕ) → number_or setting text ≡ Some n → may_be setting text ≡ true
numbered setting None n e = refl
numbered setting (Some text) n e = ap is_some e

-- the value of each option that is given is a number in its range
abbrev pub are_numbers : List Setting → List Given → Bool
are_numbers settings given = list_all (λ (setting : Setting). may_be setting (value_of given setting.name)) settings

first_plain : (settings : List Setting) (p : Given) (rest : List Given) → has_option settings p.0 ≡ true → are_numbers settings (p ∷ rest) ≡ true
    → not (starts_with_hyphen p.1) ≡ true
first_plain [] p rest h numbers = absurd (true≢false (sym h))
first_plain (setting ∷ settings) p rest h numbers = go (bytes_eq setting.name p.0) refl h (λ h. first_plain settings p rest h (and_right _ _ numbers))
  where
    go : (b : Bool) → bytes_eq setting.name p.0 ≡ b → (b || has_option settings p.0) ≡ true → (has_option settings p.0 ≡ true → not (starts_with_hyphen p.1) ≡ true)
        → not (starts_with_hyphen p.1) ≡ true
    go false e h below = below h
    go true e h below =
        let value : value_of (p ∷ rest) setting.name ≡ Some p.1 = rw (same_bytes p.0 setting.name, e) refl in
        no_hyphen p.1 setting.least setting.most (sym (ap (may_be setting) value) ∙ and_left _ _ numbers)

pub not_given : (name : Text) (given : List Given) → is_given name given ≡ false → value_of given name ≡ None
not_given name [] h = refl
not_given name (p ∷ rest) h = go (bytes_eq p.0 name) refl h (not_given name rest)
  where
    go : (b : Bool) → bytes_eq p.0 name ≡ b → (b || is_given name rest) ≡ false → (is_given name rest ≡ false → value_of rest name ≡ None)
        → value_of (p ∷ rest) name ≡ None
    go true e h below = absurd (true≢false h)
    go false e h below = rw e (below h)

rest_numbers : (settings : List Setting) (p : Given) (rest : List Given) → is_given p.0 rest ≡ false → are_numbers settings (p ∷ rest) ≡ true
    → are_numbers settings rest ≡ true
rest_numbers [] p rest new numbers = refl
rest_numbers (setting ∷ settings) p rest new numbers = both_true _ _ (go (bytes_eq p.0 setting.name) refl) (rest_numbers settings p rest new (and_right _ _ numbers))
  where
    go : (b : Bool) → bytes_eq p.0 setting.name ≡ b → may_be setting (value_of rest setting.name) ≡ true
    go true e =
        let same : p.0 ≡ setting.name = search (rules, bytes_eq-Decides p.0 setting.name) in
        ap (may_be setting) (not_given setting.name rest (subst (λ name. is_given name rest ≡ false) same new))
    go false e =
        let value : value_of (p ∷ rest) setting.name ≡ value_of rest setting.name = rw e refl in
        sym (ap (may_be setting) value) ∙ and_left _ _ numbers

all_plain : (settings : List Setting) (given : List Given) → AreKnown (has_option settings) given → are_once given ≡ true → are_numbers settings given ≡ true
    → ArePlain given
all_plain settings [] known once numbers = refl
all_plain settings (p ∷ rest) known once numbers =
    both_true _ _ (first_plain settings p rest (and_left _ _ known) numbers)
    (all_plain settings rest (and_right _ _ known) (and_right _ _ once) (rest_numbers settings p rest (is_false _ (and_left _ _ once)) numbers))

-- ---- options of a table

-- words that clap takes give these options
pub taken_among : (settings : List Setting) (words : List Text) → are_options (has_option settings) None [] words ≡ true
    → options_among settings words ≡ Some (given_in None [] words)
taken_among settings words h =
    let (more, from, given, known, fresh) = read_all (has_option settings) words None [] tt h in
    ap (λ o. o >>= λ given. cond (list_all (λ (p : Given). has_option settings p.0) given && are_once given) (Some given) None) from
    ∙ ap (λ b. cond b (Some more) None) (both_true _ _ known (sym (once_is more) ∙ fresh)) ∙ ap Some (sym given)

chosen : (b : Bool) (x y : List Given) → cond b (Some x) None ≡ Some y → (b ≡ true) × (x ≡ y)
chosen true x y e = (refl, cc)
chosen false x y e = absurd cc

-- and clap takes words whose options are these, where each value is a number
pub among_taken : (settings : List Setting) (words : List Text) (given : List Given) → options_among settings words ≡ Some given
    → are_numbers settings given ≡ true → are_options (has_option settings) None [] words ≡ true
among_taken settings words given e numbers =
    let (more, from, kept) = bind_some (options_from None words) (λ given. cond (list_all (λ (p : Given). has_option settings p.0) given && are_once given) (Some given) None) given e in
    let c = chosen _ more given kept in
    let known = and_left (list_all (λ (p : Given). has_option settings p.0) more) (are_once more) c.0 in
    let once = and_right (list_all (λ (p : Given). has_option settings p.0) more) (are_once more) c.0 in
    takes_all (has_option settings) words None [] more from known (once_is more ∙ once)
    (all_plain settings more known once (subst (λ g. are_numbers settings g ≡ true) (sym c.1) numbers))
