-- What the state between two pieces says of the octets so far.
use Rattle.utf8_stream.proofs.Below.{◌≡◌, ℕ, ◌+◌, ◌-◌, ◌<◌, ◌≤◌, true, false, List, [], ◌∷◌, ◌++◌, length, get_or, take, drop, flat_map, None, Some, sym, ap, subst, ◌∙◌, arith, inl, inr, append_assoc, length-append, take-append-add, append-nil, take_all, take-take, length-take, take-append-le, take-append-drop, drop_more, flat_map-append, ne_eqb, cases_lt, false_from_ne_true, IsUtf8-from_is_utf8, is_utf8-from_IsUtf8, IsUtf8-nil, IsUtf8, is_some, ◌==◌, is_utf8, is_text_front, continuation_of, front_of_continued, not_front, Utf8, IsUnfinished, IsWholeUpTo, IsCarried, accepts, Follows}
use Rattle.utf8_stream.proofs.FrontLemmas.{is_utf8-behind, is_utf8-parted}

-- ---- for callers, who keep `Follows utf8 all` beside the octets `all`

-- the next piece
pub Follows-push : (old new : Utf8) (all piece : List ℕ) → ((more : List ℕ) → accepts new more ≡ accepts old (piece ++ more)) → Follows old all → Follows new (all ++ piece)
Follows-push old new all piece ahead follows = λ more. ahead more ∙ follows (piece ++ more) ∙ ap is_utf8 (sym (append_assoc all piece more))

-- the text may end here exactly where the octets are UTF-8
pub Follows-end : (utf8 : Utf8) (all : List ℕ) → Follows utf8 all → accepts utf8 [] ≡ is_utf8 all
Follows-end utf8 all follows = follows [] ∙ ap is_utf8 (append-nil all)

-- some continuation is accepted exactly where the octets can become text
pub is_text_front-from_accepts : (utf8 : Utf8) (all more : List ℕ) → Follows utf8 all → accepts utf8 more ≡ true → is_text_front all ≡ true
is_text_front-from_accepts utf8 all more follows e = front_of_continued all more (IsUtf8-from_is_utf8 (all ++ more) (sym (follows more) ∙ e))

pub accepts-from_is_text_front : (utf8 : Utf8) (all : List ℕ) → Follows utf8 all → is_text_front all ≡ true → (more : List ℕ) × (accepts utf8 more ≡ true)
accepts-from_is_text_front utf8 all follows e = let c = continuation_of all e in (c.0, follows c.0 ∙ is_utf8-from_IsUtf8 (all ++ c.0) c.1)

-- octets that no continuation makes UTF-8 stay so
pub is_utf8-malformed : (all more : List ℕ) → is_text_front all ≡ false → is_utf8 (all ++ more) ≡ false
is_utf8-malformed all more e = false_from_ne_true (is_utf8 (all ++ more)) (λ t.
    let f : is_text_front all ≡ true = front_of_continued all more (IsUtf8-from_is_utf8 (all ++ more) t) in cc)

-- ---- the two states

pub Follows-None : (all : List ℕ) → is_text_front all ≡ false → Follows None all
Follows-None all e = λ more. sym (is_utf8-malformed all more e)

pub is_text_front-None : (all : List ℕ) → Follows None all → is_text_front all ≡ false
is_text_front-None all follows = false_from_ne_true (is_text_front all) (λ e.
    let c = accepts-from_is_text_front None all follows e in let f : false ≡ true = c.1 in cc)

pub is_text_front-Some : (carried all : List ℕ) → IsUnfinished carried → Follows (Some carried) all → is_text_front all ≡ true
is_text_front-Some carried all u follows =
    let c = continuation_of carried u.begun in
    is_text_front-from_accepts (Some carried) all c.0 follows (is_utf8-from_IsUtf8 (carried ++ c.0) c.1)

-- something is carried exactly where some continuation is UTF-8
pub is_text_front-state : (utf8 : Utf8) (all : List ℕ) → IsCarried utf8 → Follows utf8 all → is_some utf8 ≡ is_text_front all
is_text_front-state None all valid follows = sym (is_text_front-None all follows)
is_text_front-state (Some carried) all valid follows = sym (is_text_front-Some carried all valid follows)

-- what is unfinished is UTF-8 only where it is empty
pub accepts-nil : (carried : List ℕ) → IsUnfinished carried → accepts (Some carried) [] ≡ (length carried == 0)
accepts-nil [] u = is_utf8-from_IsUtf8 [] IsUtf8-nil
accepts-nil (b ∷ bs) u =
    let some : 0 < length (b ∷ bs) = omega arith in
    false_from_ne_true (is_utf8 ((b ∷ bs) ++ [])) (λ t.
    u.open_ended (length (b ∷ bs)) some (omega arith)
    (subst IsUtf8 (append-nil (b ∷ bs) ∙ sym (take_all (length (b ∷ bs)) (b ∷ bs) (omega arith))) (IsUtf8-from_is_utf8 ((b ∷ bs) ++ []) t)))
    ∙ sym (ne_eqb (length (b ∷ bs)) 0 (omega arith))

pub Follows-Some : (bs : List ℕ) (n : ℕ) → IsWholeUpTo bs n → Follows (Some (drop n bs)) bs
Follows-Some bs n w = λ more. sym (is_utf8-parted bs more n w.whole)

-- ---- one more piece

pub accepts-pushed : (new : Utf8) (carried piece : List ℕ) → Follows new (carried ++ piece) → (more : List ℕ) → accepts new more ≡ accepts (Some carried) (piece ++ more)
accepts-pushed new carried piece follows = λ more. follows more ∙ ap is_utf8 (append_assoc carried piece more)

pub Follows-behind : (utf8 : Utf8) (carried piece : List ℕ) (n : ℕ) → IsUtf8 (carried ++ take n piece) → Follows utf8 (drop n piece) → Follows utf8 (carried ++ piece)
Follows-behind utf8 carried piece n u follows = λ more.
    let whole : (carried ++ take n piece) ++ (drop n piece ++ more) ≡ (carried ++ piece) ++ more =
    append_assoc carried (take n piece) (drop n piece ++ more)
    ∙ ap (λ (s : List ℕ). carried ++ s) (sym (append_assoc (take n piece) (drop n piece) more) ∙ ap (λ (s : List ℕ). s ++ more) (take-append-drop n piece))
    ∙ sym (append_assoc carried piece more) in
    follows more ∙ sym (is_utf8-behind (carried ++ take n piece) (drop n piece ++ more) u) ∙ ap is_utf8 whole

pub Follows-malformed : (carried piece : List ℕ) (n : ℕ) → is_text_front (carried ++ take n piece) ≡ false → Follows None (carried ++ piece)
Follows-malformed carried piece n e =
    let whole : (carried ++ take n piece) ++ drop n piece ≡ carried ++ piece =
    append_assoc carried (take n piece) (drop n piece) ∙ ap (λ (s : List ℕ). carried ++ s) (take-append-drop n piece) in
    Follows-None (carried ++ piece) (sym (ap is_text_front whole) ∙ not_front (carried ++ take n piece) (drop n piece) e)

-- a whole character ends behind what was carried
pub carried_lt : (carried piece : List ℕ) (whole : ℕ) → IsUnfinished carried → IsWholeUpTo (carried ++ piece) whole → 0 < whole → length carried < whole
carried_lt carried piece whole u w some = elim (cases_lt (length carried) whole) [
  | inl longer ↦ longer
  | inr within ↦ absurd (u.open_ended whole some within (subst IsUtf8 (take-append-le whole carried piece within) w.whole))
]

pub joined_text : (carried piece : List ℕ) (whole : ℕ) → IsWholeUpTo (carried ++ take 3 piece) whole → length carried ≤ whole → IsUtf8 (carried ++ take (whole - length carried) piece)
joined_text carried piece whole w longer =
    let within : whole ≤ length (carried ++ take 3 piece) = w.within in
    let few : whole - length carried ≤ 3 = omega (arith, length-append carried (take 3 piece), length-take 3 piece) in
    let at : whole ≡ length carried + (whole - length carried) = omega arith in
    subst IsUtf8
    (ap (λ n. take n (carried ++ take 3 piece)) at
    ∙ take-append-add carried (take 3 piece) (whole - length carried)
    ∙ ap (λ (s : List ℕ). carried ++ s) (take-take (whole - length carried) 3 piece few))
    w.whole

-- no piece behind malformed ones makes text
pub is_utf8-pieces : {X : Type 0} (f : X → List ℕ) (pieces : List X) (i : ℕ) (piece : X) → i < length pieces → piece ≡ get_or pieces i piece → is_text_front (flat_map f (take i pieces) ++ f piece) ≡ false → is_utf8 (flat_map f pieces) ≡ false
is_utf8-pieces f pieces i piece within here e =
    let rest : drop i pieces ≡ piece ∷ drop (i + 1) pieces = drop_more pieces i piece within ∙ ap (λ x. x ∷ drop (i + 1) pieces) (sym here) in
    let whole : flat_map f pieces ≡ (flat_map f (take i pieces) ++ f piece) ++ flat_map f (drop (i + 1) pieces) =
    ap (flat_map f) (sym (take-append-drop i pieces)) ∙ flat_map-append f (take i pieces) (drop i pieces)
    ∙ ap (λ l. flat_map f (take i pieces) ++ flat_map f l) rest
    ∙ sym (append_assoc (flat_map f (take i pieces)) (f piece) (flat_map f (drop (i + 1) pieces))) in
    ap is_utf8 whole ∙ is_utf8-malformed (flat_map f (take i pieces) ++ f piece) (flat_map f (drop (i + 1) pieces)) e
