-- Where octets break off within a character.
use Rattle.utf8_stream.proofs.Below.{◌≡◌, ℕ, zero, suc, ◌+◌, ◌<◌, ◌≤◌, Bool, true, false, List, [], ◌∷◌, ◌++◌, length, get_or, take, drop, Option, refl, sym, ap, subst, ◌∙◌, arith, inl, inr, append_assoc, length-append, length-drop, take-add, take_at, drop_at, take_all, drop_all, take-append-le, take-append-drop, drop-drop, get_or_append_left, get_or-drop, and_parts, cases_lt, IsUtf8-from_is_utf8, is_utf8-from_IsUtf8, IsUtf8-nil, IsUtf8-append, IsUtf8-take, IsUtf8-drop, IsUtf8-encode, IsCharBoundary-start, IsCharBoundary-from_take, IsCharBoundary-after_ascii, length-encode, len_utf8_bounds, IsUtf8, is_none, both_ways, is_utf8, IsValidUpTo, utf8_valid_len, utf8_error_len, is_text_front, longest, continuation_of, front_of_continued, IsUnfinished, IsWholeUpTo}
use lib.Utf8.{encode, encodes, scalars, scalar}

-- ---- text behind text

pub text_behind : (xs ys : List ℕ) → IsUtf8 xs → IsUtf8 (xs ++ ys) → IsUtf8 ys
text_behind xs ys u w = subst IsUtf8 (drop_at xs ys (length xs) refl)
    (IsUtf8-drop (xs ++ ys) (length xs) w
    (IsCharBoundary-from_take (xs ++ ys) (length xs) w (omega (arith, length-append xs ys)) (subst IsUtf8 (sym (take_at xs ys (length xs) refl)) u)))

pub is_utf8-behind : (xs ys : List ℕ) → IsUtf8 xs → is_utf8 (xs ++ ys) ≡ is_utf8 ys
is_utf8-behind xs ys u = both_ways (is_utf8 (xs ++ ys)) (is_utf8 ys)
    (λ e. is_utf8-from_IsUtf8 ys (text_behind xs ys u (IsUtf8-from_is_utf8 (xs ++ ys) e)))
    (λ e. is_utf8-from_IsUtf8 (xs ++ ys) (IsUtf8-append xs ys u (IsUtf8-from_is_utf8 ys e)))

-- what follows the first octets, and then more
parted : (bs more : List ℕ) (n : ℕ) → bs ++ more ≡ take n bs ++ (drop n bs ++ more)
parted bs more n = ap (λ (s : List ℕ). s ++ more) (sym (take-append-drop n bs)) ∙ append_assoc (take n bs) (drop n bs) more

pub is_utf8-parted : (bs more : List ℕ) (n : ℕ) → IsUtf8 (take n bs) → is_utf8 (bs ++ more) ≡ is_utf8 (drop n bs ++ more)
is_utf8-parted bs more n u = ap is_utf8 (parted bs more n) ∙ is_utf8-behind (take n bs) (drop n bs ++ more) u

-- octets whose front is text can become text exactly where the rest can
pub is_text_front-drop : (bs : List ℕ) (n : ℕ) → IsUtf8 (take n bs) → is_text_front bs ≡ is_text_front (drop n bs)
is_text_front-drop bs n u = both_ways (is_text_front bs) (is_text_front (drop n bs))
    (λ e. let c = continuation_of bs e in
    front_of_continued (drop n bs) c.0 (text_behind (take n bs) (drop n bs ++ c.0) u (subst IsUtf8 (parted bs c.0 n) c.1)))
    (λ e. let c = continuation_of (drop n bs) e in
    front_of_continued bs c.0 (subst IsUtf8 (sym (parted bs c.0 n)) (IsUtf8-append (take n bs) (drop n bs ++ c.0) u c.1)))

-- ---- unfinished characters

abbrev IsOpenEnded : List ℕ → Type 0
IsOpenEnded t = (count : ℕ) → 0 < count → count ≤ length t → ¬ (IsUtf8 (take count t))

-- it has fewer octets than its character has
few_octets : (cs t rest : List ℕ) → scalars cs ≡ true → encodes cs ≡ t ++ rest → IsOpenEnded t → length t ≤ 3
few_octets [] t rest s e textless = omega (arith, ap length e, length-append t rest)
few_octets (c ∷ cs) t rest s e textless = elim (cases_lt (length t) 4) [
  | inl few ↦ omega arith
  | inr many ↦
      let size = length-encode c in
      let bounds = len_utf8_bounds c in
      let within : length (encode c) ≤ length t = omega (arith, size, bounds.1) in
      absurd (textless (length (encode c)) (omega (arith, size, bounds.0)) within
      (subst IsUtf8
      (sym (take_at (encode c) (encodes cs) (length (encode c)) refl) ∙ ap (take (length (encode c))) e ∙ take-append-le (length (encode c)) t rest within)
      (IsUtf8-encode c (and_parts (scalar c) (scalars cs) s).0)))
]

pub IsUnfinished-from_open : (t : List ℕ) → is_text_front t ≡ true → IsOpenEnded t → IsUnfinished t
IsUnfinished-from_open t e textless =
    let c = continuation_of t e in
    record { few = few_octets c.1.0 t c.0 c.1.1.0 c.1.1.1 textless; begun = e; open_ended = textless }

pub IsUnfinished-nil : IsUnfinished []
IsUnfinished-nil = IsUnfinished-from_open [] (front_of_continued [] [] IsUtf8-nil) (λ count some within. absurd (omega arith))

-- its first octet begins a character of two octets or more
pub first_leads : (t : List ℕ) → IsUnfinished t → 0 < length t → 192 ≤ get_or t 0 0
first_leads t u some =
    let c = continuation_of t u.begun in
    let same : get_or (t ++ c.0) 0 0 ≡ get_or t 0 0 = get_or_append_left t c.0 0 0 some in
    let longer : 0 < length (t ++ c.0) = omega (arith, length-append t c.0) in
    elim (cases_lt (get_or t 0 0) 128) [
      | inl ascii ↦
          absurd (u.open_ended 1 (omega arith) (omega arith)
          (subst IsUtf8 (take-append-le 1 t c.0 (omega arith))
          (IsUtf8-take (t ++ c.0) 1 c.1 (IsCharBoundary-after_ascii (t ++ c.0) 0 c.1 longer (omega arith)))))
      | inr high ↦ let leads : 192 ≤ get_or (t ++ c.0) 0 0 = (IsCharBoundary-start (t ++ c.0) c.1).1 longer (omega arith) in omega arith
    ]

-- ---- the longest front that is text

-- behind it stands what is unfinished
whole_longest : (bs : List ℕ) (v : ℕ) → is_text_front bs ≡ true → v ≤ length bs → IsUtf8 (take v bs) → ((k : ℕ) → v < k → k ≤ length bs → ¬ (IsUtf8 (take k bs))) → IsWholeUpTo bs v
whole_longest bs v e within front longest = record {
  within = within;
  whole = front;
  unfinished = IsUnfinished-from_open (drop v bs) (sym (is_text_front-drop bs v front) ∙ e)
      (λ count some inside u. longest (v + count) (omega arith) (omega (arith, length-drop v bs))
      (subst IsUtf8 (sym (take-add v count bs)) (IsUtf8-append (take v bs) (take count (drop v bs)) front u)));
}

pub IsWholeUpTo-some : (bs : List ℕ) → is_text_front bs ≡ true → (n : ℕ) × IsWholeUpTo bs n
IsWholeUpTo-some bs e = let l = longest bs in (utf8_valid_len bs, whole_longest bs (utf8_valid_len bs) e l.within l.front l.longest)

-- ---- what `whole_len` answers

-- what std's error says of them
pub is_text_front-from_error : (bs : List ℕ) (v : ℕ) (len : Option ℕ) → v ≡ utf8_valid_len bs → len ≡ utf8_error_len (drop v bs) → is_none len ≡ is_text_front bs
is_text_front-from_error bs v len valid fault = ap is_none (fault ∙ ap (λ n. utf8_error_len (drop n bs)) valid)

pub IsWholeUpTo-text : (bs : List ℕ) → IsUtf8 bs → IsWholeUpTo bs (length bs)
IsWholeUpTo-text bs u = record {
  within = omega arith;
  whole = subst IsUtf8 (sym (take_all (length bs) bs (omega arith))) u;
  unfinished = subst IsUnfinished (sym (drop_all (length bs) bs (omega arith))) IsUnfinished-nil;
}

pub IsWholeUpTo-cut : (bs : List ℕ) (n : ℕ) → IsValidUpTo bs n → is_text_front bs ≡ true → IsWholeUpTo bs n
IsWholeUpTo-cut bs n v e = whole_longest bs n e (let short = v.short in omega arith) v.front (λ k p q. v.longest k p)

-- ---- what `last_start` answers

pub text_before_lead : (bs : List ℕ) (at : ℕ) → is_text_front bs ≡ true → at < length bs → 192 ≤ get_or bs at 0 → IsUtf8 (take at bs)
text_before_lead bs at e within lead =
    let c = continuation_of bs e in
    let same : get_or (bs ++ c.0) at 0 ≡ get_or bs at 0 = get_or_append_left bs c.0 0 at within in
    let leads : 192 ≤ get_or (bs ++ c.0) at 0 = omega arith in
    subst IsUtf8 (take-append-le at bs c.0 (omega arith))
    (IsUtf8-take (bs ++ c.0) at c.1 (omega (arith, length-append bs c.0), λ _ _. leads))

pub text_without_lead : (bs : List ℕ) → is_text_front bs ≡ true → ((at : ℕ) → length bs ≤ at + 3 → at < length bs → get_or bs at 0 < 192) → IsUtf8 bs
text_without_lead bs e low =
    let n = IsWholeUpTo-some bs e in
    let u = n.1.unfinished in
    let few : length (drop n.0 bs) ≤ 3 = u.few in
    elim (cases_lt n.0 (length bs)) [
      | inl short ↦
          let leads : 192 ≤ get_or (drop n.0 bs) 0 0 = first_leads (drop n.0 bs) u (omega (arith, length-drop n.0 bs)) in
          let same : get_or (drop n.0 bs) 0 0 ≡ get_or bs (n.0 + 0) 0 = get_or-drop n.0 bs 0 0 in
          let here : get_or bs (n.0 + 0) 0 ≡ get_or bs n.0 0 = ap (λ i. get_or bs i 0) (omega arith) in
          let below : get_or bs n.0 0 < 192 = low n.0 (omega (arith, length-drop n.0 bs)) short in
          absurd (omega arith)
      | inr all ↦ subst IsUtf8 (take_all n.0 bs all) n.1.whole
    ]

-- ---- what `long_whole_len` answers

pub IsWholeUpTo-behind : (bs : List ℕ) (start n : ℕ) → start ≤ length bs → IsUtf8 (take start bs) → IsWholeUpTo (drop start bs) n → IsWholeUpTo bs (start + n)
IsWholeUpTo-behind bs start n within u w = record {
  within = let inner : n ≤ length (drop start bs) = w.within in omega (arith, length-drop start bs);
  whole = subst IsUtf8 (sym (take-add start n bs)) (IsUtf8-append (take start bs) (take n (drop start bs)) u w.whole);
  unfinished = subst IsUnfinished (drop-drop n start bs) w.unfinished;
}
