-- Rows in rising order: one changed at its place, one more, one less.
use Rattle.hub_tellings.proofs.Below.{◌≡◌, ◌≢◌, ◌<◌, ◌≤◌, ℕ, ◌+◌, List, [], ◌∷◌, Option, Some, None, Bool, true, false, ◌||◌, ◌&&◌, not, cond, nat_eq, nat_lt, length, get_or, get_or_default, get_or-set_same, length-set, set, refl, sym, ap, ◌∙◌, subst, arith, zero, suc, Result, Ok, Err, IfOk, IfErr, nat_tests, ranked, IsNonDecreasingBy-from_default, by_cases, equal_is, is_equal, is_unequal, unequal_is, insert, remove, slice_get, IsBinarySearchResult, IsNonDecreasingBy, IsSearchInRange, nat_cmp, ordering_index, option_map, Tell, at_turn, has_news, nothing_told, Entry, has_entry, TellingValue, AreAbove, AreRising, tell_in, tell_of, AreRisingRows, AreRowsAbove, ChangesRow, IsGapFor, IsNextRow, IsRowAt, TellingsState, has_row, no_row, number_at}

-- ---- the first row, and the others

tell_first : (x : TellingValue) (xs : List TellingValue) (c : ℕ) → x.conn ≡ c → tell_of (x ∷ xs) c ≡ tell_in x
tell_first x xs c e = ap (λ (z : Bool). cond z (tell_in x) (tell_of xs c)) (is_equal x.conn c e)

tell_later : (x : TellingValue) (xs : List TellingValue) (c : ℕ) → x.conn ≢ c → tell_of (x ∷ xs) c ≡ tell_of xs c
tell_later x xs c ne = ap (λ (z : Bool). cond z (tell_in x) (tell_of xs c)) (is_unequal x.conn c ne)

has_first : (x : TellingValue) (xs : List TellingValue) (c : ℕ) → x.conn ≡ c → has_row (x ∷ xs) c ≡ true
has_first x xs c e = ap (λ (z : Bool). z || has_row xs c) (is_equal x.conn c e)

has_later : (x : TellingValue) (xs : List TellingValue) (c : ℕ) → x.conn ≢ c → has_row (x ∷ xs) c ≡ has_row xs c
has_later x xs c ne = ap (λ (z : Bool). z || has_row xs c) (is_unequal x.conn c ne)

has_more : (x : TellingValue) (xs : List TellingValue) (c : ℕ) → has_row xs c ≡ true → has_row (x ∷ xs) c ≡ true
has_more x xs c there = by_cases (nat_eq x.conn c) (λ t. ap (λ (z : Bool). z || has_row xs c) t) (λ t. ap (λ (z : Bool). z || has_row xs c) t ∙ there)

tell_under : (x : TellingValue) (xs ys : List TellingValue) (c : ℕ) → tell_of ys c ≡ tell_of xs c → tell_of (x ∷ ys) c ≡ tell_of (x ∷ xs) c
tell_under x xs ys c e = ap (λ (z : Tell). cond (nat_eq x.conn c) (tell_in x) z) e

has_under : (x : TellingValue) (xs ys : List TellingValue) (c : ℕ) → has_row ys c ≡ has_row xs c → has_row (x ∷ ys) c ≡ has_row (x ∷ xs) c
has_under x xs ys c e = ap (λ (z : Bool). nat_eq x.conn c || z) e

-- ---- the order of the numbers

above_at : (a : ℕ) (xs : List TellingValue) (i : ℕ) → AreRowsAbove a xs → i < length xs → a < number_at xs i
above_at a [] i h l = absurd (omega arith)
above_at a (x ∷ xs) zero h l = h.0
above_at a (x ∷ xs) (suc i) h l = above_at a xs i h.1 (omega arith)

above_less : (a b : ℕ) (xs : List TellingValue) → b ≤ a → AreRowsAbove a xs → AreRowsAbove b xs
above_less a b [] l h = tt {0}
above_less a b (x ∷ xs) l h = (let k = h.0 in omega arith, above_less a b xs l h.1)

rising_at : (xs : List TellingValue) → AreRisingRows xs → (i j : ℕ) → i < j → j < length xs → number_at xs i < number_at xs j
rising_at [] up i j l m = absurd (omega arith)
rising_at (x ∷ xs) up i zero l m = absurd (omega arith)
rising_at (x ∷ xs) up zero (suc j) l m = above_at x.conn xs j up.0 (omega arith)
rising_at (x ∷ xs) up (suc i) (suc j) l m = rising_at xs up.1 i j (omega arith) (omega arith)

in_order : (xs : List TellingValue) → AreRisingRows xs → (i j : ℕ) → i ≤ j → j < length xs → number_at xs i ≤ number_at xs j
in_order [] up i j l m = absurd (omega arith)
in_order (x ∷ xs) up zero zero l m = omega arith
in_order (x ∷ xs) up zero (suc j) l m = let h = above_at x.conn xs j up.0 (omega arith) in omega arith
in_order (x ∷ xs) up (suc i) zero l m = absurd (omega arith)
in_order (x ∷ xs) up (suc i) (suc j) l m = in_order xs up.1 i j (omega arith) (omega arith)

-- a number up to one that all are above has no row
none_below : (xs : List TellingValue) (a c : ℕ) → AreRowsAbove a xs → c ≤ a → has_row xs c ≡ false
none_below [] a c h l = refl
none_below (x ∷ xs) a c h l = let k = h.0 in has_later x xs c (λ q. absurd (omega arith)) ∙ none_below xs a c h.1 l

-- of who has no row nothing is to be told
pub nothing_of : (xs : List TellingValue) (c : ℕ) → has_row xs c ≡ false → tell_of xs c ≡ nothing_told
nothing_of [] c none = refl
nothing_of (x ∷ xs) c none = by_cases (nat_eq x.conn c)
    (λ t. absurd (let z : true ≡ false = sym (ap (λ (z : Bool). z || has_row xs c) t) ∙ none in cc))
    (λ t. ap (λ (z : Bool). cond z (tell_in x) (tell_of xs c)) t ∙ nothing_of xs c (sym (ap (λ (z : Bool). z || has_row xs c) t) ∙ none))

-- ---- the row stands at a place

pub tell_at : (xs : List TellingValue) (c i : ℕ) → AreRisingRows xs → IsRowAt xs c i → tell_of xs c ≡ tell_in (get_or xs i no_row)
tell_at [] c i up at = absurd (let l = at.in_range in omega arith)
tell_at (x ∷ xs) c zero up at = tell_first x xs c at.number_is
tell_at (x ∷ xs) c (suc i) up at =
    let l = at.in_range in let e = at.number_is in let h = above_at x.conn xs i up.0 (omega arith) in
    tell_later x xs c (λ q. absurd (omega arith)) ∙ tell_at xs c i up.1 (record { in_range = omega arith; number_is = e })

pub has_at : (xs : List TellingValue) (c i : ℕ) → IsRowAt xs c i → has_row xs c ≡ true
has_at [] c i at = absurd (let l = at.in_range in omega arith)
has_at (x ∷ xs) c zero at = has_first x xs c at.number_is
has_at (x ∷ xs) c (suc i) at = let l = at.in_range in has_more x xs c (has_at xs c i (record { in_range = omega arith; number_is = at.number_is }))

-- ---- it is changed, and keeps its number

set_tell : (xs : List TellingValue) (c i : ℕ) (y : TellingValue) → AreRisingRows xs → i < length xs → number_at xs i ≡ c → y.conn ≡ c → tell_of (set xs i y) c ≡ tell_in y
set_tell [] c i y up l e own = absurd (omega arith)
set_tell (x ∷ xs) c zero y up l e own = tell_first y xs c own
set_tell (x ∷ xs) c (suc i) y up l e own =
    let h = above_at x.conn xs i up.0 (omega arith) in
    tell_later x (set xs i y) c (λ q. absurd (omega arith)) ∙ set_tell xs c i y up.1 (omega arith) e own

set_others : (xs : List TellingValue) (c d i : ℕ) (y : TellingValue) → number_at xs i ≡ c → y.conn ≡ c → d ≢ c → tell_of (set xs i y) d ≡ tell_of xs d
set_others [] c d i y e own ne = refl
set_others (x ∷ xs) c d zero y e own ne = tell_later y xs d (λ q. ne (sym q ∙ own)) ∙ sym (tell_later x xs d (λ q. ne (sym q ∙ e)))
set_others (x ∷ xs) c d (suc i) y e own ne = tell_under x xs (set xs i y) d (set_others xs c d i y e own ne)

set_has : (xs : List TellingValue) (c d i : ℕ) (y : TellingValue) → number_at xs i ≡ c → y.conn ≡ c → has_row (set xs i y) d ≡ has_row xs d
set_has [] c d i y e own = refl
set_has (x ∷ xs) c d zero y e own = ap (λ (n : ℕ). nat_eq n d || has_row xs d) (own ∙ sym e)
set_has (x ∷ xs) c d (suc i) y e own = has_under x xs (set xs i y) d (set_has xs c d i y e own)

set_above : (a : ℕ) (xs : List TellingValue) (c i : ℕ) (y : TellingValue) → number_at xs i ≡ c → y.conn ≡ c → AreRowsAbove a xs → AreRowsAbove a (set xs i y)
set_above a [] c i y e own h = h
set_above a (x ∷ xs) c zero y e own h = (let k = h.0 in omega arith, h.1)
set_above a (x ∷ xs) c (suc i) y e own h = (h.0, set_above a xs c i y e own h.1)

set_rising : (xs : List TellingValue) (c i : ℕ) (y : TellingValue) → number_at xs i ≡ c → y.conn ≡ c → AreRisingRows xs → AreRisingRows (set xs i y)
set_rising [] c i y e own up = up
set_rising (x ∷ xs) c zero y e own up = (above_less x.conn y.conn xs (omega arith) up.0, up.1)
set_rising (x ∷ xs) c (suc i) y e own up = (set_above x.conn xs c i y e own up.0, set_rising xs c i y e own up.1)

-- ---- one more row

insert_tell : (xs : List TellingValue) (c i : ℕ) (y : TellingValue) → i ≤ length xs → ((k : ℕ) → k < i → number_at xs k < c) → y.conn ≡ c → tell_of (insert xs i y) c ≡ tell_in y
insert_tell xs c zero y l less own = tell_first y xs c own
insert_tell [] c (suc i) y l less own = absurd (omega arith)
insert_tell (x ∷ xs) c (suc i) y l less own =
    let h = less 0 (omega arith) in
    tell_later x (insert xs i y) c (λ q. absurd (omega arith)) ∙ insert_tell xs c i y (omega arith) (λ k m. less (suc k) (omega arith)) own

insert_others : (xs : List TellingValue) (c d i : ℕ) (y : TellingValue) → i ≤ length xs → y.conn ≡ c → d ≢ c → tell_of (insert xs i y) d ≡ tell_of xs d
insert_others xs c d zero y l own ne = tell_later y xs d (λ q. ne (sym q ∙ own))
insert_others [] c d (suc i) y l own ne = absurd (omega arith)
insert_others (x ∷ xs) c d (suc i) y l own ne = tell_under x xs (insert xs i y) d (insert_others xs c d i y (omega arith) own ne)

insert_has : (xs : List TellingValue) (c i : ℕ) (y : TellingValue) → i ≤ length xs → y.conn ≡ c → has_row (insert xs i y) c ≡ true
insert_has xs c zero y l own = has_first y xs c own
insert_has [] c (suc i) y l own = absurd (omega arith)
insert_has (x ∷ xs) c (suc i) y l own = has_more x (insert xs i y) c (insert_has xs c i y (omega arith) own)

insert_has_others : (xs : List TellingValue) (c d i : ℕ) (y : TellingValue) → i ≤ length xs → y.conn ≡ c → d ≢ c → has_row (insert xs i y) d ≡ has_row xs d
insert_has_others xs c d zero y l own ne = has_later y xs d (λ q. ne (sym q ∙ own))
insert_has_others [] c d (suc i) y l own ne = absurd (omega arith)
insert_has_others (x ∷ xs) c d (suc i) y l own ne = has_under x xs (insert xs i y) d (insert_has_others xs c d i y (omega arith) own ne)

insert_above : (a : ℕ) (xs : List TellingValue) (i : ℕ) (y : TellingValue) → i ≤ length xs → a < y.conn → AreRowsAbove a xs → AreRowsAbove a (insert xs i y)
insert_above a xs zero y l m h = (m, h)
insert_above a [] (suc i) y l m h = absurd (omega arith)
insert_above a (x ∷ xs) (suc i) y l m h = (h.0, insert_above a xs i y (omega arith) m h.1)

-- each row of rows in order is above a number that the first is above
above_first : (a : ℕ) (xs : List TellingValue) → AreRisingRows xs → ((k : ℕ) → k < length xs → a < number_at xs k) → AreRowsAbove a xs
above_first a [] up more = tt {0}
above_first a (x ∷ xs) up more = (more 0 (omega arith), above_first a xs up.1 (λ k l. more (suc k) (omega arith)))

insert_rising : (xs : List TellingValue) (c i : ℕ) (y : TellingValue) → y.conn ≡ c → AreRisingRows xs → i ≤ length xs → ((k : ℕ) → k < i → number_at xs k < c) → ((k : ℕ) → i ≤ k → k < length xs → c < number_at xs k) → AreRisingRows (insert xs i y)
insert_rising xs c zero y own up l less more = (above_first y.conn xs up (λ k m. let h = more k (omega arith) m in omega arith), up)
insert_rising [] c (suc i) y own up l less more = absurd (omega arith)
insert_rising (x ∷ xs) c (suc i) y own up l less more =
    let h = less 0 (omega arith) in
    (insert_above x.conn xs i y (omega arith) (omega arith) up.0, insert_rising xs c i y own up.1 (omega arith) (λ k m. less (suc k) (omega arith)) (λ k m o. more (suc k) (omega arith) (omega arith)))

none_of_all : (xs : List TellingValue) (c : ℕ) → ((k : ℕ) → k < length xs → number_at xs k ≢ c) → has_row xs c ≡ false
none_of_all [] c h = refl
none_of_all (x ∷ xs) c h = has_later x xs c (h 0 (omega arith)) ∙ none_of_all xs c (λ k l. h (suc k) (omega arith))

less_or : (k i : ℕ) → nat_lt k i ≡ true → k < i
less_or k i e = grind (arith, nat_tests)

else_more : (k i : ℕ) → nat_lt k i ≡ false → i ≤ k
else_more k i e = grind (arith, nat_tests)

-- a connection for which there is a gap has no row
pub gap_has : (xs : List TellingValue) (c i : ℕ) → IsGapFor xs c i → has_row xs c ≡ false
gap_has xs c i gap = none_of_all xs c (λ k l q. by_cases (nat_lt k i)
    (λ t. let h = gap.less_before k (less_or k i t) in absurd (omega arith))
    (λ t. let h = gap.greater_after k (else_more k i t) l in absurd (omega arith)))

-- ---- one row less

remove_others : (xs : List TellingValue) (c d i : ℕ) → i < length xs → number_at xs i ≡ c → d ≢ c → tell_of (remove xs i) d ≡ tell_of xs d
remove_others [] c d i l e ne = absurd (omega arith)
remove_others (x ∷ xs) c d zero l e ne = sym (tell_later x xs d (λ q. ne (sym q ∙ e)))
remove_others (x ∷ xs) c d (suc i) l e ne = tell_under x xs (remove xs i) d (remove_others xs c d i (omega arith) e ne)

remove_has_others : (xs : List TellingValue) (c d i : ℕ) → i < length xs → number_at xs i ≡ c → d ≢ c → has_row (remove xs i) d ≡ has_row xs d
remove_has_others [] c d i l e ne = absurd (omega arith)
remove_has_others (x ∷ xs) c d zero l e ne = sym (has_later x xs d (λ q. ne (sym q ∙ e)))
remove_has_others (x ∷ xs) c d (suc i) l e ne = has_under x xs (remove xs i) d (remove_has_others xs c d i (omega arith) e ne)

remove_has : (xs : List TellingValue) (c i : ℕ) → AreRisingRows xs → i < length xs → number_at xs i ≡ c → has_row (remove xs i) c ≡ false
remove_has [] c i up l e = absurd (omega arith)
remove_has (x ∷ xs) c zero up l e = none_below xs x.conn c up.0 (omega arith)
remove_has (x ∷ xs) c (suc i) up l e =
    let h = above_at x.conn xs i up.0 (omega arith) in
    has_later x (remove xs i) c (λ q. absurd (omega arith)) ∙ remove_has xs c i up.1 (omega arith) e

remove_above : (a : ℕ) (xs : List TellingValue) (i : ℕ) → i < length xs → AreRowsAbove a xs → AreRowsAbove a (remove xs i)
remove_above a [] i l h = absurd (omega arith)
remove_above a (x ∷ xs) zero l h = h.1
remove_above a (x ∷ xs) (suc i) l h = (h.0, remove_above a xs i (omega arith) h.1)

remove_rising : (xs : List TellingValue) (i : ℕ) → i < length xs → AreRisingRows xs → AreRisingRows (remove xs i)
remove_rising [] i l up = absurd (omega arith)
remove_rising (x ∷ xs) zero l up = up.1
remove_rising (x ∷ xs) (suc i) l up = (remove_above x.conn xs i (omega arith) up.0, remove_rising xs i (omega arith) up.1)

-- ---- what changes do

abbrev pub state : List TellingValue → ℕ → TellingsState
state rows room = record { rows = rows; room = room }

-- the row that was read at the connection's place
number_there : (xs : List TellingValue) (c i : ℕ) (o : TellingValue) → IsRowAt xs c i → o ≡ get_or xs i o → o.conn ≡ c
number_there xs c i o at e = ap (λ (z : TellingValue). z.conn) (e ∙ get_or_default xs i o no_row at.in_range) ∙ at.number_is

pub tell_there : (xs : List TellingValue) (c i : ℕ) (o : TellingValue) → AreRisingRows xs → IsRowAt xs c i → o ≡ get_or xs i o → tell_of xs c ≡ tell_in o
tell_there xs c i o up at e = tell_at xs c i up at ∙ ap tell_in (sym (e ∙ get_or_default xs i o no_row at.in_range))

pub tell_missed : (xs : List TellingValue) (c i : ℕ) → IsGapFor xs c i → tell_of xs c ≡ nothing_told
tell_missed xs c i gap = nothing_of xs c (gap_has xs c i gap)

-- the row at the connection's place is o, and y is written over it
module _ (xs : List TellingValue) (room c i : ℕ) (o y : TellingValue) (up : AreRisingRows xs) (at : IsRowAt xs c i) (read : o ≡ get_or xs i o) (same : y.conn ≡ o.conn) where
  own : y.conn ≡ c
  own = same ∙ number_there xs c i o at read

  pub row_changed : (f : Tell → Tell) → tell_in y ≡ f (tell_in o) → ChangesRow c (f (tell_of xs c)) (state xs room) (state (set xs i y) room)
  row_changed f e = record {
    tell_is = set_tell xs c i y up at.in_range at.number_is own ∙ e ∙ ap f (sym (tell_there xs c i o up at read));
    others = λ d ne. set_others xs c d i y at.number_is own ne;
    has_others = λ d ne. set_has xs c d i y at.number_is own;
    room_is = refl;
    rising = set_rising xs c i y at.number_is own up;
  }

  pub row_stays : has_row (set xs i y) c ≡ has_row xs c
  row_stays = set_has xs c c i y at.number_is own

  pub still_at : IsRowAt (set xs i y) c i
  still_at = record {
    in_range = (let l = length-set xs i y in let m = at.in_range in omega arith);
    number_is = ap (λ (z : TellingValue). z.conn) (get_or-set_same xs i y no_row at.in_range) ∙ own;
  }

  pub read_again : (r : TellingValue) → r ≡ get_or (set xs i y) i r → r ≡ y
  read_again r e = e ∙ get_or-set_same xs i y r at.in_range

-- y is written into the gap for it
module _ (xs ys : List TellingValue) (c i : ℕ) (y : TellingValue) (gap : IsGapFor xs c i) (own : y.conn ≡ c) (is : ys ≡ insert xs i y) where
  pub row_added : (f : Tell → Tell) (room more : ℕ) → AreRisingRows xs → tell_in y ≡ f nothing_told → more ≡ room → ChangesRow c (f (tell_of xs c)) (state xs room) (state ys more)
  row_added f room more up e same = record {
    tell_is = ap (λ zs. tell_of zs c) is ∙ insert_tell xs c i y gap.in_range gap.less_before own ∙ e ∙ ap f (sym (tell_missed xs c i gap));
    others = λ d ne. ap (λ zs. tell_of zs d) is ∙ insert_others xs c d i y gap.in_range own ne;
    has_others = λ d ne. ap (λ zs. has_row zs d) is ∙ insert_has_others xs c d i y gap.in_range own ne;
    room_is = same;
    rising = subst AreRisingRows (sym is) (insert_rising xs c i y own up gap.in_range gap.less_before gap.greater_after);
  }

  pub row_there : has_row ys c ≡ true
  row_there = ap (λ zs. has_row zs c) is ∙ insert_has xs c i y gap.in_range own

-- the connection's row is taken away
module _ (xs ys : List TellingValue) (c i : ℕ) (up : AreRisingRows xs) (at : IsRowAt xs c i) (is : ys ≡ remove xs i) where
  pub row_away : has_row ys c ≡ false
  row_away = ap (λ zs. has_row zs c) is ∙ remove_has xs c i up at.in_range at.number_is

  pub row_removed : (room less : ℕ) → less ≡ room → ChangesRow c nothing_told (state xs room) (state ys less)
  row_removed room less same = record {
    tell_is = nothing_of ys c row_away;
    others = λ d ne. ap (λ zs. tell_of zs d) is ∙ remove_others xs c d i at.in_range at.number_is ne;
    has_others = λ d ne. ap (λ zs. has_row zs d) is ∙ remove_has_others xs c d i at.in_range at.number_is ne;
    room_is = same;
    rising = subst AreRisingRows (sym is) (remove_rising xs i at.in_range up);
  }

pub row_same : (xs : List TellingValue) (room c : ℕ) (t : Tell) → AreRisingRows xs → tell_of xs c ≡ t → ChangesRow c t (state xs room) (state xs room)
row_same xs room c t up e = record { tell_is = e; others = λ d ne. refl; has_others = λ d ne. refl; room_is = refl; rising = up }

-- two changes of one connection
pub row_then : (c : ℕ) (t u v : Tell) (first between last : TellingsState) → ChangesRow c t first between → ChangesRow c u between last → u ≡ v → ChangesRow c v first last
row_then c t u v first between last h k e = record {
  tell_is = k.tell_is ∙ e;
  others = λ d ne. k.others d ne ∙ h.others d ne;
  has_others = λ d ne. k.has_others d ne ∙ h.has_others d ne;
  room_is = k.room_is ∙ h.room_is;
  rising = k.rising;
}

-- ---- a turn after which nothing is held and nothing is to be told

abbrev shape : ℕ → Bool → Bool → Bool → Tell
shape n e b f = record { dropped = n; drained = e && b; full = f; dirty = b || f; fresh = false }

-- e: nothing is held; f: something is held; g: something was dropped
shape_idle : (n : ℕ) (e b f g : Bool) → (f ≡ false → e ≡ true) → (g ≡ false → n ≡ 0) → true ≡ not (f || (g || (e && b))) → nothing_told ≡ shape n e b f
shape_idle n e b true g k m h = absurd (let z : true ≡ false = h in cc)
shape_idle n e b false true k m h = absurd (let z : true ≡ false = h in cc)
shape_idle n false b false false k m h = absurd (let z : false ≡ true = k refl in cc)
shape_idle n true true false false k m h = absurd (let z : true ≡ false = h in cc)
shape_idle n true false false false k m h = ap (λ (z : ℕ). shape z true false false) (sym (m refl))

none_dropped : (n : ℕ) → nat_lt 0 n ≡ false → n ≡ 0
none_dropped n e = grind (arith, nat_tests)

none_held : (held : ℕ) → nat_lt 0 held ≡ false → nat_eq held 0 ≡ true
none_held held e = grind (arith, nat_tests)

idle_turn : (held : ℕ) (t : Tell) → true ≡ not ((at_turn held t).full || has_news (at_turn held t)) → nothing_told ≡ at_turn held t
idle_turn held t h = shape_idle t.dropped (nat_eq held 0) (t.dirty || t.fresh) (nat_lt 0 held) (nat_lt 0 t.dropped) (none_held held) (none_dropped t.dropped) h

pub idle_is : (held : ℕ) (t u : Tell) → u ≡ at_turn held t → true ≡ not (u.full || has_news u) → nothing_told ≡ at_turn held t
idle_is held t u e h = idle_turn held t (subst (λ (z : Tell). true ≡ not (z.full || has_news z)) e h)

pub idle_held : (held : ℕ) → nothing_told.full ≡ nat_lt 0 held → 0 < held → ⊥
idle_held held e l = grind (arith, nat_tests)

-- ---- the least row above a number

next_later : (x : TellingValue) (xs : List TellingValue) (a : ℕ) (o : Option ℕ) → x.conn ≤ a → IsNextRow xs a o → IsNextRow (x ∷ xs) a o
next_later x xs a None l h = λ c m. has_later x xs c (λ q. absurd (omega arith)) ∙ h c m
next_later x xs a (Some n) l h = (h.0, has_more x xs n h.1, λ c m o. has_later x xs c (λ q. absurd (omega arith)) ∙ h.2 c m o)

next_from : (xs : List TellingValue) (a i : ℕ) → AreRisingRows xs → i ≤ length xs → ((k : ℕ) → k < i → number_at xs k ≤ a) → ((k : ℕ) → i ≤ k → k < length xs → a < number_at xs k) → IsNextRow xs a (option_map (λ row. row.conn) (slice_get xs i))
next_from [] a i up l less more = λ c m. refl
next_from (x ∷ xs) a zero up l less more =
    (more 0 (omega arith) (omega arith), has_first x xs x.conn refl, λ c m o. has_later x xs c (λ q. absurd (omega arith)) ∙ none_below xs x.conn c up.0 (omega arith))
next_from (x ∷ xs) a (suc i) up l less more =
    next_later x xs a (option_map (λ row. row.conn) (slice_get xs i)) (less 0 (omega arith))
    (next_from xs a i up.1 (omega arith) (λ k m. less (suc k) (omega arith)) (λ k m o. more (suc k) (omega arith) (omega arith)))

pub next_missed : (xs : List TellingValue) (a i : ℕ) → AreRisingRows xs → IsGapFor xs a i → IsNextRow xs a (option_map (λ row. row.conn) (slice_get xs i))
next_missed xs a i up gap = next_from xs a i up gap.in_range (λ k l. let h = gap.less_before k l in omega arith) gap.greater_after

pub next_found : (xs : List TellingValue) (a i : ℕ) → AreRisingRows xs → IsRowAt xs a i → IsNextRow xs a (option_map (λ row. row.conn) (slice_get xs (i + 1)))
next_found xs a i up at =
    let l = at.in_range in let e = at.number_is in
    next_from xs a (i + 1) up (omega arith)
    (λ k m. let o = in_order xs up k i (omega arith) (omega arith) in omega arith)
    (λ k m o. let p = rising_at xs up i k (omega arith) o in omega arith)

-- ---- what a search says

module _ (xs : List TellingValue) (up : AreRisingRows xs) (c : ℕ) where
  -- the comparisons rise along the rows, as a binary search asks
  comparisons_rise : IsNonDecreasingBy (λ row. ordering_index (nat_cmp row.conn c)) xs
  comparisons_rise = IsNonDecreasingBy-from_default (λ row. ordering_index (nat_cmp row.conn c)) xs no_row (λ i j le l. let h = in_order xs up i j le l in grind (arith, nat_tests))

  pub searched_rows : (r : Result ℕ ℕ) → IsSearchInRange r (length xs) → IsBinarySearchResult (λ row. nat_cmp row.conn c) xs r → record { found : IfOk r (IsRowAt xs c); missed : IfErr r (IsGapFor xs c) }
  searched_rows (Ok i) l equal = record { found = record { in_range = l; number_is = ranked _ c _ (sym (equal no_row)) }; missed = tt }
  searched_rows (Err i) l parted = record {
    found = tt;
    missed = record {
      in_range = l;
      less_before = λ k m. ranked _ c _ (sym ((parted comparisons_rise).0 k no_row (omega arith) m));
      greater_after = λ k m o. ranked _ c _ (sym ((parted comparisons_rise).1 k no_row m o));
    };
  }

-- ---- rows and entries

entry_later : (e : Entry) (es : List Entry) (c : ℕ) → e.conn ≢ c → has_entry (e ∷ es) c ≡ has_entry es c
entry_later e es c ne = ap (λ (z : Bool). z || has_entry es c) (is_unequal e.conn c ne)

entry_none_below : (es : List Entry) (a c : ℕ) → AreAbove a es → c ≤ a → has_entry es c ≡ false
entry_none_below [] a c h l = refl
entry_none_below (e ∷ es) a c h l = let k = h.0 in entry_later e es c (λ q. absurd (omega arith)) ∙ entry_none_below es a c h.1 l

-- who has a row of rows above a number is greater
has_greater : (xs : List TellingValue) (a c : ℕ) → AreRowsAbove a xs → has_row xs c ≡ true → a < c
has_greater [] a c h t = absurd (let z : false ≡ true = t in cc)
has_greater (x ∷ xs) a c h t = by_cases (nat_eq x.conn c)
    (λ q. let k = h.0 in let e = equal_is x.conn c q in omega arith)
    (λ q. has_greater xs a c h.1 (sym (has_later x xs c (unequal_is x.conn c q)) ∙ t))

-- an entry of entries above a number is greater
entry_greater : (es : List Entry) (a c : ℕ) → AreAbove a es → has_entry es c ≡ true → a < c
entry_greater [] a c h t = absurd (let z : false ≡ true = t in cc)
entry_greater (e ∷ es) a c h t = by_cases (nat_eq e.conn c)
    (λ q. let k = h.0 in let s = equal_is e.conn c q in omega arith)
    (λ q. entry_greater es a c h.1 (sym (entry_later e es c (unequal_is e.conn c q)) ∙ t))

-- the first row and the first entry are of one connection: who has a later row has a later entry
both_later : (x : TellingValue) (xs : List TellingValue) (e : Entry) (es : List Entry) → AreRowsAbove x.conn xs → e.conn ≡ x.conn → ((c : ℕ) → has_row (x ∷ xs) c ≡ true → has_entry (e ∷ es) c ≡ true) → (c : ℕ) → has_row xs c ≡ true → has_entry es c ≡ true
both_later x xs e es up same all c t =
    let h = has_greater xs x.conn c up t in
    sym (entry_later e es c (λ q. absurd (omega arith))) ∙ all c (has_more x xs c t)

-- the first entry has no row: who has a row has a later entry
entry_passed : (x : TellingValue) (xs : List TellingValue) (e : Entry) (es : List Entry) → AreRowsAbove x.conn xs → AreAbove e.conn es → e.conn ≢ x.conn → ((c : ℕ) → has_row (x ∷ xs) c ≡ true → has_entry (e ∷ es) c ≡ true) → (c : ℕ) → has_row (x ∷ xs) c ≡ true → has_entry es c ≡ true
entry_passed x xs e es up above ne all c t =
    let first : e.conn < x.conn = entry_greater es e.conn x.conn above (sym (entry_later e es x.conn ne) ∙ all x.conn (has_first x xs x.conn refl)) in
    let later : e.conn < c = by_cases (nat_eq x.conn c)
    (λ q. let s = equal_is x.conn c q in omega arith)
    (λ q. let h = has_greater xs x.conn c up (sym (has_later x xs c (unequal_is x.conn c q)) ∙ t) in omega arith) in
    sym (entry_later e es c (λ q. absurd (omega arith))) ∙ all c t

-- rows of connections that are entries are no more than the entries
pub fewer_rows : (rows : List TellingValue) (entries : List Entry) → AreRisingRows rows → AreRising entries → ((conn : ℕ) → has_row rows conn ≡ true → has_entry entries conn ≡ true) → length rows ≤ length entries
fewer_rows [] entries up rising all = omega arith
fewer_rows (x ∷ xs) [] up rising all = absurd (let z : false ≡ true = all x.conn (has_first x xs x.conn refl) in cc)
fewer_rows (x ∷ xs) (e ∷ es) up rising all = by_cases (nat_eq e.conn x.conn)
    (λ t. let h = fewer_rows xs es up.1 rising.1 (both_later x xs e es up.0 (equal_is e.conn x.conn t) all) in omega arith)
    (λ t. let h = fewer_rows (x ∷ xs) es up rising.1 (entry_passed x xs e es up.0 rising.0 (unequal_is e.conn x.conn t) all) in omega arith)

-- and where an entry has no row, they are fewer
pub fewer_rows_without : (rows : List TellingValue) (entries : List Entry) (c : ℕ) → AreRisingRows rows → AreRising entries → ((conn : ℕ) → has_row rows conn ≡ true → has_entry entries conn ≡ true) → has_row rows c ≡ false → has_entry entries c ≡ true → length rows < length entries
fewer_rows_without rows [] c up rising all none there = absurd (let z : false ≡ true = there in cc)
fewer_rows_without [] (e ∷ es) c up rising all none there = omega arith
fewer_rows_without (x ∷ xs) (e ∷ es) c up rising all none there =
    let other : x.conn ≢ c = λ q. absurd (let z : true ≡ false = sym (has_first x xs c q) ∙ none in cc) in
    by_cases (nat_eq e.conn x.conn)
    (λ t. let same = equal_is e.conn x.conn t in
    let h = fewer_rows_without xs es c up.1 rising.1 (both_later x xs e es up.0 same all) (sym (has_later x xs c other) ∙ none) (sym (entry_later e es c (λ q. other (sym same ∙ q))) ∙ there) in omega arith)
    (λ t. let all_later = entry_passed x xs e es up.0 rising.0 (unequal_is e.conn x.conn t) all in by_cases (nat_eq e.conn c)
    (λ q. let h = fewer_rows (x ∷ xs) es up rising.1 all_later in omega arith)
    (λ q. let h = fewer_rows_without (x ∷ xs) es c up rising.1 all_later none (sym (entry_later e es c (unequal_is e.conn c q)) ∙ there) in omega arith))
