-- The first parameter of a route takes whole characters of a path that the route's pattern fits.
use Rattle.route_table.proofs.Below.{◌≡◌, ℕ, suc, ◌+◌, ◌-◌, ◌<◌, ◌≤◌, List, [], ◌∷◌, ◌++◌, length, take, drop, get_or, Some, Bool, true, false, cond, refl, sym, ap, subst, ◌∙◌, arith, ◌==◌, ltb, leb, ◌&&◌, add-zero, append-nil, append_assoc, length-append, take_at, drop_at, get_or-append-add, IsUtf8, Fits, w8, get_or_at, nat_tests, IsUtf8-nil, IsUtf8-between, IsCharBoundary-end, IsCharBoundary-from_take, IsCharBoundary, RowsOf, param_token, RouteOf, first, segment, slash, IsText, walk, wild_from, wild_stop, next_at, part_of, first_value, value_of, front_of, rest_of, IsWhole, IsRow, AllRows}
use Rattle.route_table.proofs.RowLemmas.{TailFits, FitsPath, seek_fits}

-- a boundary at the start of the second of two texts is one of both together
pub boundary_between : (xs ys : List ℕ) (n : ℕ) → n ≡ length xs → IsCharBoundary ys 0 → IsCharBoundary (xs ++ ys) n
boundary_between xs ys n e h =
    let size : length (xs ++ ys) ≡ length xs + length ys = length-append xs ys in
    let head : get_or (xs ++ ys) n 0 ≡ get_or ys 0 0 = ap (λ z. get_or (xs ++ ys) z 0) (e ∙ sym (add-zero (length xs))) ∙ get_or-append-add xs ys 0 0 in
    (omega arith, λ inside high. rw head (h.1 (omega arith) (rw head at high)))

-- the part between two boundaries is text
pub part_text : (path : List ℕ) (start end : ℕ) → IsUtf8 path → IsCharBoundary path start → IsCharBoundary path end → IsUtf8 (part_of path start end)
part_text path start end u a b = by (leb start end && leb end (length path)) refl
  where
    by : (v : Bool) → (leb start end && leb end (length path)) ≡ v → IsUtf8 (cond v (take (end - start) (drop start path)) [])
    by true e = IsUtf8-between path start end u (grind (arith, nat_tests)) a b
    by false e = IsUtf8-nil

-- the tail of a pattern begins with a parameter, or is empty
abbrev pub IsWildTail : List ℕ → Type 0
IsWildTail [] = Unit {0}
IsWildTail (token ∷ after) = param_token ≤ token

pub wild_tail : (tail rest : List ℕ) → TailFits tail rest → IsWildTail tail
wild_tail [] rest h = tt
wild_tail (token ∷ after) rest h = h.0

pub front_of-literal : (front tail : List ℕ) → IsText front → IsWildTail tail → front_of (front ++ tail) ≡ front
front_of-literal [] [] t w = refl
front_of-literal [] (token ∷ after) t w =
    let e : ltb token param_token ≡ false = grind (arith, nat_tests) in
    rw e refl
front_of-literal (b ∷ front) tail t w =
    let e : ltb b param_token ≡ true = grind (arith, nat_tests) in
    rw e (ap (λ z. b ∷ z) (front_of-literal front tail t.1 w))

pub rest_of-literal : (front : List ℕ) (token : ℕ) (after : List ℕ) → IsText front → param_token ≤ token → rest_of (front ++ token ∷ after) ≡ after
rest_of-literal [] token after t w =
    let e : ltb token param_token ≡ false = grind (arith, nat_tests) in
    rw e refl
rest_of-literal (b ∷ front) token after t w =
    let e : ltb b param_token ≡ true = grind (arith, nat_tests) in
    rw e (rest_of-literal front token after t.1 w)

-- the walk comes to the end of the literal front, in the pattern and in the path
pub wild_from-literal : (front tail : List ℕ) (size token at : ℕ) → IsText front → IsWildTail tail → at + length front ≤ size
    → wild_from (front ++ tail) size token at ≡ (token + length front, at + length front)
wild_from-literal [] [] size token at t w h = rw (add-zero token, add-zero at) refl
wild_from-literal [] (x ∷ after) size token at t w h =
    let e : ltb x param_token ≡ false = grind (arith, nat_tests) in
    rw (e, add-zero token, add-zero at) refl
wild_from-literal (b ∷ front) tail size token at t w h =
    let e : ltb b param_token ≡ true = grind (arith, nat_tests) in
    let on : next_at size at ≡ at + 1 = grind (arith, nat_tests) in
    let one : (token + 1) + length front ≡ token + suc (length front) = omega arith in
    let two : (at + 1) + length front ≡ at + suc (length front) = omega arith in
    rw (e, on) (wild_from-literal front tail size (token + 1) (at + 1) t.1 w (omega arith) ∙ rw (one, two) refl)

-- a path is its first segment and what follows
pub segment_split : (path : List ℕ) → (more : List ℕ) × (path ≡ segment path ++ more)
segment_split [] = ([], refl)
segment_split (b ∷ path) = by (b == slash) (segment_split path)
  where
    by : (v : Bool) → (more : List ℕ) × (path ≡ segment path ++ more) → (more : List ℕ) × (b ∷ path ≡ cond v (b ∷ []) (b ∷ segment path) ++ more)
    by true ih = (path, refl)
    by false ih = (ih.0, ap (λ z. b ∷ z) ih.1)

-- a segment begins as its text does
pub segment_boundary : (after more : List ℕ) → 0 < length after → IsCharBoundary after 0 → IsCharBoundary (segment after ++ more) 0
segment_boundary [] more l h = absurd (omega arith)
segment_boundary (b ∷ after) more l h = by (b == slash)
  where
    by : (v : Bool) → IsCharBoundary (cond v (b ∷ []) (b ∷ segment after) ++ more) 0
    by true = (omega arith, λ _ high. h.1 (omega arith) high)
    by false = (omega arith, λ _ high. h.1 (omega arith) high)

-- the place of a suffix that ends a segment is a boundary
pub suffix_boundary : (front rest value after more : List ℕ) (n : ℕ) → 0 < length after → IsCharBoundary after 0 → segment rest ≡ value ++ segment after → rest ≡ segment rest ++ more
    → n ≡ length front + length (segment rest) - length (segment after) → IsCharBoundary (front ++ rest) n
suffix_boundary front rest value after more n long whole cut split e =
    let rest_is : rest ≡ value ++ (segment after ++ more) = split ∙ rw cut (append_assoc value (segment after) more) in
    let path_is : front ++ rest ≡ (front ++ value) ++ (segment after ++ more) = ap (λ z. front ++ z) rest_is ∙ sym (append_assoc front value (segment after ++ more)) in
    let sizes : length (segment rest) ≡ length value + length (segment after) = ap length cut ∙ length-append value (segment after) in
    let place : n ≡ length (front ++ value) = omega (arith, length-append front value) in
    subst (λ z. IsCharBoundary z n) (sym path_is) (boundary_between (front ++ value) (segment after ++ more) n place (segment_boundary after more long whole))

-- what follows a token behind a front
pub drop_behind : (front : List ℕ) (token : ℕ) (after : List ℕ) → drop (length front + 1) (front ++ token ∷ after) ≡ after
drop_behind front token after =
    ap (λ z. drop (length front + 1) z) (sym (append_assoc front (token ∷ []) after)) ∙ drop_at (front ++ token ∷ []) after (length front + 1) (length-append front (token ∷ []))

-- the place where the parameter ends is a boundary
pub stop_boundary : (front tail rest : List ℕ) → IsText front → IsCharBoundary (rest_of (front ++ tail)) 0 → TailFits tail rest
    → IsCharBoundary (front ++ rest) (wild_stop (front ++ tail) (length front) (front ++ rest) (length front))
stop_boundary front [] rest t h f =
    let none : ltb (length front) (length (front ++ [])) ≡ false = rw (append-nil front) (grind (arith, nat_tests)) in
    rw none (IsCharBoundary-end (front ++ rest))
stop_boundary front (token ∷ after) rest t h f =
    by (ltb (length front) (length (front ++ token ∷ after)) && (get_or (front ++ token ∷ after) (length front) 0 == param_token) && ltb (length front + 1) (length (front ++ token ∷ after))) refl
  where
    by : (v : Bool) → (ltb (length front) (length (front ++ token ∷ after)) && (get_or (front ++ token ∷ after) (length front) 0 == param_token) && ltb (length front + 1) (length (front ++ token ∷ after))) ≡ v
        → IsCharBoundary (front ++ rest) (cond v (length front + length (segment (drop (length front) (front ++ rest))) - length (segment (drop (length front + 1) (front ++ token ∷ after)))) (length (front ++ rest)))
    by false e = IsCharBoundary-end (front ++ rest)
    by true e =
        let size : length (front ++ token ∷ after) ≡ length front + suc (length after) = length-append front (token ∷ after) in
        let here : get_or (front ++ token ∷ after) (length front) 0 ≡ token = get_or_at front token after 0 (length front) refl in
        let is_param : token ≡ param_token = grind (arith, nat_tests) in
        let long : 0 < length after = grind (arith, nat_tests) in
        let whole : IsCharBoundary after 0 = subst (λ z. IsCharBoundary z 0) (rest_of-literal front token after t f.0) h in
        let cut = f.1 is_param long in
        let split = segment_split rest in
        rw (drop_at front rest (length front) refl, drop_behind front token after)
        (suffix_boundary front rest cut.0 after split.0 (length front + length (segment rest) - length (segment after)) long whole cut.1 split.1 refl)

-- the part of the path that the first parameter takes is text
pub first_part_text : (front tail rest : List ℕ) → IsText front → IsWhole (front ++ tail) → IsUtf8 (front ++ rest) → TailFits tail rest
    → IsUtf8 (part_of (front ++ rest) (wild_from (front ++ tail) (length (front ++ rest)) 0 0).1 (wild_stop (front ++ tail) (wild_from (front ++ tail) (length (front ++ rest)) 0 0).0 (front ++ rest) (wild_from (front ++ tail) (length (front ++ rest)) 0 0).1))
first_part_text front tail rest t h u f =
    let size : length (front ++ rest) ≡ length front + length rest = length-append front rest in
    let place : wild_from (front ++ tail) (length (front ++ rest)) 0 0 ≡ (0 + length front, 0 + length front) =
    wild_from-literal front tail (length (front ++ rest)) 0 0 t (wild_tail tail rest f) (omega arith) in
    let zero_more : 0 + length front ≡ length front = omega arith in
    let start : IsCharBoundary (front ++ rest) (length front) =
    IsCharBoundary-from_take (front ++ rest) (length front) u (omega arith) (rw (take_at front rest (length front) refl) (subst (λ z. IsUtf8 z) (front_of-literal front tail t (wild_tail tail rest f)) h.front)) in
    rw (place, zero_more) (part_text (front ++ rest) (length front) _ u start (stop_boundary front tail rest t h.rest f))

pub first_value_text : (front tail rest text : List ℕ) (names : List (ℕ × ℕ)) → IsText front → IsWhole (front ++ tail) → IsUtf8 (front ++ rest) → TailFits tail rest
    → IsUtf8 (first_value (walk (front ++ tail) text (front ++ rest) names 0 0))
first_value_text front tail rest text [] t h u f = IsUtf8-nil
first_value_text front tail rest text (name ∷ names) t h u f = first_part_text front tail rest t h u f

pub fitting_value_text : (pattern path text : List ℕ) (names : List (ℕ × ℕ)) → IsWhole pattern → IsUtf8 path → FitsPath pattern path
    → IsUtf8 (first_value (walk pattern text path names 0 0))
fitting_value_text pattern path text names h u f =
    let whole : IsWhole (f.front ++ f.tail) = subst (λ z. IsWhole z) f.pattern_is h in
    let utf8 : IsUtf8 (f.front ++ f.rest) = subst (λ z. IsUtf8 z) f.path_is u in
    let value : IsUtf8 (first_value (walk (f.front ++ f.tail) text (f.front ++ f.rest) names 0 0)) = first_value_text f.front f.tail f.rest text names f.text whole utf8 f.tail_fits in
    let at_pattern : IsUtf8 (first_value (walk pattern text (f.front ++ f.rest) names 0 0)) = subst (λ z. IsUtf8 (first_value (walk z text (f.front ++ f.rest) names 0 0))) (sym f.pattern_is) value in
    subst (λ z. IsUtf8 (first_value (walk pattern text z names 0 0))) (sym f.path_is) at_pattern

-- octets, one by one
pub text_of_octets : (path : List ℕ) → ((k : ℕ) → Fits w8 (get_or path k 0)) → IsText path
text_of_octets [] h = tt
text_of_octets (b ∷ path) h =
    let octet : Fits w8 b = h 0 in
    (omega arith, text_of_octets path (λ k. h (suc k)))

-- the route that the search gives is a row's, and what its first parameter takes is text
pub found_row : (count : ℕ) (rows : RowsOf (RouteOf ℕ)) (path : List ℕ) (route : RouteOf ℕ) → AllRows (IsRow count) rows → ((k : ℕ) → Fits w8 (get_or path k 0))
    → IsUtf8 path → first rows path ≡ Some route → (route.value < count) × IsUtf8 (value_of route path)
found_row count rows path route h octets u e =
    let row = seek_fits (IsRow count) rows path route (text_of_octets path octets) h e in
    (row.1.number, fitting_value_text route.pattern path route.text route.names (subst (λ z. IsWhole z) (sym row.1.same) row.1.whole) u (subst (λ z. FitsPath z path) (sym row.1.same) row.2))
