-- Lemmas on links that are found by the numbers of their connections.
use Rattle.mem_net.proofs.Below.{◌≡◌, ◌≢◌, ℕ, zero, suc, ◌<◌, ◌≤◌, List, [], ◌∷◌, ◌++◌, length, get_or, Some, slice_get, slice_set, true, false, nat_eq, nat_lt, refl, ◌∙◌, ap, arith, if◌then◌else◌, Result, Ok, Err, IfSome, IfNone, ◌⊎◌, inl, inr, list_any, list_all, nat_tests, list_all-append, list_any_none, slice_get-get_or, cases_lt, result_ok, nat_cmp, IsBinarySearchResult, searched, All-from_get_or, LinkState, new_link, link_of, Rises}

pub above : (number : ℕ) (numbers : List ℕ) (i c : ℕ) → list_all (nat_lt number) numbers ≡ true → slice_get numbers i ≡ Some c → number < c
above number [] i c h e = cc
above number (n ∷ ns) zero c h e = grind (arith, nat_tests)
above number (n ∷ ns) (suc i) c h e = let rest : list_all (nat_lt number) ns ≡ true = grind (arith, nat_tests) in above number ns i c rest e

-- the link at the place of a number is the one that is found
pub link_there : (numbers : List ℕ) (links : List LinkState) (i c : ℕ) (link : LinkState) → Rises numbers → slice_get numbers i ≡ Some c → slice_get links i ≡ Some link → link_of numbers links c ≡ link
link_there [] links i c link r e f = cc
link_there (n ∷ ns) [] i c link r e f = cc
link_there (n ∷ ns) (l ∷ ls) zero c link r e f = grind (arith, nat_tests)
link_there (n ∷ ns) (l ∷ ls) (suc i) c link r e f =
    let apart : n < c = above n ns i c r.0 e in
    let found : link_of ns ls c ≡ link = link_there ns ls i c link r.1 e f in
    grind (arith, nat_tests)

pub link_here : (numbers : List ℕ) (links : List LinkState) (i c : ℕ) (link : LinkState) → Rises numbers → slice_get numbers i ≡ Some c → i < length links → link_of numbers (slice_set links i link) c ≡ link
link_here [] links i c link r e h = cc
link_here (n ∷ ns) [] i c link r e h = absurd (omega arith)
link_here (n ∷ ns) (l ∷ ls) zero c link r e h = grind (arith, nat_tests)
link_here (n ∷ ns) (l ∷ ls) (suc i) c link r e h =
    let apart : n < c = above n ns i c r.0 e in
    let found : link_of ns (slice_set ls i link) c ≡ link = link_here ns ls i c link r.1 e (omega arith) in
    grind (arith, nat_tests)

pub link_elsewhere : (numbers : List ℕ) (links : List LinkState) (i c d : ℕ) (link : LinkState) → slice_get numbers i ≡ Some c → d ≢ c → link_of numbers (slice_set links i link) d ≡ link_of numbers links d
link_elsewhere [] links i c d link e n = refl
link_elsewhere (m ∷ ns) [] i c d link e n = refl
link_elsewhere (m ∷ ns) (l ∷ ls) zero c d link e n = grind (arith, nat_tests)
link_elsewhere (m ∷ ns) (l ∷ ls) (suc i) c d link e n = ap (λ x. if nat_eq m d then l else x) (link_elsewhere ns ls i c d link e n)

-- a number that is not there has no link
pub link_nowhere : (numbers : List ℕ) (links : List LinkState) (c : ℕ) → list_any (λ number. nat_eq number c) numbers ≡ false → link_of numbers links c ≡ new_link []
link_nowhere [] links c h = refl
link_nowhere (n ∷ ns) [] c h = refl
link_nowhere (n ∷ ns) (l ∷ ls) c h =
    let apart : nat_eq n c ≡ false = grind (arith, nat_tests) in
    let rest : list_any (λ number. nat_eq number c) ns ≡ false = grind (arith, nat_tests) in
    rw apart (link_nowhere ns ls c rest)

pub Rises-push : (numbers : List ℕ) (c : ℕ) → Rises numbers → list_all (λ number. nat_lt number c) numbers ≡ true → Rises (numbers ++ c ∷ [])
Rises-push [] c r h = (refl, tt)
Rises-push (n ∷ ns) c r h =
    let first : nat_lt n c ≡ true = grind (arith, nat_tests) in
    let later : list_all (λ number. nat_lt number c) ns ≡ true = grind (arith, nat_tests) in
    let last : list_all (nat_lt n) (c ∷ []) ≡ true = rw first refl in
    (list_all-append (nat_lt n) ns (c ∷ []) ∙ rw (r.0, last) refl, Rises-push ns c r.1 later)

-- a binary search asks for this
pub rises_at : (numbers : List ℕ) → Rises numbers → (i j : ℕ) → i ≤ j → j < length numbers → get_or numbers i 0 ≤ get_or numbers j 0
rises_at [] r i j h k = absurd (omega arith)
rises_at (n ∷ ns) r zero zero h k = omega arith
rises_at (n ∷ ns) r zero (suc j) h k =
    let within : j < length ns = omega arith in
    let there : slice_get ns j ≡ Some (get_or ns j 0) = slice_get-get_or ns j 0 within in
    let apart : n < get_or ns j 0 = above n ns j (get_or ns j 0) r.0 there in
    omega arith
rises_at (n ∷ ns) r (suc i) zero h k = absurd (omega arith)
rises_at (n ∷ ns) r (suc i) (suc j) h k = rises_at ns r.1 i j (omega arith) (omega arith)

apart_cases : (n c : ℕ) → (n < c) ⊎ (c < n) → nat_eq n c ≡ false
apart_cases n c (inl h) = grind (arith, nat_tests)
apart_cases n c (inr h) = grind (arith, nat_tests)

cases_of : {P Q A B : Type 0} → P ⊎ Q → (P → A) → (Q → B) → A ⊎ B
cases_of (inl p) f g = inl (f p)
cases_of (inr q) f g = inr (g q)

below_or_above : {A B : Type 0} (k i : ℕ) → (k < i → A) → (i ≤ k → B) → A ⊎ B
below_or_above k i low high = cases_of (cases_lt k i) low high

not_among : (numbers : List ℕ) (c i : ℕ) → ((k : ℕ) → k < i → get_or numbers k 0 < c) → ((k : ℕ) → i ≤ k → k < length numbers → c < get_or numbers k 0)
    → list_any (λ number. nat_eq number c) numbers ≡ false
not_among numbers c i low high = list_any_none (λ number. nat_eq number c) numbers (All-from_get_or (λ number. nat_eq number c ≡ false) numbers 0 (λ k h. apart_cases (get_or numbers k 0) c (below_or_above k i (low k) (λ g. high k g h))))

pub found_none : (numbers : List ℕ) (c : ℕ) (r : Result ℕ ℕ) → Rises numbers → IsBinarySearchResult (λ y. nat_cmp y c) numbers r → IfNone (result_ok r) (list_any (λ number. nat_eq number c) numbers ≡ false)
found_none numbers c (Ok i) r h = tt
found_none numbers c (Err i) r h = let there = searched numbers c (Err i) h (rises_at numbers r) in not_among numbers c i there.1 there.2
