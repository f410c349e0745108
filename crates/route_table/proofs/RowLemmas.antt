-- The search of `matchit`: what it gives is the key of a row, and the row's pattern fits the path as far as its first parameter.
use Rattle.route_table.proofs.Below.{◌≡◌, ℕ, zero, suc, ◌-◌, ◌<◌, ◌≤◌, List, [], ◌∷◌, ◌++◌, length, take, drop, Option, Some, None, Bool, true, false, cond, refl, sym, ap, subst, ◌∙◌, arith, nat_eq, ◌==◌, ltb, ◌&&◌, ◌⊎◌, inl, inr, take-append-drop, nat_tests, bytes_decides, ends_with, RowsOf, param_token, catch_all_token, own, step, or_else, seek, param_step, has_slash, segment, same_text, cuts, better, longest_from, longest_suffix, with_suffix, IsText, AllRows}

-- where the route of some rows ends, the rows have its key
pub own_row : {K : Type 0} (P : List ℕ → K → Type 0) (rows : RowsOf K) (key : K) → AllRows P rows → own rows ≡ Some key → P [] key
own_row P [] key h e = cc
own_row P (([], k) ∷ rest) key h e =
    let same : k ≡ key = cc in
    subst (λ z. P [] z) same h.0
own_row P ((x ∷ t, k) ∷ rest) key h e = own_row P rest key h.1 e

-- the rows after a token
pub step_rows : {K : Type 0} (P : List ℕ → K → Type 0) (b : ℕ) (rows : RowsOf K) → AllRows P rows → AllRows (λ t k. P (b ∷ t) k) (step b rows)
step_rows P b [] h = tt
step_rows P b (([], k) ∷ rest) h = step_rows P b rest h.1
step_rows {K} P b ((x ∷ t, k) ∷ rest) h = by (x == b) refl (step_rows P b rest h.1)
  where
    by : (v : Bool) → (x == b) ≡ v → AllRows (λ t k. P (b ∷ t) k) (step b rest) → AllRows (λ t k. P (b ∷ t) k) (cond v ((t, k) ∷ step b rest) (step b rest))
    by true e ih =
        let same : x ≡ b = grind (arith, nat_tests) in
        (subst (λ z. P (z ∷ t) k) same h.0, ih)
    by false e ih = ih

-- the rows with a suffix
pub suffix_rows : {K : Type 0} (P : List ℕ → K → Type 0) (s : List ℕ) (rows : RowsOf K) → AllRows P rows → AllRows (λ t k. P t k × (segment t ≡ s)) (with_suffix s rows)
suffix_rows P s [] h = tt
suffix_rows P s ((t, k) ∷ rest) h = by (same_text (segment t) s) refl (suffix_rows P s rest h.1)
  where
    by : (v : Bool) → same_text (segment t) s ≡ v → AllRows (λ t k. P t k × (segment t ≡ s)) (with_suffix s rest)
        → AllRows (λ t k. P t k × (segment t ≡ s)) (cond v ((t, k) ∷ with_suffix s rest) (with_suffix s rest))
    by true e ih = ((h.0, (bytes_decides (segment t) s).0 e), ih)
    by false e ih = ih

-- the same rows with less said of them
pub less_rows : {K : Type 0} (P Q : List ℕ → K → Type 0) → ((t : List ℕ) (k : K) → P t k → Q t k) → (rows : RowsOf K) → AllRows P rows → AllRows Q rows
less_rows P Q f [] h = tt
less_rows P Q f ((t, k) ∷ rest) h = (f t k h.0, less_rows P Q f rest h.1)

-- the rows that go on after a parameter
pub param_rows : {K : Type 0} (P : List ℕ → K → Type 0) (rows : RowsOf K) (path : List ℕ) → AllRows P rows → AllRows P (param_step rows path).1
unfolding param_step
param_rows {K} P rows path h = by (ltb 0 (length (longest_suffix (segment path) rows))) (has_slash path)
  where
    by : (u v : Bool) → AllRows P (cond {A = ℕ × RowsOf K} u (length (segment path) - length (longest_suffix (segment path) rows), with_suffix (longest_suffix (segment path) rows) rows) (cond v (0, []) (length path, rows))).1
    by true v = less_rows (λ t k. P t k × (segment t ≡ longest_suffix (segment path) rows)) P (λ t k p. p.0) _ (suffix_rows P (longest_suffix (segment path) rows) rows h)
    by false true = tt
    by false false = h

-- the first of two answers is one of them
pub either_answer : {K : Type 0} (a b : Option K) (key : K) → or_else a b ≡ Some key → (a ≡ Some key) ⊎ (b ≡ Some key)
either_answer None b key e = inr e
either_answer (Some k) b key e = inl e

-- a key that the search gives is the key of a row
pub seek_row : {K : Type 0} (P : List ℕ → K → Type 0) (skip : ℕ) (rows : RowsOf K) (path : List ℕ) (key : K) → AllRows P rows → seek skip rows path ≡ Some key
    → (t : List ℕ) × P t key
unfolding seek
seek_row P skip rows [] key h e = ([], own_row P rows key h e)
seek_row P (suc skip) rows (b ∷ path) key h e = seek_row P skip rows path key h e
seek_row {K} P zero rows (b ∷ path) key h e =
    let next = param_step (step param_token rows) (b ∷ path) in
    elim (either_answer (seek 0 (step b rows) path) (or_else (seek (next.0 - 1) next.1 path) (own (step catch_all_token rows))) key e) [
      | inl literal ↦ (let r = seek_row (λ t k. P (b ∷ t) k) 0 (step b rows) path key (step_rows P b rows h) literal in (b ∷ r.0, r.1))
      | inr other ↦ elim (either_answer (seek (next.0 - 1) next.1 path) (own (step catch_all_token rows)) key other) [
        | inl param ↦ (let r = seek_row (λ t k. P (param_token ∷ t) k) (next.0 - 1) next.1 path key (param_rows (λ t k. P (param_token ∷ t) k) (step param_token rows) (b ∷ path) (step_rows P param_token rows h)) param in (param_token ∷ r.0, r.1))
        | inr all ↦ (catch_all_token ∷ [], own_row (λ t k. P (catch_all_token ∷ t) k) (step catch_all_token rows) key (step_rows P catch_all_token rows h) all)
      ]
    ]

-- no rows give no key
pub seek_none : {K : Type 0} (skip : ℕ) (path : List ℕ) (key : K) → seek skip [] path ≡ Some key → ⊥
seek_none skip path key e = (seek_row (λ t k. ⊥) skip [] path key tt e).1

-- a search that skips the whole path ends at the rows
pub seek_end : {K : Type 0} (skip : ℕ) (rows : RowsOf K) (path : List ℕ) → length path ≤ skip → seek skip rows path ≡ own rows
unfolding seek
seek_end skip rows [] h = refl
seek_end (suc skip) rows (b ∷ path) h = seek_end skip rows path (omega arith)
seek_end zero rows (b ∷ path) h = absurd (omega arith)

-- a segment that a suffix cuts ends with it
pub cut_by : (seg s : List ℕ) → cuts seg s ≡ true → (value : List ℕ) × (seg ≡ value ++ s)
cut_by seg s e =
    let ends : ends_with nat_eq seg s ≡ true = grind (arith, nat_tests) in
    let same : s ≡ drop (length seg - length s) seg = (bytes_decides s (drop (length seg - length s) seg)).0 ends in
    (take (length seg - length s) seg, sym (take-append-drop (length seg - length s) seg) ∙ ap (λ z. take (length seg - length s) seg ++ z) (sym same))

-- the longest suffix of some rows is empty or ends the segment
pub longest_cuts : {K : Type 0} (seg best : List ℕ) (rows : RowsOf K) → (0 < length best → cuts seg best ≡ true)
    → 0 < length (longest_from seg best rows) → cuts seg (longest_from seg best rows) ≡ true
longest_cuts seg best [] h l = h l
longest_cuts seg best ((t, k) ∷ rest) h l = longest_cuts seg (better seg best (segment t)) rest (by (ltb (length best) (length (segment t)) && cuts seg (segment t)) refl) l
  where
    by : (v : Bool) → (ltb (length best) (length (segment t)) && cuts seg (segment t)) ≡ v → 0 < length (cond v (segment t) best) → cuts seg (cond v (segment t) best) ≡ true
    by true e m = grind (arith, nat_tests)
    by false e m = h m

-- what a pattern has after its literal front fits what is left of a path: a parameter with a suffix stands before that suffix
abbrev pub TailFits : List ℕ → List ℕ → Type 0
TailFits [] rest = Unit {0}
TailFits (token ∷ after) rest =
    (param_token ≤ token) × (token ≡ param_token → 0 < length after → (value : List ℕ) × (segment rest ≡ value ++ segment after))

-- a pattern fits a path as far as its first parameter
pub record FitsPath (pattern path : List ℕ) : Type 0 where
  pub front : List ℕ
  pub tail : List ℕ
  pub rest : List ℕ
  pub text : IsText front
  pub pattern_is : pattern ≡ front ++ tail
  pub path_is : path ≡ front ++ rest
  pub tail_fits : TailFits tail rest

-- one more literal octet
pub fits_more : (b : ℕ) (pattern path : List ℕ) → b < 256 → FitsPath pattern path → FitsPath (b ∷ pattern) (b ∷ path)
fits_more b pattern path h f = record {
  front = b ∷ f.front;
  tail = f.tail;
  rest = f.rest;
  text = (h, f.text);
  pattern_is = ap (λ z. b ∷ z) f.pattern_is;
  path_is = ap (λ z. b ∷ z) f.path_is;
  tail_fits = f.tail_fits;
}

-- the row of a key that the search gives after a parameter with this suffix
pub suffix_fits : {K : Type 0} (P : List ℕ → K → Type 0) (rows : RowsOf K) (seg suffix : List ℕ) (skip : ℕ) (path : List ℕ) (key : K) → AllRows P rows
    → cuts seg suffix ≡ true → seek skip (with_suffix suffix rows) path ≡ Some key → (t : List ℕ) × P t key × ((value : List ℕ) × (seg ≡ value ++ segment t))
suffix_fits P rows seg suffix skip path key h cut e =
    let ends = cut_by seg suffix cut in
    let row = seek_row (λ t k. P t k × (segment t ≡ suffix)) skip (with_suffix suffix rows) path key (suffix_rows P suffix rows h) e in
    (row.0, row.1.0, (ends.0, rw row.1.1 ends.1))

-- the row of a key that the search gives after a parameter
pub param_fits : {K : Type 0} (P : List ℕ → K → Type 0) (rows : RowsOf K) (b : ℕ) (path : List ℕ) (key : K) → AllRows P rows
    → seek ((param_step rows (b ∷ path)).0 - 1) (param_step rows (b ∷ path)).1 path ≡ Some key
    → (t : List ℕ) × P t key × (0 < length t → (value : List ℕ) × (segment (b ∷ path) ≡ value ++ segment t))
unfolding param_step
param_fits {K} P rows b path key h e =
    by (longest_suffix (segment (b ∷ path)) rows) (longest_cuts (segment (b ∷ path)) [] rows (λ n. absurd (omega arith))) (ltb 0 (length (longest_suffix (segment (b ∷ path)) rows))) refl (has_slash (b ∷ path)) e
  where
    by : (suffix : List ℕ) → (0 < length suffix → cuts (segment (b ∷ path)) suffix ≡ true) → (u : Bool) → ltb 0 (length suffix) ≡ u → (v : Bool)
        → seek ((cond {A = ℕ × RowsOf K} u (length (segment (b ∷ path)) - length suffix, with_suffix suffix rows) (cond v (0, []) (length (b ∷ path), rows))).0 - 1) (cond {A = ℕ × RowsOf K} u (length (segment (b ∷ path)) - length suffix, with_suffix suffix rows) (cond v (0, []) (length (b ∷ path), rows))).1 path ≡ Some key
        → (t : List ℕ) × P t key × (0 < length t → (value : List ℕ) × (segment (b ∷ path) ≡ value ++ segment t))
    by suffix cut true some v e =
        let row = suffix_fits P rows (segment (b ∷ path)) suffix (length (segment (b ∷ path)) - length suffix - 1) path key h (cut (grind (arith, nat_tests))) e in
        (row.0, row.1, λ _. row.2)
    by suffix cut false none true e = absurd (seek_none (0 - 1) path key e)
    by suffix cut false none false e =
        let ends : own rows ≡ Some key = sym (seek_end (length (b ∷ path) - 1) rows path (omega arith)) ∙ e in
        ([], own_row P rows key h ends, λ n. absurd (omega arith))

-- a key that the search gives is the key of a row whose pattern fits the path
pub seek_fits : {K : Type 0} (P : List ℕ → K → Type 0) (rows : RowsOf K) (path : List ℕ) (key : K) → IsText path → AllRows P rows → seek 0 rows path ≡ Some key
    → (t : List ℕ) × P t key × FitsPath t path
unfolding seek
seek_fits P rows [] key text h e =
    ([], own_row P rows key h e, record { front = []; tail = []; rest = []; text = tt; pattern_is = refl; path_is = refl; tail_fits = tt })
seek_fits {K} P rows (b ∷ path) key text h e =
    let next = param_step (step param_token rows) (b ∷ path) in
    elim (either_answer (seek 0 (step b rows) path) (or_else (seek (next.0 - 1) next.1 path) (own (step catch_all_token rows))) key e) [
      | inl literal ↦ (
          let r = seek_fits (λ t k. P (b ∷ t) k) (step b rows) path key text.1 (step_rows P b rows h) literal in
          (b ∷ r.0, r.1, fits_more b r.0 path text.0 r.2))
      | inr other ↦ elim (either_answer (seek (next.0 - 1) next.1 path) (own (step catch_all_token rows)) key other) [
        | inl param ↦ (
            let r = param_fits (λ t k. P (param_token ∷ t) k) (step param_token rows) b path key (step_rows P param_token rows h) param in
            (param_token ∷ r.0, r.1, record { front = []; tail = param_token ∷ r.0; rest = b ∷ path; text = tt; pattern_is = refl; path_is = refl; tail_fits = (omega arith, λ _. r.2) }))
        | inr all ↦ (
          catch_all_token ∷ [],
          own_row (λ t k. P (catch_all_token ∷ t) k) (step catch_all_token rows) key (step_rows P catch_all_token rows h) all,
          record { front = []; tail = catch_all_token ∷ []; rest = b ∷ path; text = tt; pattern_is = refl; path_is = refl; tail_fits = (omega arith, λ n. absurd (omega arith)) },
        )
      ]
    ]
