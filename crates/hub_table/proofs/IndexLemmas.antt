-- The numbers of the connections that pass a test, and what a change of one connection makes of them.
use Rattle.hub_table.proofs.Below.{◌≡◌, ◌≢◌, ◌<◌, ◌≤◌, ℕ, List, [], ◌∷◌, ◌++◌, Option, Some, None, Bool, true, false, cond, nat_eq, nat_lt, length, refl, sym, ap, ◌∙◌, subst, arith, ◌||◌, is_some, Phase, Head, Open, Leaving, Ending, Gone, Entry, has_entry, entry_of, none_of, AreAbove, AreRising, IsNextEnding, by_cases, clash, equal_is, is_equal, is_unequal, unequal_is, is_less, not_less, less_is, not_less_is, Connection, Parting, AreGreater, added, removed, marked, first_of, first_above, connection_of, replaced, without, entries_of, put_before, partings_of, is_due, ends, is_ending, numbers_where}
use Rattle.hub_table.proofs.ConnectionLemmas.{replaced_cases, without_cases, connection_first, connection_later, later_has, none_below, nothing_of}

-- ---- a number before, at or behind the first

added_front : (ns : List ℕ) (c : ℕ) → AreGreater c ns → added ns c ≡ c ∷ ns
added_front [] c h = refl
added_front (n ∷ ns) c h =
    let l = h.0 in
    ap (λ (z : Bool). cond z (n ∷ added ns c) (cond (nat_eq n c) (n ∷ ns) (c ∷ n ∷ ns))) (not_less n c (omega arith)) ∙ ap (λ (z : Bool). cond z (n ∷ ns) (c ∷ n ∷ ns)) (is_unequal n c (λ q. absurd (omega arith)))

added_first : (n : ℕ) (ns : List ℕ) (c : ℕ) → n ≡ c → added (n ∷ ns) c ≡ c ∷ ns
added_first n ns c e =
    ap (λ (z : Bool). cond z (n ∷ added ns c) (cond (nat_eq n c) (n ∷ ns) (c ∷ n ∷ ns))) (not_less n c (omega arith)) ∙ ap (λ (z : Bool). cond z (n ∷ ns) (c ∷ n ∷ ns)) (is_equal n c e) ∙ ap (λ (z : ℕ). z ∷ ns) e

added_later : (n : ℕ) (ns : List ℕ) (c : ℕ) → n < c → added (n ∷ ns) c ≡ n ∷ added ns c
added_later n ns c l = ap (λ (z : Bool). cond z (n ∷ added ns c) (cond (nat_eq n c) (n ∷ ns) (c ∷ n ∷ ns))) (is_less n c l)

removed_greater : (ns : List ℕ) (c : ℕ) → AreGreater c ns → removed ns c ≡ ns
removed_greater [] c h = refl
removed_greater (n ∷ ns) c h = let l = h.0 in removed_later n ns c (λ q. absurd (omega arith)) ∙ ap (λ (z : List ℕ). n ∷ z) (removed_greater ns c h.1)
  where
    removed_later : (n : ℕ) (ns : List ℕ) (c : ℕ) → n ≢ c → removed (n ∷ ns) c ≡ n ∷ removed ns c
    removed_later n ns c ne = ap (λ (z : Bool). cond z ns (n ∷ removed ns c)) (is_unequal n c ne)

-- ---- the numbers of those that pass a test

module _ (test : Connection → Bool) where
  pub where_in : (x : Connection) (xs : List Connection) → test x ≡ true → numbers_where test (x ∷ xs) ≡ x.socket.conn ∷ numbers_where test xs
  where_in x xs t = ap (λ (z : Bool). cond z (x.socket.conn ∷ numbers_where test xs) (numbers_where test xs)) t

  pub where_out : (x : Connection) (xs : List Connection) → test x ≡ false → numbers_where test (x ∷ xs) ≡ numbers_where test xs
  where_out x xs t = ap (λ (z : Bool). cond z (x.socket.conn ∷ numbers_where test xs) (numbers_where test xs)) t

  where_cases : (P : List ℕ → Type 0) (x : Connection) (xs : List Connection) → (test x ≡ true → P (x.socket.conn ∷ numbers_where test xs)) → (test x ≡ false → P (numbers_where test xs)) → P (numbers_where test (x ∷ xs))
  where_cases P x xs f g = by_cases (test x) (λ t. subst P (sym (where_in x xs t)) (f t)) (λ t. subst P (sym (where_out x xs t)) (g t))

  greater_where : (xs : List Connection) (a : ℕ) → AreAbove a (entries_of xs) → AreGreater a (numbers_where test xs)
  greater_where [] a h = tt {0}
  greater_where (x ∷ xs) a h = where_cases (AreGreater a) x xs (λ _. (h.0, greater_where xs a h.1)) (λ _. greater_where xs a h.1)

  pub length_where : (xs : List Connection) → length (numbers_where test xs) ≤ length xs
  length_where [] = omega arith
  length_where (x ∷ xs) = let h = length_where xs in where_cases (λ ns. length ns ≤ length (x ∷ xs)) x xs (λ _. omega arith) (λ _. omega arith)

  pub where_added : (xs : List Connection) (y : Connection) → test y ≡ false → numbers_where test (xs ++ y ∷ []) ≡ numbers_where test xs
  where_added [] y out = where_out y [] out
  where_added (x ∷ xs) y out = ap (λ (z : List ℕ). cond (test x) (x.socket.conn ∷ z) z) (where_added xs y out)

  -- a connection that passes the test is in
  where_replaced_in : (xs : List Connection) (c : ℕ) (y : Connection) → AreRising (entries_of xs) → has_entry (entries_of xs) c ≡ true → y.socket.conn ≡ c → test y ≡ true → numbers_where test (replaced xs c y) ≡ added (numbers_where test xs) c
  where_replaced_in [] c y up there own is = absurd (let z : false ≡ true = there in cc)
  where_replaced_in (x ∷ xs) c y up there own is = replaced_cases (λ ys. numbers_where test ys ≡ added (numbers_where test (x ∷ xs)) c) x xs c y
      (λ same. where_in y xs is ∙ ap (λ (z : ℕ). z ∷ numbers_where test xs) own ∙ sym (where_cases (λ ns. added ns c ≡ c ∷ numbers_where test xs) x xs
      (λ _. added_first x.socket.conn (numbers_where test xs) c same)
      (λ _. added_front (numbers_where test xs) c (greater_where xs c (subst (λ (z : ℕ). AreAbove z (entries_of xs)) same up.0)))))
      (λ ne. let more = sym (later_has x xs c ne) ∙ there in
      by_cases (test x)
      (λ t. where_in x (replaced xs c y) t ∙ ap (λ (z : List ℕ). x.socket.conn ∷ z) (where_replaced_in xs c y up.1 more own is)
      ∙ sym (ap (λ ns. added ns c) (where_in x xs t) ∙ added_later x.socket.conn (numbers_where test xs) c (before x xs c up.0 more)))
      (λ t. where_out x (replaced xs c y) t ∙ where_replaced_in xs c y up.1 more own is ∙ sym (ap (λ ns. added ns c) (where_out x xs t))))
    where
      before : (x : Connection) (xs : List Connection) (c : ℕ) → AreAbove x.socket.conn (entries_of xs) → has_entry (entries_of xs) c ≡ true → x.socket.conn < c
      before x xs c h there = by_cases (nat_lt x.socket.conn c) (λ t. less_is x.socket.conn c t) (λ t. clash (has_entry (entries_of xs) c) (none_below (entries_of xs) x.socket.conn c h (not_less_is x.socket.conn c t)) there)

  -- one that is left out is not in
  pub where_without : (xs : List Connection) (c : ℕ) → AreRising (entries_of xs) → numbers_where test (without xs c) ≡ removed (numbers_where test xs) c
  where_without [] c up = refl
  where_without (x ∷ xs) c up = without_cases (λ ys. numbers_where test ys ≡ removed (numbers_where test (x ∷ xs)) c) x xs c
      (λ same. sym (where_cases (λ ns. removed ns c ≡ numbers_where test xs) x xs
      (λ _. ap (λ (z : Bool). cond z (numbers_where test xs) (x.socket.conn ∷ removed (numbers_where test xs) c)) (is_equal x.socket.conn c same))
      (λ _. removed_greater (numbers_where test xs) c (greater_where xs c (subst (λ (z : ℕ). AreAbove z (entries_of xs)) same up.0)))))
      (λ ne. by_cases (test x)
      (λ t. where_in x (without xs c) t ∙ ap (λ (z : List ℕ). x.socket.conn ∷ z) (where_without xs c up.1)
      ∙ sym (ap (λ ns. removed ns c) (where_in x xs t) ∙ ap (λ (z : Bool). cond z (numbers_where test xs) (x.socket.conn ∷ removed (numbers_where test xs) c)) (is_unequal x.socket.conn c ne)))
      (λ t. where_out x (without xs c) t ∙ where_without xs c up.1 ∙ sym (ap (λ ns. removed ns c) (where_out x xs t))))

  where_replaced_out : (xs : List Connection) (c : ℕ) (y : Connection) → test y ≡ false → numbers_where test (replaced xs c y) ≡ numbers_where test (without xs c)
  where_replaced_out [] c y out = refl
  where_replaced_out (x ∷ xs) c y out = by_cases (nat_eq x.socket.conn c)
      (λ t. ap (λ (z : Bool). numbers_where test (cond z (y ∷ xs) (x ∷ replaced xs c y))) t ∙ where_out y xs out ∙ sym (ap (λ (z : Bool). numbers_where test (cond z xs (x ∷ without xs c))) t))
      (λ t. ap (λ (z : Bool). numbers_where test (cond z (y ∷ xs) (x ∷ replaced xs c y))) t ∙ ap (λ (z : List ℕ). cond (test x) (x.socket.conn ∷ z) z) (where_replaced_out xs c y out) ∙ sym (ap (λ (z : Bool). numbers_where test (cond z xs (x ∷ without xs c))) t))

  -- the number is in the set exactly where the connection passes the test
  pub where_replaced : (xs : List Connection) (c : ℕ) (y : Connection) (b : Bool) → AreRising (entries_of xs) → has_entry (entries_of xs) c ≡ true → y.socket.conn ≡ c → test y ≡ b → numbers_where test (replaced xs c y) ≡ marked (numbers_where test xs) c b
  where_replaced xs c y true up there own is = where_replaced_in xs c y up there own is
  where_replaced xs c y false up there own is = where_replaced_out xs c y is ∙ where_without xs c up

  -- where the test says the same of it, the set stays
  pub where_same : (xs : List Connection) (c : ℕ) (y : Connection) → y.socket.conn ≡ c → test y ≡ test (connection_of xs c) → numbers_where test (replaced xs c y) ≡ numbers_where test xs
  where_same [] c y own is = refl
  where_same (x ∷ xs) c y own is = replaced_cases (λ ys. numbers_where test ys ≡ numbers_where test (x ∷ xs)) x xs c y
      (λ same. ap (λ (z : Bool). cond z (y.socket.conn ∷ numbers_where test xs) (numbers_where test xs)) (is ∙ ap test (connection_first x xs c same)) ∙ ap (λ (z : ℕ). cond (test x) (z ∷ numbers_where test xs) (numbers_where test xs)) (own ∙ sym same))
      (λ ne. ap (λ (z : List ℕ). cond (test x) (x.socket.conn ∷ z) z) (where_same xs c y own (is ∙ ap test (connection_later x xs c ne))))

-- ---- the Closed event that is told next

is_none : (o : Option Parting) → is_some o ≡ false → o ≡ None
is_none None e = refl
is_none (Some p) e = absurd (cc)

-- where none is in the set, none is due
pub none_due : (xs : List Connection) → first_of (numbers_where is_due xs) ≡ None → partings_of xs ≡ []
none_due [] e = refl
none_due (x ∷ xs) e = by_cases (is_due x)
    (λ t. absurd (let z : Some x.socket.conn ≡ None = sym (ap first_of (where_in is_due x xs t)) ∙ e in cc))
    (λ t. ap (λ z. put_before z (partings_of xs)) (is_none x.closed t) ∙ none_due xs (sym (ap first_of (where_out is_due x xs t)) ∙ e))

-- the connection is the first for which a Closed event is due
pub record IsFirstDue (xs : List Connection) (c : ℕ) : Type 0 where
  pub there : has_entry (entries_of xs) c ≡ true
  pub due : is_due (connection_of xs c) ≡ true
  pub least : (d : ℕ) → d < c → (connection_of xs d).closed ≡ None

pub first_due : (xs : List Connection) (c : ℕ) → AreRising (entries_of xs) → first_of (numbers_where is_due xs) ≡ Some c → IsFirstDue xs c
first_due [] c up e = absurd (cc)
first_due (x ∷ xs) c up e = by_cases (is_due x)
    (λ t. let here : x.socket.conn ≡ c = (let z : Some x.socket.conn ≡ Some c = sym (ap first_of (where_in is_due x xs t)) ∙ e in cc) in record {
      there = ap (λ (z : Bool). z || has_entry (entries_of xs) c) (is_equal x.socket.conn c here);
      due = ap is_due (connection_first x xs c here) ∙ t;
      least = λ d l. ap (λ (z : Connection). z.closed) (connection_later x xs d (λ q. absurd (omega arith)) ∙ nothing_of xs d (none_below (entries_of xs) x.socket.conn d up.0 (omega arith)));
    })
    (λ t. let h = first_due xs c up.1 (sym (ap first_of (where_out is_due x xs t)) ∙ e) in
    let ne : x.socket.conn ≢ c = λ q. clash (has_entry (entries_of xs) c) (none_below (entries_of xs) x.socket.conn c up.0 (omega arith)) h.there in record {
      there = later_has x xs c ne ∙ h.there;
      due = ap is_due (connection_later x xs c ne) ∙ h.due;
      least = λ d l. by_cases (nat_eq x.socket.conn d)
          (λ q. ap (λ (z : Connection). z.closed) (connection_first x xs d (equal_is x.socket.conn d q)) ∙ is_none x.closed t)
          (λ q. ap (λ (z : Connection). z.closed) (connection_later x xs d (unequal_is x.socket.conn d q)) ∙ h.least d l);
    })

-- ---- the next connection that is ending

is_ending_is : (p : Phase) → is_ending p ≡ true → p ≡ Ending
is_ending_is Head e = cc
is_ending_is Open e = cc
is_ending_is Leaving e = cc
is_ending_is Ending e = refl
is_ending_is Gone e = cc

not_ending : (p : Phase) → is_ending p ≡ false → p ≢ Ending
not_ending p f q = clash (is_ending p) f (ap is_ending q)

nobody_ends : (es : List Entry) (c : ℕ) → has_entry es c ≡ false → (entry_of es c).phase ≢ Ending
nobody_ends es c none h = let z : Gone ≡ Ending = sym (ap (λ (z : Entry). z.phase) (none_of es c none)) ∙ h in cc

entry_first : (e : Entry) (es : List Entry) (c : ℕ) → e.conn ≡ c → entry_of (e ∷ es) c ≡ e
entry_first e es c q = ap (λ (z : Bool). cond z e (entry_of es c)) (is_equal e.conn c q)

entry_later : (e : Entry) (es : List Entry) (c : ℕ) → e.conn ≢ c → entry_of (e ∷ es) c ≡ entry_of es c
entry_later e es c q = ap (λ (z : Bool). cond z e (entry_of es c)) (is_unequal e.conn c q)

-- the first is not the one that is sought
passed : (x : Connection) (xs : List Connection) (a : ℕ) (r : Option ℕ) → first_above (numbers_where ends (x ∷ xs)) a ≡ r → (a < x.socket.conn → x.socket.phase ≡ Ending → ⊥) → first_above (numbers_where ends xs) a ≡ r
passed x xs a r e not = by_cases (ends x)
    (λ t. by_cases (nat_lt a x.socket.conn)
    (λ l. absurd (not (less_is a x.socket.conn l) (is_ending_is x.socket.phase t)))
    (λ l. sym (ap (λ ns. first_above ns a) (where_in ends x xs t) ∙ ap (λ (z : Bool). cond z (Some x.socket.conn) (first_above (numbers_where ends xs) a)) l) ∙ e))
    (λ t. sym (ap (λ ns. first_above ns a) (where_out ends x xs t)) ∙ e)

stops : (x : Connection) (xs : List Connection) (a : ℕ) → a < x.socket.conn → x.socket.phase ≡ Ending → first_above (numbers_where ends (x ∷ xs)) a ≡ Some x.socket.conn
stops x xs a l q = ap (λ ns. first_above ns a) (where_in ends x xs (ap is_ending q)) ∙ ap (λ (z : Bool). cond z (Some x.socket.conn) (first_above (numbers_where ends xs) a)) (is_less a x.socket.conn l)

stop_cases : {A : Type 0} (x : Connection) (a : ℕ) → (a < x.socket.conn → x.socket.phase ≡ Ending → A) → ((a < x.socket.conn → x.socket.phase ≡ Ending → ⊥) → A) → A
stop_cases {A} x a f g = by_cases (nat_lt a x.socket.conn)
    (λ l. by_cases (ends x) (λ t. f (less_is a x.socket.conn l) (is_ending_is x.socket.phase t)) (λ t. g (λ _. not_ending x.socket.phase t)))
    (λ l. g (λ m _. clash (nat_lt a x.socket.conn) l (is_less a x.socket.conn m)))

pub none_next : (xs : List Connection) (a : ℕ) → first_above (numbers_where ends xs) a ≡ None → IsNextEnding (entries_of xs) a None
none_next [] a e c l = nobody_ends [] c refl
none_next (x ∷ xs) a e c l =
    let pass : a < x.socket.conn → x.socket.phase ≡ Ending → ⊥ = λ m q. (let z : Some x.socket.conn ≡ None = sym (stops x xs a m q) ∙ e in cc) in
    by_cases (nat_eq x.socket.conn c)
    (λ t h. let same = equal_is x.socket.conn c t in pass (omega arith) (sym (ap (λ (z : Entry). z.phase) (entry_first x.socket (entries_of xs) c same)) ∙ h))
    (λ t h. none_next xs a (passed x xs a None e pass) c l (sym (ap (λ (z : Entry). z.phase) (entry_later x.socket (entries_of xs) c (unequal_is x.socket.conn c t))) ∙ h))

next_found : (xs : List Connection) (a n : ℕ) → AreRising (entries_of xs) → first_above (numbers_where ends xs) a ≡ Some n → (has_entry (entries_of xs) n ≡ true) × IsNextEnding (entries_of xs) a (Some n)
next_found [] a n up e = absurd (cc)
next_found (x ∷ xs) a n up e = stop_cases x a
    (λ l q. let here : x.socket.conn ≡ n = (let z : Some x.socket.conn ≡ Some n = sym (stops x xs a l q) ∙ e in cc) in (
      ap (λ (z : Bool). z || has_entry (entries_of xs) n) (is_equal x.socket.conn n here),
      (
        omega arith,
        ap (λ (z : Entry). z.phase) (entry_first x.socket (entries_of xs) n here) ∙ q,
        λ d more less. λ h. nobody_ends (entries_of xs) d (none_below (entries_of xs) x.socket.conn d up.0 (omega arith)) (sym (ap (λ (z : Entry). z.phase) (entry_later x.socket (entries_of xs) d (λ o. absurd (omega arith)))) ∙ h),
      ),
    ))
    (λ pass. let h = next_found xs a n up.1 (passed x xs a (Some n) e pass) in
    let ne : x.socket.conn ≢ n = λ q. clash (has_entry (entries_of xs) n) (none_below (entries_of xs) x.socket.conn n up.0 (omega arith)) h.0 in (
      later_has x xs n ne ∙ h.0,
      (
        h.1.0,
        ap (λ (z : Entry). z.phase) (entry_later x.socket (entries_of xs) n ne) ∙ h.1.1,
        λ d more less. by_cases (nat_eq x.socket.conn d)
            (λ t h2. let same = equal_is x.socket.conn d t in pass (omega arith) (sym (ap (λ (z : Entry). z.phase) (entry_first x.socket (entries_of xs) d same)) ∙ h2))
            (λ t h2. h.1.2 d more less (sym (ap (λ (z : Entry). z.phase) (entry_later x.socket (entries_of xs) d (unequal_is x.socket.conn d t))) ∙ h2)),
      ),
    ))

pub next_is : (xs : List Connection) (a : ℕ) (r : Option ℕ) → AreRising (entries_of xs) → r ≡ first_above (numbers_where ends xs) a → IsNextEnding (entries_of xs) a r
next_is xs a None up e = none_next xs a (sym e)
next_is xs a (Some n) up e = (next_found xs a n up (sym e)).1
