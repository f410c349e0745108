-- The pattern that `matchit` reads from a UTF-8 text is whole: a parameter cuts no character.
use Rattle.route_table.proofs.Below.{◌≡◌, ◌≢◌, ℕ, suc, ◌+◌, ◌<◌, ◌≤◌, List, [], ◌∷◌, ◌++◌, length, drop, get_or, Option, Some, None, Result, Ok, Err, Bool, true, false, cond, refl, sym, ap, subst, ◌∙◌, arith, ◌==◌, ltb, ◌||◌, ◌&&◌, ◌⊎◌, inl, inr, append-nil, append_assoc, length-append, take_at, drop_at, IsUtf8, Fits, w8, get_or_at, nat_tests, IsUtf8-append, IsUtf8-take, IsUtf8-drop, IsUtf8-from_ascii, IsCharBoundary-start, IsCharBoundary-before_ascii, IsCharBoundary-after_ascii, IsAscii-cons, IsAscii-nil, IsCharBoundary, RowsOf, comes_before, param_token, RouteOf, InsertsRead, route_from, placed, IsText, Scan, scan_start, push_byte, add_name_byte, closed_scan, open_name, wild_token, feed_outside, feed_named, feed_opened, feed_closed, feed_name_opened, feed_name_closed, after_close, feed, finish, after_feed, scan, after_shape, on_shape, shape_error, parse_route, InsertError, InvalidParam, front_of, rest_of, IsWhole, IsRow, AllRows}
use Rattle.route_table.proofs.RowLemmas.{less_rows}
use Rattle.route_table.proofs.PartLemmas.{front_of-literal, rest_of-literal, text_of_octets}

-- the list ends a UTF-8 text
abbrev pub EndsText : List ℕ → Type 0
EndsText left = (before : List ℕ) × IsUtf8 (before ++ left)

pub ends_more : (b : ℕ) (left : List ℕ) → EndsText (b ∷ left) → EndsText left
ends_more b left h = (h.0 ++ b ∷ [], rw append_assoc h.1)

-- what follows an ASCII octet of a UTF-8 text is UTF-8
pub after_ascii : (b : ℕ) (left : List ℕ) → b < 128 → EndsText (b ∷ left) → IsUtf8 left
after_ascii b left low h =
    let size : length (h.0 ++ b ∷ left) ≡ length h.0 + suc (length left) = length-append h.0 (b ∷ left) in
    let here : get_or (h.0 ++ b ∷ left) (length h.0) 0 ≡ b = get_or_at h.0 b left 0 (length h.0) refl in
    let gone : drop (length h.0 + 1) (h.0 ++ b ∷ left) ≡ left =
    ap (λ z. drop (length h.0 + 1) z) (sym (append_assoc h.0 (b ∷ []) left)) ∙ drop_at (h.0 ++ b ∷ []) left (length h.0 + 1) (length-append h.0 (b ∷ [])) in
    subst (λ z. IsUtf8 z) gone (IsUtf8-drop (h.0 ++ b ∷ left) (length h.0 + 1) h.1 (IsCharBoundary-after_ascii (h.0 ++ b ∷ left) (length h.0) h.1 (omega arith) (omega arith)))

-- what stands before an ASCII octet of a UTF-8 text is UTF-8
pub before_ascii : (front : List ℕ) (b : ℕ) (left : List ℕ) → b < 128 → IsUtf8 (front ++ b ∷ left) → IsUtf8 front
before_ascii front b left low u =
    let size : length (front ++ b ∷ left) ≡ length front + suc (length left) = length-append front (b ∷ left) in
    let here : get_or (front ++ b ∷ left) (length front) 0 ≡ b = get_or_at front b left 0 (length front) refl in
    subst (λ z. IsUtf8 z) (take_at front (b ∷ left) (length front) refl) (IsUtf8-take (front ++ b ∷ left) (length front) u (IsCharBoundary-before_ascii (front ++ b ∷ left) (length front) (omega arith) (omega arith)))

pub ascii_text : (b : ℕ) → b < 128 → IsUtf8 (b ∷ [])
ascii_text b h = IsUtf8-from_ascii (b ∷ []) (IsAscii-cons b [] h IsAscii-nil)

pub text_push : (front : List ℕ) (b : ℕ) → IsText front → b < 256 → IsText (front ++ b ∷ [])
text_push [] b t h = (h, tt)
text_push (x ∷ front) b t h = (t.0, text_push front b t.1 h)

-- a list with more behind it begins as before
pub boundary_push : (after : List ℕ) (x : ℕ) (more : List ℕ) → IsCharBoundary after 0 → (length after ≡ 0 → 128 ≤ x → 192 ≤ x) → IsCharBoundary (after ++ x ∷ more) 0
boundary_push [] x more h first = (omega arith, λ _ high. first refl high)
boundary_push (y ∷ after) x more h first = (omega arith, λ _ high. h.1 (omega arith) high)

-- a scan that has met no parameter yet
pub record IsBefore (s : Scan) (left : List ℕ) : Type 0 where
  pub text : IsText s.pattern
  pub outside : s.mode ≡ 0 → IsUtf8 (s.pattern ++ left)
  pub within : s.mode ≢ 0 → IsUtf8 s.pattern
  pub ending : 5 ≤ s.mode → IsCharBoundary left 0

-- a scan that has met one
pub record IsAfter (s : Scan) : Type 0 where
  pub front : List ℕ
  pub token : ℕ
  pub after : List ℕ
  pub text : IsText front
  pub wild : param_token ≤ token
  pub pattern_is : s.pattern ≡ front ++ token ∷ after
  pub utf8 : IsUtf8 front
  pub boundary : IsCharBoundary after 0
  pub outside : s.mode ≡ 0 → 0 < length after

-- one octet that adds no token, that adds itself, or that comes after a parameter's end
pub record Keeps (s : Scan) (b : ℕ) (n : Scan) : Type 0 where
  pub pattern : n.pattern ≡ s.pattern
  pub within : n.mode ≢ 0
  pub leaves : s.mode ≡ 0 → b < 128
  pub ends : 5 ≤ n.mode → b < 128

pub record Pushes (s : Scan) (b : ℕ) (n : Scan) : Type 0 where
  pub pattern : n.pattern ≡ s.pattern ++ b ∷ []
  pub outside : n.mode ≡ 0
  pub ascii : s.mode ≢ 0 → b < 128

pub record Closes (s : Scan) (b : ℕ) (n : Scan) : Type 0 where
  pub token : ℕ
  pub wild : param_token ≤ token
  pub was : 5 ≤ s.mode
  pub pattern : ((n.pattern ≡ s.pattern ++ token ∷ []) × (n.mode ≢ 0)) ⊎ (n.pattern ≡ s.pattern ++ token ∷ b ∷ [])

abbrev pub Moves : Scan → ℕ → Scan → Type 0
Moves s b n = Keeps s b n ⊎ (Pushes s b n ⊎ Closes s b n)

abbrev pub Moved : Scan → ℕ → Result Scan InsertError → Type 0
Moved s b (Ok n) = Moves s b n
Moved s b (Err e) = Unit {0}

pub outside_moves : (s : Scan) (b : ℕ) → s.mode ≡ 0 → Moves s b (feed_outside s b)
outside_moves s b m = by (b == 123) refl (b == 125) refl
  where
    by : (u : Bool) → (b == 123) ≡ u → (v : Bool) → (b == 125) ≡ v → Moves s b (cond u (record s { mode = 1 }) (cond v (record s { mode = 2 }) (push_byte s b)))
    by true p v q = inl (record { pattern = refl; within = λ e. absurd (omega arith); leaves = λ _. grind (arith, nat_tests); ends = λ e. absurd (omega arith) })
    by false p true q = inl (record { pattern = refl; within = λ e. absurd (omega arith); leaves = λ _. grind (arith, nat_tests); ends = λ e. absurd (omega arith) })
    by false p false q = inr (inl (record { pattern = refl; outside = refl; ascii = λ n. absurd (n m) }))

pub named_moved : (s t : Scan) (b : ℕ) → t.pattern ≡ s.pattern → s.mode ≢ 0 → Moved s b (feed_named t b)
named_moved s t b same m = by (b == 125) refl (b == 123) refl (b == 42 || b == 47)
  where
    by : (u : Bool) → (b == 125) ≡ u → (v : Bool) → (b == 123) ≡ v → (w : Bool)
        → Moved s b (cond u (Ok (record t { mode = 5 })) (cond v (Ok (record t { mode = 4 })) (cond w (Err InvalidParam) (Ok (add_name_byte t b)))))
    by true p v q w = inl (record { pattern = same; within = λ e. absurd (omega arith); leaves = λ e. absurd (m e); ends = λ _. grind (arith, nat_tests) })
    by false p true q w = inl (record { pattern = same; within = λ e. absurd (omega arith); leaves = λ e. absurd (m e); ends = λ e. absurd (omega arith) })
    by false p false q true = tt
    by false p false q false = inl (record { pattern = same; within = λ e. absurd (omega arith); leaves = λ e. absurd (m e); ends = λ e. absurd (omega arith) })

pub opened_moved : (s : Scan) (b : ℕ) → s.mode ≢ 0 → Moved s b (feed_opened s b)
opened_moved s b m = by (b == 123) refl (b == 125) (b == 42)
  where
    by : (u : Bool) → (b == 123) ≡ u → (v w : Bool)
        → Moved s b (cond u (Ok (push_byte s 123)) (cond v (Err InvalidParam) (cond w (Ok (open_name s true)) (Ok (add_name_byte (open_name s false) b)))))
    by true p v w =
        let same : b ≡ 123 = grind (arith, nat_tests) in
        inr (inl (record { pattern = ap (λ z. s.pattern ++ z ∷ []) (sym same); outside = refl; ascii = λ _. omega arith }))
    by false p true w = tt
    by false p false true = inl (record { pattern = refl; within = λ e. absurd (omega arith); leaves = λ e. absurd (m e); ends = λ e. absurd (omega arith) })
    by false p false false = inl (record { pattern = refl; within = λ e. absurd (omega arith); leaves = λ e. absurd (m e); ends = λ e. absurd (omega arith) })

pub closed_moved : (s : Scan) (b : ℕ) → s.mode ≢ 0 → Moved s b (feed_closed s b)
closed_moved s b m = by (b == 125) refl
  where
    by : (u : Bool) → (b == 125) ≡ u → Moved s b (cond u (Ok (push_byte s 125)) (Err InvalidParam))
    by true p =
        let same : b ≡ 125 = grind (arith, nat_tests) in
        inr (inl (record { pattern = ap (λ z. s.pattern ++ z ∷ []) (sym same); outside = refl; ascii = λ _. omega arith }))
    by false p = tt

pub name_opened_moved : (s : Scan) (b : ℕ) → s.mode ≢ 0 → Moved s b (feed_name_opened s b)
name_opened_moved s b m = by (b == 123)
  where
    by : (u : Bool) → Moved s b (cond u (Ok (add_name_byte s 123)) (feed_named (add_name_byte s 123) b))
    by true = inl (record { pattern = refl; within = λ e. absurd (omega arith); leaves = λ e. absurd (m e); ends = λ e. absurd (omega arith) })
    by false = named_moved s (add_name_byte s 123) b refl m

pub wild_tokens : (all : Bool) → param_token ≤ wild_token all
wild_tokens true = omega arith
wild_tokens false = omega arith

-- the octet after a parameter's end
pub ended_moves : (s : Scan) (b : ℕ) → 5 ≤ s.mode → Moves s b (feed_outside (closed_scan s) b)
ended_moves s b m = inr (inr (record { token = wild_token s.catch_all; wild = wild_tokens s.catch_all; was = m; pattern = by (b == 123) (b == 125) }))
  where
    by : (u v : Bool) → (((cond u (record (closed_scan s) { mode = 1 }) (cond v (record (closed_scan s) { mode = 2 }) (push_byte (closed_scan s) b))).pattern ≡ s.pattern ++ wild_token s.catch_all ∷ [])
        × ((cond u (record (closed_scan s) { mode = 1 }) (cond v (record (closed_scan s) { mode = 2 }) (push_byte (closed_scan s) b))).mode ≢ 0))
        ⊎ ((cond u (record (closed_scan s) { mode = 1 }) (cond v (record (closed_scan s) { mode = 2 }) (push_byte (closed_scan s) b))).pattern ≡ s.pattern ++ wild_token s.catch_all ∷ b ∷ [])
    by true v = inl (refl, λ e. absurd (omega arith))
    by false true = inl (refl, λ e. absurd (omega arith))
    by false false = inr (append_assoc s.pattern (wild_token s.catch_all ∷ []) (b ∷ []))

pub name_closed_moved : (s : Scan) (b : ℕ) → s.mode ≢ 0 → 5 ≤ s.mode → Moved s b (feed_name_closed s b)
name_closed_moved s b m five = by (b == 125) (s.catch_all && length s.text == s.name_start)
  where
    by : (u v : Bool) → Moved s b (cond u (Ok (add_name_byte s 125)) (after_close (cond v (Err InvalidParam) (Ok (closed_scan s))) b))
    by true v = inl (record { pattern = refl; within = λ e. absurd (omega arith); leaves = λ e. absurd (m e); ends = λ e. absurd (omega arith) })
    by false true = tt
    by false false = ended_moves s b five

-- what one octet does to a scan
pub feed_moved : (s : Scan) (b : ℕ) → Moved s b (feed s b)
feed_moved s b = by (s.mode == 0) refl (s.mode == 1) refl (s.mode == 2) refl (s.mode == 3) refl (s.mode == 4) refl
  where
    by : (m0 : Bool) → (s.mode == 0) ≡ m0 → (m1 : Bool) → (s.mode == 1) ≡ m1 → (m2 : Bool) → (s.mode == 2) ≡ m2 → (m3 : Bool) → (s.mode == 3) ≡ m3 → (m4 : Bool) → (s.mode == 4) ≡ m4
        → Moved s b (cond m0 (Ok (feed_outside s b)) (cond m1 (feed_opened s b) (cond m2 (feed_closed s b) (cond m3 (feed_named s b) (cond m4 (feed_name_opened s b) (feed_name_closed s b))))))
    by true e0 m1 e1 m2 e2 m3 e3 m4 e4 = outside_moves s b (grind (arith, nat_tests))
    by false e0 true e1 m2 e2 m3 e3 m4 e4 = opened_moved s b (λ e. grind (arith, nat_tests))
    by false e0 false e1 true e2 m3 e3 m4 e4 = closed_moved s b (λ e. grind (arith, nat_tests))
    by false e0 false e1 false e2 true e3 m4 e4 = named_moved s s b refl (λ e. grind (arith, nat_tests))
    by false e0 false e1 false e2 false e3 true e4 = name_opened_moved s b (λ e. grind (arith, nat_tests))
    by false e0 false e1 false e2 false e3 false e4 = name_closed_moved s b (λ e. grind (arith, nat_tests)) (grind (arith, nat_tests))

-- a scan goes on with no parameter yet, or meets its first one
pub before_moves : (s : Scan) (b : ℕ) (n : Scan) (left : List ℕ) → IsBefore s (b ∷ left) → EndsText (b ∷ left) → b < 256 → Moves s b n → IsBefore n left ⊎ IsAfter n
before_moves s b n left h u octet (inl keeps) = inl (record {
  text = rw keeps.pattern h.text;
  outside = λ m. absurd (keeps.within m);
  within = λ _. rw keeps.pattern (by (s.mode == 0) refl);
  ending = λ m. IsCharBoundary-start left (after_ascii b left (keeps.ends m) u);
})
  where
    by : (v : Bool) → (s.mode == 0) ≡ v → IsUtf8 s.pattern
    by true e =
        let m : s.mode ≡ 0 = grind (arith, nat_tests) in
        before_ascii s.pattern b left (keeps.leaves m) (h.outside m)
    by false e = h.within (λ m. grind (arith, nat_tests))
before_moves s b n left h u octet (inr (inl pushes)) = inl (record {
  text = rw pushes.pattern (text_push s.pattern b h.text octet);
  outside = λ _. rw pushes.pattern (by (s.mode == 0) refl);
  within = λ m. absurd (m pushes.outside);
  ending = λ m. absurd (omega (arith, pushes.outside));
})
  where
    by : (v : Bool) → (s.mode == 0) ≡ v → IsUtf8 ((s.pattern ++ b ∷ []) ++ left)
    by true e =
        let m : s.mode ≡ 0 = grind (arith, nat_tests) in
        rw (append_assoc s.pattern (b ∷ []) left) (h.outside m)
    by false e =
        let m : s.mode ≢ 0 = λ z. grind (arith, nat_tests) in
        let low : b < 128 = pushes.ascii m in
        IsUtf8-append (s.pattern ++ b ∷ []) left (IsUtf8-append s.pattern (b ∷ []) (h.within m) (ascii_text b low)) (after_ascii b left low u)
before_moves s b n left h u octet (inr (inr closes)) = inr (by closes.pattern)
  where
    by : ((n.pattern ≡ s.pattern ++ closes.token ∷ []) × (n.mode ≢ 0)) ⊎ (n.pattern ≡ s.pattern ++ closes.token ∷ b ∷ []) → IsAfter n
    by (inl p) = record {
      front = s.pattern;
      token = closes.token;
      after = [];
      text = h.text;
      wild = closes.wild;
      pattern_is = p.0;
      utf8 = h.within (λ z. absurd (omega (arith, closes.was)));
      boundary = (omega arith, λ l. absurd (omega arith));
      outside = λ m. absurd (p.1 m);
    }
    by (inr p) = record {
      front = s.pattern;
      token = closes.token;
      after = b ∷ [];
      text = h.text;
      wild = closes.wild;
      pattern_is = p;
      utf8 = h.within (λ z. absurd (omega (arith, closes.was)));
      boundary = (omega arith, λ _ high. (h.ending closes.was).1 (omega arith) high);
      outside = λ _. omega arith;
    }

-- a scan that has met a parameter keeps its front and what begins behind the parameter
pub after_moves : (s : Scan) (b : ℕ) (n : Scan) → IsAfter s → Moves s b n → IsAfter n
after_moves s b n h (inl keeps) = record {
  front = h.front;
  token = h.token;
  after = h.after;
  text = h.text;
  wild = h.wild;
  pattern_is = keeps.pattern ∙ h.pattern_is;
  utf8 = h.utf8;
  boundary = h.boundary;
  outside = λ m. absurd (keeps.within m);
}
after_moves s b n h (inr (inl pushes)) = record {
  front = h.front;
  token = h.token;
  after = h.after ++ b ∷ [];
  text = h.text;
  wild = h.wild;
  pattern_is = pushes.pattern ∙ ap (λ z. z ++ b ∷ []) h.pattern_is ∙ append_assoc h.front (h.token ∷ h.after) (b ∷ []);
  utf8 = h.utf8;
  boundary = boundary_push h.after b [] h.boundary (λ none high. absurd (low none high));
  outside = λ _. omega (arith, length-append h.after (b ∷ []));
}
  where
    low : length h.after ≡ 0 → 128 ≤ b → ⊥
    low none high =
        let m : s.mode ≢ 0 = λ z. absurd (omega (arith, h.outside z)) in
        omega (arith, pushes.ascii m)
after_moves s b n h (inr (inr closes)) = by closes.pattern
  where
    by : ((n.pattern ≡ s.pattern ++ closes.token ∷ []) × (n.mode ≢ 0)) ⊎ (n.pattern ≡ s.pattern ++ closes.token ∷ b ∷ []) → IsAfter n
    by (inl p) = record {
      front = h.front;
      token = h.token;
      after = h.after ++ closes.token ∷ [];
      text = h.text;
      wild = h.wild;
      pattern_is = p.0 ∙ ap (λ z. z ++ closes.token ∷ []) h.pattern_is ∙ append_assoc h.front (h.token ∷ h.after) (closes.token ∷ []);
      utf8 = h.utf8;
      boundary = boundary_push h.after closes.token [] h.boundary (λ _ _. omega (arith, closes.wild));
      outside = λ m. absurd (p.1 m);
    }
    by (inr p) = record {
      front = h.front;
      token = h.token;
      after = h.after ++ closes.token ∷ b ∷ [];
      text = h.text;
      wild = h.wild;
      pattern_is = p ∙ ap (λ z. z ++ closes.token ∷ b ∷ []) h.pattern_is ∙ append_assoc h.front (h.token ∷ h.after) (closes.token ∷ b ∷ []);
      utf8 = h.utf8;
      boundary = boundary_push h.after closes.token (b ∷ []) h.boundary (λ _ _. omega (arith, closes.wild));
      outside = λ _. omega (arith, length-append h.after (closes.token ∷ b ∷ []));
    }

pub literal_whole : (front : List ℕ) → IsText front → IsUtf8 front → IsWhole front
literal_whole front t u = record {
  front = subst (λ z. IsUtf8 z) (sym (ap front_of (sym (append-nil front)) ∙ front_of-literal front [] t tt)) u;
  rest = subst (λ z. IsCharBoundary z 0) (sym (nothing front t)) (omega arith, λ l. absurd (omega arith));
}
  where
    nothing : (xs : List ℕ) → IsText xs → rest_of xs ≡ []
    nothing [] h = refl
    nothing (b ∷ xs) h =
        let e : ltb b param_token ≡ true = grind (arith, nat_tests) in
        rw e (nothing xs h.1)

pub wild_whole : (front : List ℕ) (token : ℕ) (after : List ℕ) → IsText front → param_token ≤ token → IsUtf8 front → IsCharBoundary after 0 → IsWhole (front ++ token ∷ after)
wild_whole front token after t w u h = record {
  front = subst (λ z. IsUtf8 z) (sym (front_of-literal front (token ∷ after) t w)) u;
  rest = subst (λ z. IsCharBoundary z 0) (sym (rest_of-literal front token after t w)) h;
}

pub closed_whole : (s : Scan) (left : List ℕ) → IsBefore s left ⊎ IsAfter s → 5 ≤ s.mode → IsWhole (closed_scan s).pattern
closed_whole s left (inl h) m =
    wild_whole s.pattern (wild_token s.catch_all) [] h.text (wild_tokens s.catch_all) (h.within (λ z. absurd (omega arith))) (omega arith, λ l. absurd (omega arith))
closed_whole s left (inr h) m =
    let same : s.pattern ++ wild_token s.catch_all ∷ [] ≡ h.front ++ h.token ∷ (h.after ++ wild_token s.catch_all ∷ []) =
    ap (λ z. z ++ wild_token s.catch_all ∷ []) h.pattern_is ∙ append_assoc h.front (h.token ∷ h.after) (wild_token s.catch_all ∷ []) in
    subst (λ z. IsWhole z) (sym same) (wild_whole h.front h.token (h.after ++ wild_token s.catch_all ∷ []) h.text h.wild h.utf8 (boundary_push h.after (wild_token s.catch_all) [] h.boundary (λ _ _. omega (arith, wild_tokens s.catch_all))))

pub finish_whole : (s out : Scan) → IsBefore s [] ⊎ IsAfter s → finish s ≡ Ok out → IsWhole out.pattern
finish_whole s out h e = by (s.mode == 0) refl (s.mode == 5) refl (s.catch_all && length s.text == s.name_start) e h
  where
    by : (u : Bool) → (s.mode == 0) ≡ u → (v : Bool) → (s.mode == 5) ≡ v → (w : Bool)
        → cond u (Ok s) (cond v (cond w (Err InvalidParam) (Ok (closed_scan s))) (Err InvalidParam)) ≡ Ok out → IsBefore s [] ⊎ IsAfter s → IsWhole out.pattern
    by true p v q w e (inl before) =
        let same : s ≡ out = cc in
        let m : s.mode ≡ 0 = grind (arith, nat_tests) in
        subst (λ z. IsWhole z.pattern) same (literal_whole s.pattern before.text (subst (λ z. IsUtf8 z) (append-nil s.pattern) (before.outside m)))
    by true p v q w e (inr after) =
        let same : s ≡ out = cc in
        subst (λ z. IsWhole z.pattern) same (subst (λ z. IsWhole z) (sym after.pattern_is) (wild_whole after.front after.token after.after after.text after.wild after.utf8 after.boundary))
    by false p true q true e h = cc
    by false p true q false e h =
        let same : closed_scan s ≡ out = cc in
        subst (λ z. IsWhole z.pattern) same (closed_whole s [] h (grind (arith, nat_tests)))
    by false p false q w e h = cc

-- a scan that reads one more octet goes on from what that gives
pub scan_step : (s out : Scan) (b : ℕ) (left : List ℕ) → scan s (b ∷ left) ≡ Ok out → (n : Scan) × (feed s b ≡ Ok n) × (scan n left ≡ Ok out)
unfolding scan
scan_step s out b left e = by (feed s b) refl e
  where
    by : (r : Result Scan InsertError) → feed s b ≡ r → after_feed r (λ next. scan next left) ≡ Ok out → (n : Scan) × (feed s b ≡ Ok n) × (scan n left ≡ Ok out)
    by (Ok n) p e = (n, p, e)
    by (Err x) p e = cc

pub either_moves : (s : Scan) (b : ℕ) (n : Scan) (left : List ℕ) → IsBefore s (b ∷ left) ⊎ IsAfter s → EndsText (b ∷ left) → b < 256 → Moves s b n → IsBefore n left ⊎ IsAfter n
either_moves s b n left (inl h) u octet m = before_moves s b n left h u octet m
either_moves s b n left (inr h) u octet m = inr (after_moves s b n h m)

pub scan_whole : (s out : Scan) (left : List ℕ) → IsText left → EndsText left → IsBefore s left ⊎ IsAfter s → scan s left ≡ Ok out → IsWhole out.pattern
unfolding scan
scan_whole s out [] t u h e = finish_whole s out h e
scan_whole s out (b ∷ left) t u h e =
    let step = scan_step s out b left e in
    let moves : Moves s b step.0 = subst (λ r. Moved s b r) step.1 (feed_moved s b) in
    scan_whole step.0 out left t.1 (ends_more b left u) (either_moves s b step.0 left h u t.0 moves) step.2

-- a pattern that is read from a UTF-8 text is whole
pub parse_whole : (text : List ℕ) (s : Scan) → ((k : ℕ) → Fits w8 (get_or text k 0)) → IsUtf8 text → parse_route text ≡ Ok s → IsWhole s.pattern
parse_whole text s octets u e = by (scan scan_start text) refl e
  where
    start : IsBefore scan_start text
    start = record { text = tt; outside = λ _. u; within = λ n. absurd (n refl); ending = λ m. absurd (omega arith) }

    shaped : (n : Scan) (o : Option InsertError) → on_shape o n ≡ Ok s → n ≡ s
    shaped n None f = cc
    shaped n (Some x) f = cc

    by : (r : Result Scan InsertError) → scan scan_start text ≡ r → after_shape r ≡ Ok s → IsWhole s.pattern
    by (Err x) p f = cc
    by (Ok n) p f =
        let same : n ≡ s = shaped n (shape_error n.pattern) f in
        subst (λ z. IsWhole z.pattern) same (scan_whole scan_start n text (text_of_octets text octets) ([], u) (inl start) p)

-- one more row in its place
pub placed_rows : {K : Type 0} (P : List ℕ → K → Type 0) (pattern : List ℕ) (key : K) (rows : RowsOf K) → P pattern key → AllRows P rows → AllRows P (placed (pattern, key) rows)
placed_rows P pattern key [] here h = (here, tt)
placed_rows P pattern key ((t, k) ∷ rest) here h = by (comes_before pattern t) (placed_rows P pattern key rest here h.1)
  where
    by : (v : Bool) → AllRows P (placed (pattern, key) rest) → AllRows P (cond v ((pattern, key) ∷ (t, k) ∷ rest) ((t, k) ∷ placed (pattern, key) rest))
    by true ih = (here, h)
    by false ih = (h.0, ih)

pub more_rows : (count : ℕ) (rows : RowsOf (RouteOf ℕ)) → AllRows (IsRow count) rows → AllRows (IsRow (count + 1)) rows
more_rows count rows h =
    less_rows (IsRow count) (IsRow (count + 1)) (λ t k row. record { same = row.same; number = omega (arith, row.number); whole = row.whole }) rows h

-- the rows after an insert that went well
pub inserted_rows : (count : ℕ) (text : List ℕ) (old new : RowsOf (RouteOf ℕ)) (u : Unit {0}) → ((k : ℕ) → Fits w8 (get_or text k 0)) → IsUtf8 text → AllRows (IsRow count) old
    → InsertsRead (parse_route text) count old new (Ok u) → AllRows (IsRow (count + 1)) new
inserted_rows count text old new u octets utf8 h e = by (parse_route text) refl e
  where
    by : (r : Result Scan InsertError) → parse_route text ≡ r → InsertsRead r count old new (Ok u) → AllRows (IsRow (count + 1)) new
    by (Ok s) p f =
        rw f.1 (placed_rows (IsRow (count + 1)) s.pattern (route_from s count) old (record { same = refl; number = omega arith; whole = parse_whole text s octets utf8 p }) (more_rows count old h))
    by (Err x) p f = elim f.1 [ inl q ↦ cc | inr q ↦ cc ]
