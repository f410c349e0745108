-- A data frame whose payload comes in pieces.
use Rattle.frame_reader.proofs.Below.{not, ◌==◌, ◌≡◌, ℕ, zero, suc, ◌+◌, ◌-◌, ◌%◌, ◌<◌, ◌≤◌, true, false, ◌&&◌, List, [], ◌++◌, length, take, drop, refl, sym, ap, ◌∙◌, append_assoc, arith, inl, inr, length-append, and_parts, not-true, cases_eq, ne_eqb, eq-eqb, append-nil, take-append-drop, drop-drop, length-take-le, take-append-add, drop-append-add, unmasked, is_text_front, failed, ends, is_text, data_front, unmasked-append, unmasked_turned, not_front, Middle, middle_front, moved}

same_test : (n k left : ℕ) → n ≤ left → (n + k == left) ≡ (k == left - n)
same_test n k left p = elim (cases_eq k (left - n)) [
  | inl same ↦ eq-eqb (n + k) left (omega arith) ∙ sym (eq-eqb k (left - n) same)
  | inr other ↦ ne_eqb (n + k) left (λ e. other (omega arith)) ∙ sym (ne_eqb k (left - n) other)
]

pub middle_moves : (m : Middle) (xs ys : List ℕ) → length xs ≤ m.left → middle_front m (xs ++ ys) ≡ middle_front (moved m xs) ys
middle_moves m xs ys p =
    let n : m.left ≡ length xs + (m.left - length xs) = omega arith in
    let part : take m.left (xs ++ ys) ≡ xs ++ take (m.left - length xs) ys = ap (λ k. take k (xs ++ ys)) n ∙ take-append-add xs ys (m.left - length xs) in
    let rest : drop m.left (xs ++ ys) ≡ drop (m.left - length xs) ys = ap (λ k. drop k (xs ++ ys)) n ∙ drop-append-add xs ys (m.left - length xs) in
    let test : (length (take m.left (xs ++ ys)) == m.left) ≡ (length (take (m.left - length xs) ys) == m.left - length xs) =
    ap (λ (l : List ℕ). length l == m.left) part ∙ ap (λ k. k == m.left) (length-append xs (take (m.left - length xs) ys)) ∙ same_test (length xs) (length (take (m.left - length xs) ys)) m.left p in
    let all : m.all ++ unmasked m.key m.place (take m.left (xs ++ ys)) ≡ (m.all ++ unmasked m.key m.place xs) ++ unmasked m.key (m.place + length xs) (take (m.left - length xs) ys) =
    ap (λ (l : List ℕ). m.all ++ unmasked m.key m.place l) part ∙ ap (λ (l : List ℕ). m.all ++ l) (unmasked-append m.key m.place xs (take (m.left - length xs) ys)) ∙ sym (append_assoc m.all (unmasked m.key m.place xs) (unmasked m.key (m.place + length xs) (take (m.left - length xs) ys))) in
    ap (λ b. data_front m.final b m.kind (m.all ++ unmasked m.key m.place (take m.left (xs ++ ys))) (drop m.left (xs ++ ys))) test
    ∙ ap (λ (l : List ℕ). data_front m.final (length (take (m.left - length xs) ys) == m.left - length xs) m.kind l (drop m.left (xs ++ ys))) all
    ∙ ap (data_front m.final (length (take (m.left - length xs) ys) == m.left - length xs) m.kind ((m.all ++ unmasked m.key m.place xs) ++ unmasked m.key (m.place + length xs) (take (m.left - length xs) ys))) rest

-- text that no continuation makes UTF-8 fails, whatever comes
pub middle_fails : (m : Middle) (ys : List ℕ) → is_text m.kind ≡ true → is_text_front m.all ≡ false → middle_front m ys ≡ ends (failed 1007)
middle_fails m ys text e = rw (text, not_front m.all (unmasked m.key m.place (take m.left ys)) e) refl

abbrev pub middle_at : Middle → List ℕ → ℕ → ℕ → Middle
middle_at m all left place = record { final = m.final; kind = m.kind; all = all; left = left; key = m.key; place = place }

pub payload_taken : (m : Middle) (xs all : List ℕ) (left place : ℕ) → all ≡ m.all ++ unmasked m.key m.place xs → left ≡ m.left - length xs
    → place % 4 ≡ (m.place + length xs) % 4 → (ys : List ℕ) → middle_front (middle_at m all left place) ys ≡ middle_front (moved m xs) ys
payload_taken m xs all left place a l p ys =
    ap (λ (x : List ℕ). middle_front (middle_at m x left place) ys) a
    ∙ ap (λ n. middle_front (middle_at m (m.all ++ unmasked m.key m.place xs) n place) ys) l
    ∙ ap (λ (x : List ℕ). data_front m.final (length (take (m.left - length xs) ys) == m.left - length xs) m.kind ((m.all ++ unmasked m.key m.place xs) ++ x) (drop (m.left - length xs) ys))
    (unmasked_turned m.key place (m.place + length xs) (take (m.left - length xs) ys) p)

-- so many of the raw octets were taken
pub took : (m : Middle) (items all : List ℕ) (start count place : ℕ) → count ≤ m.left → count ≤ length (drop start items) → all ≡ m.all ++ unmasked m.key m.place (take count (drop start items))
    → place % 4 ≡ (m.place + count) % 4
    → (behind : List ℕ) → middle_front m (drop start items ++ behind) ≡ middle_front (middle_at m all (m.left - count) place) (drop (start + count) items ++ behind)
took m items all start count place few within a p behind =
    let xs = take count (drop start items) in
    let long : length (take count (drop start items)) ≡ count = length-take-le count (drop start items) within in
    let rest : drop count (drop start items) ≡ drop (start + count) items = drop-drop count start items in
    let parts : drop start items ++ behind ≡ take count (drop start items) ++ (drop (start + count) items ++ behind) =
    ap (λ (l : List ℕ). l ++ behind) (sym (take-append-drop count (drop start items))) ∙ append_assoc (take count (drop start items)) (drop count (drop start items)) behind
    ∙ ap (λ (l : List ℕ). take count (drop start items) ++ (l ++ behind)) rest in
    ap (middle_front m) parts
    ∙ middle_moves m (take count (drop start items)) (drop (start + count) items ++ behind) (omega arith)
    ∙ sym (payload_taken m (take count (drop start items)) all (m.left - count) place a (omega arith) (omega arith) (drop (start + count) items ++ behind))

pub bad_fails : (m : Middle) (ys : List ℕ) → (is_text m.kind && not (is_text_front m.all)) ≡ true → middle_front m ys ≡ ends (failed 1007)
bad_fails m ys e = let p = and_parts (is_text m.kind) (not (is_text_front m.all)) e in middle_fails m ys p.0 (not-true (is_text_front m.all) p.1)
