-- Lines that are written one after the other, and what is held for a connection.
use Rattle.ws_program.proofs.Below.{◌≡◌, ◌≤◌, ℕ, List, [], ◌∷◌, ◌++◌, Option, Some, None, Bool, true, false, cond, not, ◌+◌, take, drop, take-append-drop, map, slice_get, length, refl, sym, ap, ◌∙◌, subst, append_assoc, append-nil, flat_map, Appends-trans, Phase, Gone, NoteValue, Rose, TellsAlike-trans, WritesText, Link, link_line, HubState, Entry, has_entry, entry_at, phase_at, ring_at, held_at, held_octets, Settled, settled_held, none_of, next, backlog_at, gather, accepted_by, gather-append, take_one, links_of, all_link_lines, AreLinks, phase_there, is_gone}
use Rattle.ws_program.proofs.PassLemmas.{front_of_more}

-- text behind text
pub writes_then : (s t : List ℕ) (w0 w1 w2 : Option (List ℕ)) (f0 f1 f2 : ℕ) (r : Bool) → WritesText s w0 w1 f0 f1 true → WritesText t w1 w2 f1 f2 r → WritesText (s ++ t) w0 w2 f0 f2 r
writes_then s t w0 w1 w2 f0 f1 f2 true (wrote, alike, same) (wrote', alike', same') =
    (Appends-trans w0 w1 w2 s t wrote wrote', TellsAlike-trans w0 w1 w2 alike alike', same' ∙ same)
writes_then s t w0 w1 w2 f0 f1 f2 false (wrote, alike, same) fails =
    let (taken, rest, split, wrote') = fails.written in
    record {
      written = (s ++ taken, rest, ap (λ l. s ++ l) split ∙ sym (append_assoc s taken rest), Appends-trans w0 w1 w2 s taken wrote wrote');
      tells = TellsAlike-trans w0 w1 w2 alike fails.tells;
      later = subst (λ k. k ≤ f2) same fails.later;
      cause = subst (λ k. Rose k f2) same fails.cause;
    }

-- a fault within the first text
pub writes_less : (s t : List ℕ) (w0 w1 : Option (List ℕ)) (f0 f1 : ℕ) → WritesText s w0 w1 f0 f1 false → WritesText (s ++ t) w0 w1 f0 f1 false
writes_less s t w0 w1 f0 f1 fails = record { written = front_of_more w0 w1 s t fails.written; tells = fails.tells; later = fails.later; cause = fails.cause }

flat-append : (f : NoteValue → List ℕ) (xs ys : List NoteValue) → flat_map f (xs ++ ys) ≡ flat_map f xs ++ flat_map f ys
flat-append f [] ys = refl
flat-append f (x ∷ xs) ys = ap (λ l. f x ++ l) (flat-append f xs ys) ∙ sym (append_assoc (f x) (flat_map f xs) (flat_map f ys))

flat-one : (f : NoteValue → List ℕ) (x : NoteValue) → flat_map f (x ∷ []) ≡ f x
flat-one f x = append-nil (f x)

-- the text of all notes up to a place, and then of the note there
pub text_next : (f : NoteValue → List ℕ) (ns : List NoteValue) (i : ℕ) (n : NoteValue) → slice_get ns i ≡ Some n → flat_map f (take (i + 1) ns) ≡ flat_map f (take i ns) ++ f n
text_next f ns i n at = ap (λ k. flat_map f (take k ns)) (next i) ∙ ap (flat_map f) (take_one i ns n at) ∙ flat-append f (take i ns) (n ∷ []) ∙ ap (λ l. flat_map f (take i ns) ++ l) (flat-one f n)

links-append : (xs ys : List Link) → all_link_lines (xs ++ ys) ≡ all_link_lines xs ++ all_link_lines ys
links-append [] ys = refl
links-append (x ∷ xs) ys = ap (λ l. link_line x.conn x.held x.octets ++ l) (links-append xs ys) ∙ sym (append_assoc (link_line x.conn x.held x.octets) (all_link_lines xs) (all_link_lines ys))

map-append : (g : ℕ → Link) (xs ys : List ℕ) → map g (xs ++ ys) ≡ map g xs ++ map g ys
map-append g [] ys = refl
map-append g (x ∷ xs) ys = ap (λ l. g x ∷ l) (map-append g xs ys)

both_links : (xs ys : List Link) → AreLinks xs → AreLinks ys → AreLinks (xs ++ ys)
both_links [] ys a b = b
both_links (x ∷ xs) ys a b = (a.0, both_links xs ys a.1 b)

links_of_more : (held taken : ℕ → List ℕ) (ns : List NoteValue) (i : ℕ) (n : NoteValue) → slice_get ns i ≡ Some n
    → links_of held taken (take (i + 1) ns) ≡ links_of held taken (take i ns) ++ links_of held taken (n ∷ [])
links_of_more held taken ns i n at =
    let g : ℕ → Link = λ conn. record { conn = conn; held = length (held conn); octets = taken conn } in
    ap (λ k. map g (gather accepted_by (take k ns))) (next i)
    ∙ ap (λ zs. map g (gather accepted_by zs)) (take_one i ns n at)
    ∙ ap (map g) (gather-append accepted_by (take i ns) (n ∷ []))
    ∙ map-append g (gather accepted_by (take i ns)) (gather accepted_by (n ∷ []))

-- the links so far, and one more
pub links_more : (held taken : ℕ → List ℕ) (ns : List NoteValue) (i : ℕ) (n : NoteValue) → slice_get ns i ≡ Some n
    → AreLinks (links_of held taken (take i ns)) → AreLinks (links_of held taken (n ∷ [])) → AreLinks (links_of held taken (take (i + 1) ns))
links_more held taken ns i n at before one =
    subst (λ (links : List Link). AreLinks links) (sym (links_of_more held taken ns i n at)) (both_links (links_of held taken (take i ns)) (links_of held taken (n ∷ [])) before one)

-- the lines of the links of notes, one note at a time
pub links_next : (held taken : ℕ → List ℕ) (ns : List NoteValue) (i : ℕ) (n : NoteValue) → slice_get ns i ≡ Some n
    → all_link_lines (links_of held taken (take (i + 1) ns)) ≡ all_link_lines (links_of held taken (take i ns)) ++ all_link_lines (links_of held taken (n ∷ []))
links_next held taken ns i n at =
    ap all_link_lines (links_of_more held taken ns i n at) ∙ links-append (links_of held taken (take i ns)) (links_of held taken (n ∷ []))

-- the lines so far, and one more
pub text_grows : (f : NoteValue → List ℕ) (ns : List NoteValue) (i : ℕ) (n : NoteValue) (w0 w1 w2 : Option (List ℕ)) (f0 f1 f2 : ℕ) → slice_get ns i ≡ Some n
    → WritesText (flat_map f (take i ns)) w0 w1 f0 f1 true → WritesText (f n) w1 w2 f1 f2 true → WritesText (flat_map f (take (i + 1) ns)) w0 w2 f0 f2 true
text_grows f ns i n w0 w1 w2 f0 f1 f2 at before one =
    subst (λ t. WritesText t w0 w2 f0 f2 true) (sym (text_next f ns i n at)) (writes_then (flat_map f (take i ns)) (f n) w0 w1 w2 f0 f1 f2 true before one)

pub text_fails : (f : NoteValue → List ℕ) (ns : List NoteValue) (i : ℕ) (n : NoteValue) (w0 w1 w2 : Option (List ℕ)) (f0 f1 f2 : ℕ) → slice_get ns i ≡ Some n
    → WritesText (flat_map f (take i ns)) w0 w1 f0 f1 true → WritesText (f n) w1 w2 f1 f2 false → WritesText (flat_map f ns) w0 w2 f0 f2 false
text_fails f ns i n w0 w1 w2 f0 f1 f2 at before one =
    let all : flat_map f ns ≡ flat_map f (take (i + 1) ns) ++ flat_map f (drop (i + 1) ns) = ap (flat_map f) (sym (take-append-drop (i + 1) ns)) ∙ flat-append f (take (i + 1) ns) (drop (i + 1) ns) in
    let first : WritesText (flat_map f (take (i + 1) ns)) w0 w2 f0 f2 false = subst (λ t. WritesText t w0 w2 f0 f2 false) (sym (text_next f ns i n at)) (writes_then (flat_map f (take i ns)) (f n) w0 w1 w2 f0 f1 f2 false before one) in
    subst (λ t. WritesText t w0 w2 f0 f2 false) (sym all) (writes_less (flat_map f (take (i + 1) ns)) (flat_map f (drop (i + 1) ns)) w0 w2 f0 f2 first)

module _ (held taken : ℕ → List ℕ) (ns : List NoteValue) (i : ℕ) (n : NoteValue) (w0 w1 w2 : Option (List ℕ)) (f0 f1 f2 : ℕ) (at : slice_get ns i ≡ Some n) where
  abbrev lines_of : List NoteValue → List ℕ
  lines_of zs = all_link_lines (links_of held taken zs)

  pub links_grow : WritesText (lines_of (take i ns)) w0 w1 f0 f1 true → WritesText (lines_of (n ∷ [])) w1 w2 f1 f2 true → WritesText (lines_of (take (i + 1) ns)) w0 w2 f0 f2 true
  links_grow before one =
      subst (λ t. WritesText t w0 w2 f0 f2 true) (sym (links_next held taken ns i n at)) (writes_then (lines_of (take i ns)) (lines_of (n ∷ [])) w0 w1 w2 f0 f1 f2 true before one)

  pub links_fail : WritesText (lines_of (take i ns)) w0 w1 f0 f1 true → WritesText (lines_of (n ∷ [])) w1 w2 f1 f2 false → WritesText (lines_of ns) w0 w2 f0 f2 false
  links_fail before one =
      let g : ℕ → Link = λ conn. record { conn = conn; held = length (held conn); octets = taken conn } in
      let all : lines_of ns ≡ lines_of (take (i + 1) ns) ++ lines_of (drop (i + 1) ns) =
      ap lines_of (sym (take-append-drop (i + 1) ns))
      ∙ ap (λ zs. all_link_lines (map g zs)) (gather-append accepted_by (take (i + 1) ns) (drop (i + 1) ns))
      ∙ ap all_link_lines (map-append g (gather accepted_by (take (i + 1) ns)) (gather accepted_by (drop (i + 1) ns)))
      ∙ links-append (map g (gather accepted_by (take (i + 1) ns))) (map g (gather accepted_by (drop (i + 1) ns))) in
      let first : WritesText (lines_of (take (i + 1) ns)) w0 w2 f0 f2 false = subst (λ t. WritesText t w0 w2 f0 f2 false) (sym (links_next held taken ns i n at)) (writes_then (lines_of (take i ns)) (lines_of (n ∷ [])) w0 w1 w2 f0 f1 f2 false before one) in
      subst (λ t. WritesText t w0 w2 f0 f2 false) (sym all) (writes_less (lines_of (take (i + 1) ns)) (lines_of (drop (i + 1) ns)) w0 w2 f0 f2 first)

-- ---- what is held

pub held_none : (h : HubState) (c : ℕ) → phase_at h c ≡ None → backlog_at h c ≡ []
held_none h c away = by_entry (has_entry h.entries c) refl
  where
    by_entry : (b : Bool) → has_entry h.entries c ≡ b → backlog_at h c ≡ []
    by_entry true there = absurd (let z : Some (entry_at h c).phase ≡ None = sym (ap (λ b. cond b (Some (entry_at h c).phase) None) there) ∙ away in cc)
    by_entry false none = ap (λ (e : Entry). cond (not (is_gone e.phase)) e.ring []) (none_of h.entries c none)

pub held_gone : (h : HubState) (c : ℕ) → phase_at h c ≡ Some Gone → backlog_at h c ≡ []
held_gone h c gone = ap (λ (q : Phase). cond (not (is_gone q)) (ring_at h c) []) (phase_there h c Gone gone)

pub held_there : (h : HubState) (c : ℕ) (p : Phase) → Settled h → is_gone p ≡ false → phase_at h c ≡ Some p → length (held_octets (held_at h c)) ≡ length (backlog_at h c)
held_there h c p settled stays is =
    ap (λ (l : List ℕ). length l) (settled_held h c settled)
    ∙ ap (λ (l : List ℕ). length l) (sym (ap (λ (q : Phase). cond (not (is_gone q)) (ring_at h c) []) (phase_there h c p is) ∙ ap (λ b. cond (not b) (ring_at h c) []) stays))
