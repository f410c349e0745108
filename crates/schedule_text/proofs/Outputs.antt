-- Text that is put to a sink in several calls.
use Rattle.schedule_text.proofs.Below.{◌≡◌, ℕ, ◌+◌, ◌/◌, ◌%◌, ◌<◌, length, get_or, take, drop, List, [], ◌∷◌, ◌++◌, Option, Some, None, true, Result, Ok, Err, map, refl, sym, ap, subst, ◌∙◌, append_assoc, arith, inl, inr, IsErr, decimal, flat_map, Appends, append-nil, take_more, take-append-drop, SinkFault, Last, hex, hex_digit, line, rest_of_line, Puts, Fails, PutsOrFails, WritesText, last_part, last_text, parts, tells_then}
use Rattle.schedule_text.specs.declared.output.Last.TheVariants as last

pub appends_then : (xs ys zs : Option (List ℕ)) (a b : List ℕ) → Appends xs ys a → Appends ys zs b → Appends xs zs (a ++ b)
appends_then None ys zs a b h k = tt
appends_then (Some x) None zs a b h k = absurd h
appends_then (Some x) (Some y) None a b h k = absurd k
appends_then (Some x) (Some y) (Some z) a b h k = k ∙ ap (λ (v : List ℕ). v ++ b) h ∙ append_assoc x a b

pub puts_then : {s t b0 b1 b2 : List ℕ} {w0 w1 w2 : Option (List ℕ)} {f0 f1 f2 : ℕ} → Puts s b0 b1 w0 w1 f0 f1 → Puts t b1 b2 w1 w2 f1 f2 → Puts (s ++ t) b0 b2 w0 w2 f0 f2
puts_then {s} {t} {b0} {b1} {b2} {w0} {w1} {w2} p q = record {
  sent = p.sent ++ q.sent;
  held = sym (append_assoc b0 s t) ∙ ap (λ (v : List ℕ). v ++ t) p.held ∙ append_assoc p.sent b1 t ∙ ap (λ (v : List ℕ). p.sent ++ v) q.held ∙ sym (append_assoc p.sent q.sent b2);
  written = appends_then w0 w1 w2 p.sent q.sent p.written q.written;
  tells = tells_then w0 w1 w2 p.tells q.tells;
  faults = q.faults ∙ p.faults;
}

pub fails_more : {s b : List ℕ} {w0 w1 : Option (List ℕ)} {f0 f1 : ℕ} (t : List ℕ) → Fails s b w0 w1 f0 f1 → Fails (s ++ t) b w0 w1 f0 f1
fails_more {s} {b} t p =
    let (taken, rest, parted, written) = p.written in
    record {
      written = (taken, rest ++ t, sym (append_assoc b s t) ∙ ap (λ (v : List ℕ). v ++ t) parted ∙ append_assoc taken rest t, written);
      tells = p.tells;
      later = p.later;
      cause = p.cause;
    }

pub puts_fails : {s t b0 b1 : List ℕ} {w0 w1 w2 : Option (List ℕ)} {f0 f1 f2 : ℕ} → Puts s b0 b1 w0 w1 f0 f1 → Fails t b1 w1 w2 f1 f2 → Fails (s ++ t) b0 w0 w2 f0 f2
puts_fails {s} {t} {b0} {b1} {w0} {w1} {w2} p q =
    let (taken, rest, parted, written) = q.written in
    record {
      written = (p.sent ++ taken, rest, sym (append_assoc b0 s t) ∙ ap (λ (v : List ℕ). v ++ t) p.held ∙ append_assoc p.sent b1 t ∙ ap (λ (v : List ℕ). p.sent ++ v) parted ∙ sym (append_assoc p.sent taken rest), appends_then w0 w1 w2 p.sent taken p.written written);
      tells = tells_then w0 w1 w2 p.tells q.tells;
      later = omega (arith, p.faults, q.later);
      cause = elim q.cause [ inl h ↦ inl (omega (arith, p.faults)) | inr h ↦ inr h ];
    }

-- one call after another
pub then : {s b0 b1 : List ℕ} {w0 w1 : Option (List ℕ)} {f0 f1 : ℕ} (t b2 : List ℕ) (w2 : Option (List ℕ)) (f2 : ℕ) (r : Result (Unit {0}) SinkFault) → Puts s b0 b1 w0 w1 f0 f1 → PutsOrFails t b1 b2 w1 w2 f1 f2 r → PutsOrFails (s ++ t) b0 b2 w0 w2 f0 f2 r
then t b2 w2 f2 (Ok x) p q = puts_then p q
then t b2 w2 f2 (Err e) p q = puts_fails p q

-- the exit at a fault
pub exit : {s b0 : List ℕ} {w0 w1 : Option (List ℕ)} {f0 f1 : ℕ} (b1 : List ℕ) (r : Result (Unit {0}) SinkFault) → IsErr r → Fails s b0 w0 w1 f0 f1 → PutsOrFails s b0 b1 w0 w1 f0 f1 r
exit b1 (Ok x) h p = absurd cc
exit b1 (Err e) h p = p

-- and before more was put
pub exit_before : {s b0 : List ℕ} {w0 w1 : Option (List ℕ)} {f0 f1 : ℕ} (t b1 : List ℕ) (r : Result (Unit {0}) SinkFault) → IsErr r → Fails s b0 w0 w1 f0 f1 → PutsOrFails (s ++ t) b0 b1 w0 w1 f0 f1 r
exit_before t b1 r h p = exit b1 r h (fails_more t p)

-- a whole text as one that was put, and back
pub put_whole : (text : List ℕ) (w0 w1 : Option (List ℕ)) (f0 f1 : ℕ) → WritesText text w0 w1 f0 f1 true → Puts text [] [] w0 w1 f0 f1
put_whole text w0 w1 f0 f1 p = record { sent = text; held = sym (append-nil text); written = p.0; tells = p.1; faults = p.2 }

-- the parts of a line, as they are put
rest_of_last : (last : Last) → rest_of_line (last_part last) ≡ last_text last ++ 10 ∷ []
rest_of_last last.Nothing = refl
rest_of_last (last.Word word) = refl
rest_of_last (last.Hex octets) = refl

rest_of_numbers : (numbers : List ℕ) (others : List (List ℕ)) → rest_of_line (map decimal numbers ++ others) ≡ flat_map (λ number. 32 ∷ decimal number) numbers ++ rest_of_line others
rest_of_numbers [] others = refl
rest_of_numbers (number ∷ numbers) others = ap (λ (v : List ℕ). (32 ∷ decimal number) ++ v) (rest_of_numbers numbers others) ∙ sym (append_assoc (32 ∷ decimal number) (flat_map (λ number. 32 ∷ decimal number) numbers) (rest_of_line others))

-- the text of a line, in the order in which it is put
pub line_text : (word : List ℕ) (numbers : List ℕ) (last : Last) → word ++ (flat_map (λ number. 32 ∷ decimal number) numbers ++ (last_text last ++ 10 ∷ [])) ≡ line (parts word numbers (last_part last))
line_text word numbers last = sym (ap (λ (v : List ℕ). word ++ v) (rest_of_numbers numbers (last_part last) ∙ ap (λ (v : List ℕ). flat_map (λ number. 32 ∷ decimal number) numbers ++ v) (rest_of_last last)))

-- each item in turn
pub flat_map_more : {A : Type 0} (f : A → List ℕ) (xs ys : List A) → flat_map f (xs ++ ys) ≡ flat_map f xs ++ flat_map f ys
flat_map_more f [] ys = refl
flat_map_more f (x ∷ xs) ys = ap (λ (v : List ℕ). f x ++ v) (flat_map_more f xs ys) ∙ sym (append_assoc (f x) (flat_map f xs) (flat_map f ys))

pub flat_map_next : {A : Type 0} (f : A → List ℕ) (xs : List A) (i : ℕ) (d : A) → i < length xs → flat_map f (take i xs) ++ f (get_or xs i d) ≡ flat_map f (take (i + 1) xs)
flat_map_next f xs i d h = sym (ap (flat_map f) (take_more xs i d h) ∙ flat_map_more f (take i xs) (get_or xs i d ∷ []) ∙ ap (λ (v : List ℕ). flat_map f (take i xs) ++ v) (append-nil (f (get_or xs i d))))

pub flat_map_parted : {A : Type 0} (f : A → List ℕ) (xs : List A) (i : ℕ) → flat_map f (take i xs) ++ flat_map f (drop i xs) ≡ flat_map f xs
flat_map_parted f xs i = sym (flat_map_more f (take i xs) (drop i xs)) ∙ ap (flat_map f) (take-append-drop i xs)

pub hex_flat : (octets : List ℕ) → hex octets ≡ flat_map (λ octet. hex_digit (octet / 16) ∷ hex_digit (octet % 16) ∷ []) octets
hex_flat [] = refl
hex_flat (octet ∷ octets) = ap (λ (v : List ℕ). hex_digit (octet / 16) ∷ hex_digit (octet % 16) ∷ v) (hex_flat octets)

pub hex_next : (xs : List ℕ) (i : ℕ) → i < length xs → hex (take i xs) ++ (hex_digit (get_or xs i 0 / 16) ∷ hex_digit (get_or xs i 0 % 16) ∷ []) ≡ hex (take (i + 1) xs)
hex_next xs i h = rw (hex_flat (take i xs), hex_flat (take (i + 1) xs)) (flat_map_next (λ octet. hex_digit (octet / 16) ∷ hex_digit (octet % 16) ∷ []) xs i 0 h)

pub hex_parted : (xs : List ℕ) (i : ℕ) → hex (take i xs) ++ hex (drop i xs) ≡ hex xs
hex_parted xs i = rw (hex_flat (take i xs), hex_flat (drop i xs), hex_flat xs) (flat_map_parted (λ octet. hex_digit (octet / 16) ∷ hex_digit (octet % 16) ∷ []) xs i)
