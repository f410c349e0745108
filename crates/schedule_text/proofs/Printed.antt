-- A schedule that is printed act by act.
use Rattle.schedule_text.proofs.Below.{◌≡◌, ℕ, suc, ◌+◌, ◌<◌, List, [], ◌∷◌, ◌++◌, Option, true, length, get_or, take, drop, sym, ap, subst, ◌∙◌, append_assoc, flat_map, AllByRecursion, take_more, Act, IsTyped, header, schedule_text, spelled, Puts, Fails, WritesText}
use Rattle.schedule_text.proofs.Outputs.{fails_more, puts_fails, puts_then, put_whole, flat_map_next, flat_map_parted}

-- one more act is printed
text_next : (acts : List Act) (i : ℕ) (act : Act) → i < length acts → act ≡ get_or acts i act → schedule_text (take i acts) ++ spelled act ≡ schedule_text (take (i + 1) acts)
text_next acts i act h e = append_assoc header (flat_map spelled (take i acts)) (spelled act) ∙ ap (λ (v : List ℕ). header ++ v) (ap (λ (a : Act). flat_map spelled (take i acts) ++ spelled a) e ∙ flat_map_next spelled acts i act h)

text_parted : (acts : List Act) (i : ℕ) → schedule_text (take i acts) ++ flat_map spelled (drop i acts) ≡ schedule_text acts
text_parted acts i = append_assoc header (flat_map spelled (take i acts)) (flat_map spelled (drop i acts)) ∙ ap (λ (v : List ℕ). header ++ v) (flat_map_parted spelled acts i)

pub prints_next : (acts : List Act) (i : ℕ) (w0 w1 w2 : Option (List ℕ)) (f0 f1 f2 : ℕ) (act : Act) → i < length acts → act ≡ get_or acts i act → Puts (schedule_text (take i acts)) [] [] w0 w1 f0 f1 → WritesText (spelled act) w1 w2 f1 f2 true → Puts (schedule_text (take (i + 1) acts)) [] [] w0 w2 f0 f2
prints_next acts i w0 w1 w2 f0 f1 f2 act h e p q = subst (λ (text : List ℕ). Puts text [] [] w0 w2 f0 f2) (text_next acts i act h e) (puts_then p (put_whole (spelled act) w1 w2 f1 f2 q))

pub prints_part : (acts : List Act) (i : ℕ) (w0 w1 w2 : Option (List ℕ)) (f0 f1 f2 : ℕ) (act : Act) → i < length acts → act ≡ get_or acts i act → Puts (schedule_text (take i acts)) [] [] w0 w1 f0 f1 → Fails (spelled act) [] w1 w2 f1 f2 → Fails (schedule_text acts) [] w0 w2 f0 f2
prints_part acts i w0 w1 w2 f0 f1 f2 act h e p q =
    subst (λ (text : List ℕ). Fails text [] w0 w2 f0 f2) (ap (λ (text : List ℕ). text ++ flat_map spelled (drop (i + 1) acts)) (text_next acts i act h e) ∙ text_parted acts (i + 1))
    (fails_more (flat_map spelled (drop (i + 1) acts)) (puts_fails p q))

-- and what it sends is octets
typed_more : (xs : List Act) (act : Act) → AllByRecursion IsTyped xs → IsTyped act → AllByRecursion IsTyped (xs ++ act ∷ [])
typed_more [] act h k = (k, tt)
typed_more (x ∷ xs) act h k = (h.0, typed_more xs act h.1 k)

pub typed_next : (acts : List Act) (i : ℕ) (act : Act) → i < length acts → act ≡ get_or acts i act → AllByRecursion IsTyped (take i acts) → IsTyped act → AllByRecursion IsTyped (take (i + 1) acts)
typed_next acts i act h e p q = subst (AllByRecursion IsTyped) (ap (λ (a : Act). take i acts ++ a ∷ []) e ∙ sym (take_more acts i act h)) (typed_more (take i acts) act p q)
