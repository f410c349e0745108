-- One more octet without its mask.
use Rattle.frame_reader.proofs.Below.{◌≡◌, ℕ, ◌+◌, ◌%◌, ◌<◌, List, [], ◌∷◌, ◌++◌, length, get_or, take, drop, set, refl, ap, ◌∙◌, arith, bit_xor, drop-set-lt, take_more_set, unmasked, unmasked_turn}

pub unmasked_set : (key xs total : List ℕ) (at i : ℕ) → at < 4 → i < length xs → take i xs ++ unmasked key at (drop i xs) ≡ total
    → take (i + 1) (set xs i (bit_xor (get_or xs i 0) (get_or key at 0))) ++ unmasked key ((at + 1) % 4) (drop (i + 1) (set xs i (bit_xor (get_or xs i 0) (get_or key at 0)))) ≡ total
unmasked_set key xs total at i p lt e =
    let front : take (i + 1) (set xs i (bit_xor (get_or xs i 0) (get_or key at 0))) ≡ take i xs ++ bit_xor (get_or xs i 0) (get_or key at 0) ∷ [] = take_more_set xs i (bit_xor (get_or xs i 0) (get_or key at 0)) lt in
    let rest : drop (i + 1) (set xs i (bit_xor (get_or xs i 0) (get_or key at 0))) ≡ drop (i + 1) xs = drop-set-lt (i + 1) xs i (bit_xor (get_or xs i 0) (get_or key at 0)) (omega arith) in
    ap (λ (l : List ℕ). l ++ unmasked key ((at + 1) % 4) (drop (i + 1) (set xs i (bit_xor (get_or xs i 0) (get_or key at 0))))) front
    ∙ ap (λ (l : List ℕ). (take i xs ++ bit_xor (get_or xs i 0) (get_or key at 0) ∷ []) ++ unmasked key ((at + 1) % 4) l) rest
    ∙ unmasked_turn key xs (take i xs) total at i (get_or xs i 0) (get_or key at 0) p lt refl refl e
