-- What a reader tells at the end of the payload that came.
use Rattle.frame_reader.proofs.Below.{not, ◌≡◌, ℕ, ◌-◌, ◌<◌, Bool, true, false, ◌&&◌, List, [], ◌∷◌, ◌++◌, length, take, drop, length-drop, Some, None, refl, sym, ap, ◌∙◌, arith, drop_at, take_all, is_utf8, is_text_front, failed, is_text, events_from, reads, DataFrame, Kind, State, InDataFrame, Middle, middle_front, middle_of, coming}
use Rattle.frame_reader.proofs.MiddleLemmas.{bad_fails}

-- what comes in a frame
pub coming_in_frame : (max : ℕ) (state : State) (kind : Kind) (frame : DataFrame) (all octets : List ℕ) → state ≡ InDataFrame kind frame
    → coming max state all octets ≡ events_from (reads max) (middle_front (middle_of kind frame all) octets)
coming_in_frame max state kind frame all octets e = ap (λ s. coming max s all octets) e

pub text_fails : (max : ℕ) (m : Middle) (octets : List ℕ) → (is_text m.kind && not (is_text_front m.all)) ≡ true → events_from (reads max) (middle_front m octets) ≡ failed 1007 ∷ []
text_fails max m octets e = ap (events_from (reads max)) (bad_fails m octets e)

-- what stands behind the octets that were held
pub held_and_rest : (old part new seen : List ℕ) (held : ℕ) → new ≡ old ++ part → held ≡ length old → seen ≡ new → old ++ take (length seen - held) (drop held seen) ≡ new
held_and_rest old part new seen held n h s =
    let behind : drop held seen ≡ part = ap (drop held) (s ∙ n) ∙ drop_at old part held (sym h) in
    let rest : take (length seen - held) (drop held seen) ≡ drop held seen = take_all (length seen - held) (drop held seen) (omega (arith, length-drop held seen)) in
    ap (λ (l : List ℕ). old ++ l) (rest ∙ behind) ∙ sym n

pub text_test : (kind : Kind) (one two : List ℕ) (answer : Bool) → one ≡ two → (is_text kind && not (is_text_front one)) ≡ answer → (is_text kind && not (is_text_front two)) ≡ answer
text_test kind one two answer same e = ap (λ (l : List ℕ). is_text kind && not (is_text_front l)) (sym same) ∙ e
