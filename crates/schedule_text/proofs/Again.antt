-- What is printed is read again.
use Rattle.schedule_text.proofs.Below.{◌≡◌, ◌^◌, ◌&&◌, ℕ, true, leb, ltb, List, [], ◌∷◌, ◌++◌, Some, None, length, refl, sym, Option, Result, Ok, Err, subst, inl, inr, IfSome, result_ok, AllByRecursion, and_parts, leb-true, ltb-true, is_number, is_rising, has_arrived, can_send, is_sound, is_sound_after, are_sound_after, Act, ReadFault, IsNumber, IsTyped, HasLine, schedule_text, IsReadAgain, IsText, IsUnlessMemory}
use Rattle.link_trait.specs.declared.act.Act.TheVariants as act

number_from : (conn : ℕ) → is_number conn ≡ true → IsNumber conn
number_from conn e =
    let parts = and_parts (leb 1 conn) (ltb conn (2 ^ 32)) e in
    (leb-true _ _ parts.0, ltb-true _ _ parts.1)

has_line : (acts : List Act) (act : Act) → is_sound_after acts act ≡ true → IsTyped act → HasLine act
has_line acts (act.Arrive conn credit) e typed = (number_from conn.0 (and_parts (is_number conn.0) (is_rising acts conn.0) e).0, typed)
has_line acts (act.Octets conn octets) e typed =
    let last = and_parts (is_number conn.0 && can_send acts conn.0 && leb 1 (length octets)) (leb (length octets) 8192) e in
    let first = and_parts (is_number conn.0 && can_send acts conn.0) (leb 1 (length octets)) last.0 in
    (number_from conn.0 (and_parts (is_number conn.0) (can_send acts conn.0) first.0).0, leb-true _ _ first.1, leb-true _ _ last.1, typed)
has_line acts (act.End conn) e typed = number_from conn.0 (and_parts (is_number conn.0) (can_send acts conn.0) e).0
has_line acts (act.ReadFails conn) e typed = number_from conn.0 (and_parts (is_number conn.0) (can_send acts conn.0) e).0
has_line acts (act.Room conn more) e typed =
    let last = and_parts (is_number conn.0 && has_arrived acts conn.0) (leb 1 more) e in
    (number_from conn.0 (and_parts (is_number conn.0) (has_arrived acts conn.0) last.0).0, leb-true _ _ last.1, typed)
has_line acts (act.WriteFails conn) e typed = number_from conn.0 (and_parts (is_number conn.0) (has_arrived acts conn.0) e).0
has_line acts act.Tick e typed = tt
has_line acts act.Turn e typed = tt

have_lines : (before acts : List Act) → are_sound_after before acts ≡ true → AllByRecursion IsTyped acts → AllByRecursion HasLine acts
have_lines before [] e typed = tt
have_lines before (act ∷ acts) e typed =
    let parts = and_parts (is_sound_after before act) (are_sound_after (before ++ act ∷ []) acts) e in
    (has_line before act parts.0 typed.0, have_lines (before ++ act ∷ []) acts parts.1 typed.1)

pub read_again : (acts : List Act) → is_sound acts ≡ true → AllByRecursion IsTyped acts → IsReadAgain acts
read_again acts sound typed short = record { short = short; text = refl; lines = have_lines [] acts sound typed; sound = sound }

-- a reading of the text of acts
read_as : (acts : List Act) (result : Result (List Act) ReadFault) → IsUnlessMemory (Ok acts) result → IfSome (result_ok result) (λ again. again ≡ acts)
read_as acts (Ok others) (inl e) = cc
read_as acts (Ok others) (inr e) = absurd cc
read_as acts (Err fault) h = tt

pub reads_back : (acts : List Act) (octets : List ℕ) (result : Result (List Act) ReadFault) (again : Option (List Act)) → octets ≡ schedule_text acts → IsText (schedule_text acts) acts
    → ((others : List Act) → IsText octets others → IsUnlessMemory (Ok others) result) → again ≡ result_ok result → IfSome again (λ others. others ≡ acts)
reads_back acts octets result again e text reads is =
    subst (λ (o : Option (List Act)). IfSome o (λ others. others ≡ acts)) (sym is) (read_as acts result (reads acts (subst (λ (v : List ℕ). IsText v acts) (sym e) text)))
