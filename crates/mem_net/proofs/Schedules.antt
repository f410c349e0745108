-- Lemmas on sound schedules.
use Rattle.mem_net.proofs.Below.{◌≡◌, ℕ, zero, suc, List, [], ◌∷◌, ◌++◌, ◌&&◌, ◌||◌, take, true, Some, nat_eq, nat_lt, slice_get, refl, sym, ◌∙◌, ap, arith, append_assoc, list_any, list_all, append-nil, flat_map-append, is_rising, has_arrived, is_sound_after, are_sound_after, is_sound, arrives_by, arrivals, Act, Rises}
use Rattle.link_trait.specs.declared.act.Act.TheVariants as act
use Rattle.mem_net.proofs.Places.{Rises-push}

-- the act at a place is sound after those before it
pub sound_from : (before acts : List Act) (i : ℕ) (one : Act) → are_sound_after before acts ≡ true → slice_get acts i ≡ Some one → is_sound_after (before ++ take i acts) one ≡ true
sound_from before [] i one h e = cc
sound_from before (a ∷ acts) zero one h e =
    let same : a ≡ one = grind arith in
    let here : is_sound_after before a ≡ true = grind arith in
    rw (append-nil before) (rw (← same) here)
sound_from before (a ∷ acts) (suc i) one h e =
    let rest : are_sound_after (before ++ a ∷ []) acts ≡ true = grind arith in
    let found : is_sound_after ((before ++ a ∷ []) ++ take i acts) one ≡ true = sound_from (before ++ a ∷ []) acts i one rest e in
    ap (λ l. is_sound_after l one) (sym (append_assoc before (a ∷ []) (take i acts))) ∙ found

pub sound_at : (acts : List Act) (i : ℕ) (one : Act) → is_sound acts ≡ true → slice_get acts i ≡ Some one → is_sound_after (take i acts) one ≡ true
sound_at acts i one h e = sound_from [] acts i one h e

-- whether a connection arrives shows in the list of arrivals
pub arrived : (acts : List Act) (c : ℕ) → list_any (λ number. nat_eq number c) (arrivals acts) ≡ has_arrived acts c
arrived [] c = refl
arrived (act.Arrive conn credit ∷ acts) c = ap (λ x. nat_eq conn.0 c || x) (arrived acts c)
arrived (act.Octets conn octets ∷ acts) c = arrived acts c
arrived (act.End conn ∷ acts) c = arrived acts c
arrived (act.ReadFails conn ∷ acts) c = arrived acts c
arrived (act.Room conn more ∷ acts) c = arrived acts c
arrived (act.WriteFails conn ∷ acts) c = arrived acts c
arrived (act.Tick ∷ acts) c = arrived acts c
arrived (act.Turn ∷ acts) c = arrived acts c

pub below : (acts : List Act) (c : ℕ) → list_all (λ number. nat_lt number c) (arrivals acts) ≡ is_rising acts c
below [] c = refl
below (act.Arrive conn credit ∷ acts) c = ap (λ x. nat_lt conn.0 c && x) (below acts c)
below (act.Octets conn octets ∷ acts) c = below acts c
below (act.End conn ∷ acts) c = below acts c
below (act.ReadFails conn ∷ acts) c = below acts c
below (act.Room conn more ∷ acts) c = below acts c
below (act.WriteFails conn ∷ acts) c = below acts c
below (act.Tick ∷ acts) c = below acts c
below (act.Turn ∷ acts) c = below acts c

-- one act more keeps the arrivals rising
pub rises_with : (before : List Act) (one : Act) → Rises (arrivals before) → is_sound_after before one ≡ true → Rises (arrivals before ++ arrives_by one)
rises_with before (act.Arrive conn credit) r h =
    let rising : is_rising before conn.0 ≡ true = grind arith in
    Rises-push (arrivals before) conn.0 r (below before conn.0 ∙ rising)
rises_with before (act.Octets conn octets) r h = rw (append-nil (arrivals before)) r
rises_with before (act.End conn) r h = rw (append-nil (arrivals before)) r
rises_with before (act.ReadFails conn) r h = rw (append-nil (arrivals before)) r
rises_with before (act.Room conn more) r h = rw (append-nil (arrivals before)) r
rises_with before (act.WriteFails conn) r h = rw (append-nil (arrivals before)) r
rises_with before act.Tick r h = rw (append-nil (arrivals before)) r
rises_with before act.Turn r h = rw (append-nil (arrivals before)) r

pub rises_from : (before acts : List Act) → Rises (arrivals before) → are_sound_after before acts ≡ true → Rises (arrivals (before ++ acts))
rises_from before [] r h = rw (append-nil before) r
rises_from before (a ∷ acts) r h =
    let here : is_sound_after before a ≡ true = grind arith in
    let rest : are_sound_after (before ++ a ∷ []) acts ≡ true = grind arith in
    let one : arrivals (before ++ a ∷ []) ≡ arrivals before ++ arrives_by a = flat_map-append arrives_by before (a ∷ []) ∙ ap (λ l. arrivals before ++ l) (append-nil (arrives_by a)) in
    let more : Rises (arrivals (before ++ a ∷ [])) = rw one (rises_with before a r here) in
    rw (← (append_assoc before (a ∷ []) acts)) (rises_from (before ++ a ∷ []) acts more rest)

-- the connections of a sound schedule arrive with rising numbers
pub sound_rises : (acts : List Act) → is_sound acts ≡ true → Rises (arrivals acts)
sound_rises acts h = rises_from [] acts tt h
