-- The acts of a seed can be followed.
use Rattle.made_schedule.proofs.Below.{◌≡◌, ℕ, zero, suc, ◌+◌, ◌*◌, ◌%◌, ◌^◌, ◌<◌, ◌≤◌, ◌||◌, Bool, true, false, nat_eq, nat_lt, nat_le, List, [], ◌∷◌, ◌++◌, length, None, refl, sym, ◌∙◌, ap, arith, append_assoc, subst, ◌⊎◌, inl, inr, cases_lt, or_true, nat_tests, append-nil, list_all-append, list_any-append, list_all, Act, are_sound_after, has_arrived, has_ended, is_arrival, is_below, is_ending, is_number, is_rising, is_sound, is_sound_after, state_after, message, octets_of, sender_of, made_acts, messages, openings, room_head, round, rounds}
use Rattle.link_trait.specs.declared.act.Act.TheVariants as act

-- a sound act behind sound acts
sound_push : (before acts : List Act) (one : Act) → are_sound_after before acts ≡ true → is_sound_after (before ++ acts) one ≡ true → are_sound_after before (acts ++ one ∷ []) ≡ true
sound_push before [] one h e =
    let here : is_sound_after before one ≡ true = ap (λ l. is_sound_after l one) (sym (append-nil before)) ∙ e in
    rw here refl
sound_push before (a ∷ acts) one h e =
    let first : is_sound_after before a ≡ true = grind arith in
    let rest : are_sound_after (before ++ a ∷ []) acts ≡ true = grind arith in
    let there : is_sound_after ((before ++ a ∷ []) ++ acts) one ≡ true = ap (λ l. is_sound_after l one) (append_assoc before (a ∷ []) acts) ∙ e in
    rw (first, sound_push (before ++ a ∷ []) acts one rest there) refl

-- These acts are sound; every connection up to a number came, and none above; none has ended.
pub record IsOpenTo (last : ℕ) (acts : List Act) : Type 0 where
  pub sound : is_sound acts ≡ true
  pub came : (number : ℕ) → 1 ≤ number → number ≤ last → has_arrived acts number ≡ true
  pub above : (number : ℕ) → last < number → is_rising acts number ≡ true
  pub going_on : (number : ℕ) → has_ended acts number ≡ false

none_open : IsOpenTo 0 []
none_open = record {
  sound = refl;
  came = λ number low high. absurd (omega arith);
  above = λ number h. refl;
  going_on = λ number. refl;
}

number_is : (number : ℕ) → 1 ≤ number → number < 2 ^ 32 → is_number number ≡ true
number_is number low high = grind (arith, nat_tests)

came_by : (last number : ℕ) (b : Bool) → (number ≤ last → b ≡ true) → number ≤ suc last → (number < suc last) ⊎ (suc last ≤ number) → (b || (nat_eq (suc last) number || false)) ≡ true
came_by last number b h k (inl low) = let t : b ≡ true = h (omega arith) in rw t refl
came_by last number b h k (inr high) = let t : nat_eq (suc last) number ≡ true = grind (arith, nat_tests) in rw t (or_true b (true || false) refl)

-- the next connection comes
arrive_more : (last : ℕ) (acts : List Act) → suc last < 2 ^ 32 → IsOpenTo last acts → IsOpenTo (suc last) (acts ++ act.Arrive (record { 0 = suc last }) None ∷ [])
arrive_more last acts h o =
    let one : Act = act.Arrive (record { 0 = suc last }) None in
    let fits : is_number (suc last) ≡ true = number_is (suc last) (omega arith) h in
    let rising : is_rising acts (suc last) ≡ true = o.above (suc last) (omega arith) in
    record {
      sound = sound_push [] acts one o.sound (rw (fits, rising) refl);
      came = λ number low high. list_any-append (is_arrival number) acts (one ∷ []) ∙ came_by last number (has_arrived acts number) (λ k. o.came number low k) high (cases_lt number (suc last));
      above = λ number k. list_all-append (is_below number) acts (one ∷ []) ∙ (let b : nat_lt (suc last) number ≡ true = grind (arith, nat_tests) in rw (o.above number (omega arith), b) refl);
      going_on = λ number. list_any-append (is_ending number) acts (one ∷ []) ∙ rw (o.going_on number) refl;
    }

-- an act that is no arrival and no end
act_more : (last : ℕ) (acts : List Act) (one : Act) → is_sound_after acts one ≡ true → ((number : ℕ) → is_below number one ≡ true) → ((number : ℕ) → is_ending number one ≡ false)
    → IsOpenTo last acts → IsOpenTo last (acts ++ one ∷ [])
act_more last acts one sound below ending o = record {
  sound = sound_push [] acts one o.sound sound;
  came = λ number low high. list_any-append (is_arrival number) acts (one ∷ []) ∙ rw (o.came number low high) refl;
  above = λ number k. list_all-append (is_below number) acts (one ∷ []) ∙ rw (o.above number k, below number) refl;
  going_on = λ number. list_any-append (is_ending number) acts (one ∷ []) ∙ rw (o.going_on number, ending number) refl;
}

octets_more : (last conn : ℕ) (octets : List ℕ) (acts : List Act) → 1 ≤ conn → conn ≤ last → last < 2 ^ 32 → nat_le 1 (length octets) ≡ true → nat_le (length octets) 8192 ≡ true
    → IsOpenTo last acts → IsOpenTo last (acts ++ act.Octets (record { 0 = conn }) octets ∷ [])
octets_more last conn octets acts low high bound some few o =
    let fits : is_number conn ≡ true = number_is conn low (omega arith) in
    let there : has_arrived acts conn ≡ true = o.came conn low high in
    let going_on : has_ended acts conn ≡ false = o.going_on conn in
    act_more last acts (act.Octets (record { 0 = conn }) octets) (rw (fits, there, going_on, some, few) refl) (λ number. refl) (λ number. refl) o

turn_more : (last : ℕ) (acts : List Act) → IsOpenTo last acts → IsOpenTo last (acts ++ act.Turn ∷ [])
turn_more last acts o = act_more last acts act.Turn refl (λ number. refl) (λ number. refl) o

head_some : nat_le 1 (length room_head) ≡ true
unfolding room_head
head_some = refl

head_few : nat_le (length room_head) 8192 ≡ true
unfolding room_head
head_few = refl

openings_open : (count : ℕ) → count < 2 ^ 32 → IsOpenTo count (openings count)
unfolding openings
openings_open zero h = none_open
openings_open (suc count) h =
    let come : Act = act.Arrive (record { 0 = suc count }) None in
    let sent : Act = act.Octets (record { 0 = suc count }) room_head in
    subst (λ (l : List Act). IsOpenTo (suc count) l) (append_assoc (openings count) (come ∷ []) (sent ∷ []))
    (octets_more (suc count) (suc count) room_head (openings count ++ come ∷ []) (omega arith) (omega arith) h head_some head_few (arrive_more count (openings count) h (openings_open count (omega arith))))

octets_some : (state : ℕ) → nat_le 1 (length (octets_of state)) ≡ true
unfolding octets_of
octets_some state = refl

octets_few : (state : ℕ) → nat_le (length (octets_of state)) 8192 ≡ true
unfolding octets_of
octets_few state = refl

wraps : (n : ℕ) → n % 2 ^ 64 < 2 ^ 64
wraps n = omega arith

-- the sender is one of 64
sender_few : (state : ℕ) → state < 2 ^ 64 → sender_of state ≤ 64
sender_few state h = omega arith

message_more : (state : ℕ) (acts : List Act) → state < 2 ^ 64 → IsOpenTo 64 acts → IsOpenTo 64 (acts ++ message state ∷ [])
message_more state acts h o = octets_more 64 (sender_of state) (octets_of state) acts (omega arith) (sender_few state h) (omega arith) (octets_some state) (octets_few state) o

state_small : (steps state : ℕ) → state_after (suc steps) state < 2 ^ 64
unfolding state_after
state_small steps state = wraps _

messages_open : (count state : ℕ) (acts : List Act) → IsOpenTo 64 acts → IsOpenTo 64 (acts ++ messages count state)
unfolding messages
messages_open zero state acts o = subst (λ (l : List Act). IsOpenTo 64 l) (sym (append-nil acts)) o
messages_open (suc count) state acts o =
    subst (λ (l : List Act). IsOpenTo 64 l) (append_assoc acts (messages count state) (message (state_after (suc count) state) ∷ []))
    (message_more (state_after (suc count) state) (acts ++ messages count state) (state_small count state) (messages_open count state acts o))

round_open : (state : ℕ) (acts : List Act) → IsOpenTo 64 acts → IsOpenTo 64 (acts ++ round state)
round_open state acts o =
    subst (λ (l : List Act). IsOpenTo 64 l) (append_assoc acts (messages 16 state) (act.Turn ∷ []))
    (turn_more 64 (acts ++ messages 16 state) (messages_open 16 state acts o))

rounds_open : (count state : ℕ) (acts : List Act) → IsOpenTo 64 acts → IsOpenTo 64 (acts ++ rounds count state)
unfolding rounds
rounds_open zero state acts o = subst (λ (l : List Act). IsOpenTo 64 l) (sym (append-nil acts)) o
rounds_open (suc count) state acts o =
    subst (λ (l : List Act). IsOpenTo 64 l) (append_assoc acts (rounds count state) (round (state_after (16 * count) state)))
    (round_open (state_after (16 * count) state) (acts ++ rounds count state) (rounds_open count state acts o))

pub made_open : (seed : ℕ) → IsOpenTo 64 (made_acts seed)
made_open seed =
    subst (λ (l : List Act). IsOpenTo 64 l) (append_assoc (openings 64) (act.Turn ∷ []) (rounds 500 seed))
    (rounds_open 500 seed (openings 64 ++ act.Turn ∷ []) (turn_more 64 (openings 64) (openings_open 64 (omega arith))))
