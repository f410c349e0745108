-- What a client sent is read as it was sent.
use Rattle.wire_meaning.proofs.Below.{not, ◌==◌, IsUtf8, if◌then◌else◌, ◌≡◌, ℕ, Bool, true, false, cond, List, [], ◌∷◌, ◌++◌, length, drop, Option, None, refl, ◌∙◌, ◌<◌, ◌^◌, suc, arith, is_utf8, ne_eqb, cond_both, from_be_bytes-to_be_bytes_2, w16, to_be_bytes, is_utf8-from_IsUtf8, Text, Binary, Continuation, Begins, Close, Ping, Pong, Reserved, Event, failed, closed, closing, is_last, is_sendable, close_code, Begun, frame_front, events_from, reads, reading, Sent, sent_octets, event_of, KeepsRules}
use Rattle.wire_meaning.proofs.TextLemmas.{front_of_text}
use Rattle.wire_meaning.proofs.FrameLemmas.{reads-frame}

pub closing_last : (payload : List ℕ) → is_last (closing payload) ≡ true
closing_last payload =
    let P : Event → Type 0 = λ e. is_last e ≡ true in
    cond_both (length payload == 0) (closed 1005 []) _ P (λ _. refl) (λ _.
    cond_both (length payload == 1) (failed 1002) _ P (λ _. refl) (λ _.
    cond_both (not (is_sendable (close_code payload))) (failed 1002) _ P (λ _. refl) (λ _.
    cond_both (not (is_utf8 (drop 2 payload))) (failed 1007) (closed (close_code payload) (drop 2 payload)) P (λ _. refl) (λ _. refl))))

abbrev pub then_rest : Event → List Event → List Event
then_rest event events = event ∷ (if is_last event then [] else events)

pub whole_events : (next : Option Begun → List ℕ → List Event) (max : ℕ) (sent : Sent) (rest : List ℕ) → KeepsRules max sent
    → events_from next (frame_front None true sent.opcode true sent.payload rest) ≡ then_rest (event_of sent.opcode sent.payload) (next None rest)
whole_events next max sent rest k = by_opcode sent.opcode refl where
  by_opcode : (opcode : _) → sent.opcode ≡ opcode → events_from next (frame_front None true sent.opcode true sent.payload rest) ≡ then_rest (event_of sent.opcode sent.payload) (next None rest)
  by_opcode (Begins Text) e = let u : IsUtf8 sent.payload = k.text e in
      rw (e, ← front_of_text sent.payload u, is_utf8-from_IsUtf8 sent.payload u) refl
  by_opcode (Begins Binary) e = rw e refl
  by_opcode Ping e = rw e refl
  by_opcode Pong e = rw e refl
  by_opcode Close e = rw (e, closing_last sent.payload) refl
  by_opcode Continuation e = let a = k.allowed.in_turn in absurd (let f = rw e at a in cc)
  by_opcode Reserved e = let a = k.allowed.known in absurd (let f = rw e at a in cc)

pub reading-sent : (max : ℕ) (sent : Sent) (rest : List ℕ) → KeepsRules max sent → reading max (sent_octets sent ++ rest) ≡ then_rest (event_of sent.opcode sent.payload) (reading max rest)
reading-sent max sent rest k = reads-frame max None sent.key true sent.opcode sent.payload rest k.key k.allowed ∙ whole_events (reads max) max sent rest k

-- a close frame with a code and a reason says them
pub closing-back : (code : ℕ) (reason : List ℕ) → code < 2 ^ 16 → is_sendable code ≡ true → IsUtf8 reason → closing (to_be_bytes w16 code ++ reason) ≡ closed code reason
closing-back code reason p s u =
    let len : length (to_be_bytes w16 code ++ reason) ≡ suc (suc (length reason)) = refl in
    let code_is : close_code (to_be_bytes w16 code ++ reason) ≡ code = from_be_bytes-to_be_bytes_2 code p in
    let zero_not : (length (to_be_bytes w16 code ++ reason) == 0) ≡ false = ne_eqb (suc (suc (length reason))) 0 (omega arith) in
    let one_not : (length (to_be_bytes w16 code ++ reason) == 1) ≡ false = ne_eqb (suc (suc (length reason))) 1 (omega arith) in
    closing_parts (length (to_be_bytes w16 code ++ reason) == 0) (length (to_be_bytes w16 code ++ reason) == 1) (close_code (to_be_bytes w16 code ++ reason)) reason code zero_not one_not code_is s (is_utf8-from_IsUtf8 reason u)
  where
    closing_parts : (zero_test one_test : Bool) (read : ℕ) (reason : List ℕ) (code : ℕ) → zero_test ≡ false → one_test ≡ false → read ≡ code → is_sendable code ≡ true → is_utf8 reason ≡ true
        → cond zero_test (closed 1005 []) (cond one_test (failed 1002) (cond (not (is_sendable read)) (failed 1002) (cond (not (is_utf8 reason)) (failed 1007) (closed read reason)))) ≡ closed code reason
    closing_parts zero_test one_test read reason code z o r s u = rw (z, o, r, s, u) refl
