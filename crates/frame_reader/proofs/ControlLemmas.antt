-- Control frames.
use Rattle.frame_reader.proofs.Below.{◌==◌, ◌≡◌, ℕ, ◌+◌, ◌-◌, ◌<◌, ◌≤◌, Bool, true, false, List, [], ◌∷◌, ◌++◌, length, take, drop, Option, Some, None, refl, sym, ap, ◌∙◌, append_assoc, arith, rules, length-drop, length-append, length-take, eq-eqb, ne_eqb, same_lists, places, drop-drop, append-nil, take-append-le, drop-append-le, length-take-le, drop_at, take_at, Opcode, Continuation, Begins, Close, Ping, Pong, Reserved, unmasked, ping, pong, closed, closing, Begun, more, ends, gives, is_control, frame_front, events_from, reads, length-unmasked, FrameHeader, EventSpan, behind, IsHeader, last, span_event, lent_of, is_last, CloseIs}
use Rattle.frame_reader.specs.declared.reader.EventSpan.TheVariants as span
use Rattle.frame_reader.proofs.EnterLemmas.{behind_header}

-- ---- a control frame that is not whole

control_waits : (begun : Option Begun) (final : Bool) (op : Opcode) (whole : Bool) (payload rest : List ℕ) → is_control op ≡ true → whole ≡ false → frame_front begun final op whole payload rest ≡ more
control_waits None final Ping whole payload rest c e = rw e refl
control_waits None final Pong whole payload rest c e = rw e refl
control_waits None final Close whole payload rest c e = rw e refl
control_waits (Some begun) final Ping whole payload rest c e = rw e refl
control_waits (Some begun) final Pong whole payload rest c e = rw e refl
control_waits (Some begun) final Close whole payload rest c e = rw e refl
control_waits None final Continuation whole payload rest c e = absurd cc
control_waits None final (Begins kind) whole payload rest c e = absurd cc
control_waits None final Reserved whole payload rest c e = absurd cc
control_waits (Some begun) final Continuation whole payload rest c e = absurd cc
control_waits (Some begun) final (Begins kind) whole payload rest c e = absurd cc
control_waits (Some begun) final Reserved whole payload rest c e = absurd cc

pub payload_awaited : (max : ℕ) (begun : Option Begun) (items : List ℕ) (start : ℕ) (h : FrameHeader) → IsHeader max begun (drop start items) h → is_control h.opcode ≡ true → length items < start + h.length + h.size
    → reads max begun (drop start items ++ []) ≡ []
payload_awaited max begun items start h is c short =
    let part : List ℕ = drop (start + h.length) items ++ [] in
    let n : length (drop (start + h.length) items ++ []) ≡ length items - (start + h.length) = ap length (append-nil (drop (start + h.length) items)) ∙ length-drop (start + h.length) items in
    let some = is.some in
    let test : (length (take h.size (drop (start + h.length) items ++ [])) == h.size) ≡ false =
    ne_eqb (length (take h.size (drop (start + h.length) items ++ []))) h.size (λ e. absurd (omega (arith, length-take h.size (drop (start + h.length) items ++ []), is.within, length-drop start items))) in
    behind_header max begun items start h is []
    ∙ ap (events_from (reads max)) (control_waits begun h.is_final h.opcode (length (take h.size (drop (start + h.length) items ++ [])) == h.size) (unmasked h.key 0 (take h.size (drop (start + h.length) items ++ []))) (drop h.size (drop (start + h.length) items ++ [])) c test)

-- ---- a control frame that is whole

whole_behind : (begun : Option Begun) (h : FrameHeader) (part behind_it : List ℕ) → h.size ≤ length part
    → behind begun h (part ++ behind_it) ≡ frame_front begun h.is_final h.opcode true (unmasked h.key 0 (take h.size part)) (drop h.size part ++ behind_it)
whole_behind begun h part behind_it n =
    let t : take h.size (part ++ behind_it) ≡ take h.size part = take-append-le h.size part behind_it n in
    let d : drop h.size (part ++ behind_it) ≡ drop h.size part ++ behind_it = drop-append-le h.size part behind_it n in
    let test : (length (take h.size part) == h.size) ≡ true = eq-eqb (length (take h.size part)) h.size (length-take-le h.size part n) in
    ap (λ (l : List ℕ). frame_front begun h.is_final h.opcode (length l == h.size) (unmasked h.key 0 l) (drop h.size (part ++ behind_it))) t
    ∙ ap (frame_front begun h.is_final h.opcode (length (take h.size part) == h.size) (unmasked h.key 0 (take h.size part))) d
    ∙ ap (λ b. frame_front begun h.is_final h.opcode b (unmasked h.key 0 (take h.size part)) (drop h.size part ++ behind_it)) test

-- what the frame at the front gives, by its payload without the mask
pub payload_there : (max : ℕ) (begun : Option Begun) (items : List ℕ) (start : ℕ) (h : FrameHeader) → IsHeader max begun (drop start items) h → start + h.length + h.size ≤ length items → (behind_it : List ℕ)
    → reads max begun (drop start items ++ behind_it)
    ≡ events_from (reads max) (frame_front begun h.is_final h.opcode true (unmasked h.key 0 (take h.size (drop (start + h.length) items))) (drop (start + h.length + h.size) items ++ behind_it))
payload_there max begun items start h is n behind_it =
    behind_header max begun items start h is behind_it
    ∙ ap (events_from (reads max)) (whole_behind begun h (drop (start + h.length) items) behind_it (omega (arith, length-drop (start + h.length) items))
    ∙ ap (λ (l : List ℕ). frame_front begun h.is_final h.opcode true (unmasked h.key 0 (take h.size (drop (start + h.length) items))) (l ++ behind_it)) (drop-drop h.size (start + h.length) items))

ping_front : (begun : Option Begun) (final : Bool) (payload rest : List ℕ) → frame_front begun final Ping true payload rest ≡ gives (ping payload) begun rest
ping_front None final payload rest = refl
ping_front (Some begun) final payload rest = refl

pong_front : (begun : Option Begun) (final : Bool) (payload rest : List ℕ) → frame_front begun final Pong true payload rest ≡ gives (pong payload) begun rest
pong_front None final payload rest = refl
pong_front (Some begun) final payload rest = refl

close_front : (begun : Option Begun) (final : Bool) (payload rest : List ℕ) → frame_front begun final Close true payload rest ≡ ends (closing payload)
close_front None final payload rest = refl
close_front (Some begun) final payload rest = refl

-- ---- the octets after the payload lost its mask

pub record IsUnmaskedPart (key items items' : List ℕ) (from size : ℕ) : Type 0 where
  pub payload : last size (from + size) items' ≡ unmasked key 0 (take size (drop from items))
  pub rest : drop (from + size) items' ≡ drop (from + size) items
  pub front : take (from + size - from) (drop from items') ≡ unmasked key 0 (take size (drop from items))
  pub long : length items' ≡ length items

pub unmasked_part : (key items items' : List ℕ) (from size : ℕ) → from + size ≤ length items
    → items' ≡ take from items ++ (unmasked key 0 (take (from + size - from) (drop from items)) ++ drop (from + size) items) → IsUnmaskedPart key items items' from size
unmasked_part key items items' from size n e =
    let a : List ℕ = take from items in
    let b : List ℕ = unmasked key 0 (take size (drop from items)) in
    let c : List ℕ = drop (from + size) items in
    let span : from + size - from ≡ size = omega arith in
    let long_a : length (take from items) ≡ from = length-take-le from items (omega arith) in
    let long_b : length (unmasked key 0 (take size (drop from items))) ≡ size = length-unmasked key 0 (take size (drop from items)) ∙ length-take-le size (drop from items) (omega (arith, length-drop from items)) in
    let parts : items' ≡ take from items ++ (unmasked key 0 (take size (drop from items)) ++ drop (from + size) items) =
    e ∙ ap (λ (k : ℕ). take from items ++ (unmasked key 0 (take k (drop from items)) ++ drop (from + size) items)) span in
    let joined : items' ≡ (take from items ++ unmasked key 0 (take size (drop from items))) ++ drop (from + size) items = parts ∙ sym (append_assoc (take from items) (unmasked key 0 (take size (drop from items))) (drop (from + size) items)) in
    let both : length (take from items ++ unmasked key 0 (take size (drop from items))) ≡ from + size = length-append (take from items) (unmasked key 0 (take size (drop from items))) ∙ omega arith in
    let taken : take (from + size) items' ≡ take from items ++ unmasked key 0 (take size (drop from items)) = ap (take (from + size)) joined ∙ take_at (take from items ++ unmasked key 0 (take size (drop from items))) (drop (from + size) items) (from + size) both in
    record {
      payload = ap (λ (k : ℕ). drop k (take (from + size) items')) (omega arith) ∙ ap (drop from) taken ∙ drop_at (take from items) (unmasked key 0 (take size (drop from items))) from long_a;
      rest = ap (drop (from + size)) joined ∙ drop_at (take from items ++ unmasked key 0 (take size (drop from items))) (drop (from + size) items) (from + size) both;
      front = ap (λ (k : ℕ). take k (drop from items')) span
          ∙ ap (take size) (ap (drop from) parts ∙ drop_at (take from items) (unmasked key 0 (take size (drop from items)) ++ drop (from + size) items) from long_a)
          ∙ take_at (unmasked key 0 (take size (drop from items))) (drop (from + size) items) size long_b;
      long = ap length joined ∙ length-append (take from items ++ unmasked key 0 (take size (drop from items))) (drop (from + size) items) ∙ omega (arith, length-drop (from + size) items);
    }

pub pings : (max : ℕ) (begun : Option Begun) (items items' : List ℕ) (start : ℕ) (h : FrameHeader) → IsHeader max begun (drop start items) h → start + h.length + h.size ≤ length items → h.opcode ≡ Ping
    → IsUnmaskedPart h.key items items' (start + h.length) h.size → (behind_it : List ℕ)
    → reads max begun (drop start items ++ behind_it) ≡ ping (last h.size (start + h.length + h.size) items') ∷ reads max begun (drop (start + h.length + h.size) items' ++ behind_it)
pings max begun items items' start h is n o u behind_it =
    payload_there max begun items start h is n behind_it
    ∙ ap (λ op. events_from (reads max) (frame_front begun h.is_final op true (unmasked h.key 0 (take h.size (drop (start + h.length) items))) (drop (start + h.length + h.size) items ++ behind_it))) o
    ∙ ap (events_from (reads max)) (ping_front begun h.is_final (unmasked h.key 0 (take h.size (drop (start + h.length) items))) (drop (start + h.length + h.size) items ++ behind_it))
    ∙ ap (λ (l : List ℕ). ping l ∷ reads max begun (drop (start + h.length + h.size) items ++ behind_it)) (sym u.payload)
    ∙ ap (λ (l : List ℕ). ping (last h.size (start + h.length + h.size) items') ∷ reads max begun (l ++ behind_it)) (sym u.rest)

pub pongs : (max : ℕ) (begun : Option Begun) (items items' : List ℕ) (start : ℕ) (h : FrameHeader) → IsHeader max begun (drop start items) h → start + h.length + h.size ≤ length items → h.opcode ≡ Pong
    → IsUnmaskedPart h.key items items' (start + h.length) h.size → (behind_it : List ℕ)
    → reads max begun (drop start items ++ behind_it) ≡ pong (last h.size (start + h.length + h.size) items') ∷ reads max begun (drop (start + h.length + h.size) items' ++ behind_it)
pongs max begun items items' start h is n o u behind_it =
    payload_there max begun items start h is n behind_it
    ∙ ap (λ op. events_from (reads max) (frame_front begun h.is_final op true (unmasked h.key 0 (take h.size (drop (start + h.length) items))) (drop (start + h.length + h.size) items ++ behind_it))) o
    ∙ ap (events_from (reads max)) (pong_front begun h.is_final (unmasked h.key 0 (take h.size (drop (start + h.length) items))) (drop (start + h.length + h.size) items ++ behind_it))
    ∙ ap (λ (l : List ℕ). pong l ∷ reads max begun (drop (start + h.length + h.size) items ++ behind_it)) (sym u.payload)
    ∙ ap (λ (l : List ℕ). pong (last h.size (start + h.length + h.size) items') ∷ reads max begun (l ++ behind_it)) (sym u.rest)

close_of_rest : (op : Opcode) → is_control op ≡ true → (op ≡ Ping → ⊥) → (op ≡ Pong → ⊥) → op ≡ Close
close_of_rest Close c p q = refl
close_of_rest Ping c p q = absurd (p refl)
close_of_rest Pong c p q = absurd (q refl)
close_of_rest Continuation c p q = absurd cc
close_of_rest (Begins kind) c p q = absurd cc
close_of_rest Reserved c p q = absurd cc

pub closes : (max : ℕ) (begun : Option Begun) (items items' : List ℕ) (start : ℕ) (h : FrameHeader) → IsHeader max begun (drop start items) h → start + h.length + h.size ≤ length items
    → is_control h.opcode ≡ true → (h.opcode ≡ Ping → ⊥) → (h.opcode ≡ Pong → ⊥)
    → IsUnmaskedPart h.key items items' (start + h.length) h.size → (behind_it : List ℕ)
    → reads max begun (drop start items ++ behind_it) ≡ closing (take (start + h.length + h.size - (start + h.length)) (drop (start + h.length) items')) ∷ []
closes max begun items items' start h is n c p q u behind_it =
    payload_there max begun items start h is n behind_it
    ∙ ap (λ op. events_from (reads max) (frame_front begun h.is_final op true (unmasked h.key 0 (take h.size (drop (start + h.length) items))) (drop (start + h.length + h.size) items ++ behind_it))) (close_of_rest h.opcode c p q)
    ∙ ap (events_from (reads max)) (close_front begun h.is_final (unmasked h.key 0 (take h.size (drop (start + h.length) items))) (drop (start + h.length + h.size) items ++ behind_it))
    ∙ ap (λ (l : List ℕ). closing l ∷ []) (sym u.front)

part_of : (xs : List ℕ) (from to : ℕ) → from ≤ to → to ≤ length xs → drop from (take to xs) ≡ take (to - from) (drop from xs)
part_of xs from to p q = same_lists _ _ (search (rules, places)) (λ i d below. grind (arith, places))

-- the event that a close tells, by the octets of its reason among the raw ones
pub close_event : (t : EventSpan) (items' : List ℕ) (from to : ℕ) → from ≤ to → to ≤ length items' → CloseIs t (take (to - from) (drop from items')) → (message : List ℕ)
    → (closing (take (to - from) (drop from items')) ≡ span_event t to items' message) × (lent_of t ≤ to) × (is_last t ≡ true)
close_event (span.Close code size) items' from to p q (n, e) message =
    let long : length (take (to - from) (drop from items')) ≡ to - from = length-take-le (to - from) (drop from items') (omega (arith, length-drop from items')) in
    let part : take (to - from) (drop from items') ≡ drop from (take to items') = sym (part_of items' from to p q) in
    let reason : drop (length (take (to - from) (drop from items')) - size) (take (to - from) (drop from items')) ≡ last size to items' =
    ap (λ (k : ℕ). drop (k - size) (take (to - from) (drop from items'))) long
    ∙ ap (drop (to - from - size)) part ∙ drop-drop (to - from - size) from (take to items') ∙ ap (λ (k : ℕ). drop k (take to items')) (omega arith) in
    (e ∙ ap (closed code) reason, omega arith, refl)
close_event (span.Failed code) items' from to p q e message = (e, omega arith, refl)
close_event (span.Message kind) items' from to p q e message = absurd e
close_event (span.Ping size) items' from to p q e message = absurd e
close_event (span.Pong size) items' from to p q e message = absurd e
