-- An item that is put is one of those that a server sends.
use Rattle.hub_core.proofs.Below.{◌≡◌, ℕ, ◌++◌, true, false, not, ◌==◌, IsTrue, length, refl, sym, ap, ◌∙◌, subst, Text, Binary, Opcode, Continuation, Begins, Close, Ping, Pong, Reserved, header, opcode_number, spelled, is_sent_opcode, is_droppable, octets_of, can_drop, IsSent, Reply, Spelled, Frame}
use Rattle.wire_meaning.specs.Answer as answer
use Rattle.socket_core.specs.declared.item.Item.{Item}

pub octets_sent : (item : Item) (sent : answer.Item) → IsSent item sent → octets_of item ≡ spelled sent
octets_sent (Reply text) sent s = sym (ap spelled s)
octets_sent (Spelled frame) sent s = sym s.1
octets_sent (Frame number payload) sent s =
    ap (λ (z : ℕ). header z (length payload.now) ++ payload.now) (sym s.1.1) ∙ sym (ap spelled s.1.2)

drop_number : (opcode : Opcode) → IsTrue (is_sent_opcode (opcode_number opcode)) → not (opcode_number opcode == 8) ≡ is_droppable opcode
drop_number Continuation s = absurd (let z : false ≡ true = s in cc)
drop_number (Begins Text) s = refl
drop_number (Begins Binary) s = refl
drop_number Close s = refl
drop_number Ping s = refl
drop_number Pong s = refl
drop_number Reserved s = absurd (let z : false ≡ true = s in cc)

pub drops_sent : (item : Item) (sent : answer.Item) → IsSent item sent → can_drop item ≡ answer.can_drop sent
drops_sent (Reply text) sent s = sym (ap answer.can_drop s)
drops_sent (Spelled frame) sent s = sym s.0
drops_sent (Frame number payload) sent s =
    ap (λ (z : ℕ). not (z == 8)) (sym s.1.1) ∙ drop_number s.1.0 (subst (λ (z : ℕ). IsTrue (is_sent_opcode z)) (sym s.1.1) s.0) ∙ sym (ap answer.can_drop s.1.2)
