-- Headers of the frames that a server sends, RFC 6455 section 5.2.
use Rattle.std.specs.Prelude.{◌≡◌, ℕ, Bool, true, ◌==◌, ◌||◌, List, ◌++◌, length}
use Rattle.ws_kinds.specs.declared.kind.Kind.TheVariants.{Text, Binary}
use Rattle.wire_meaning.specs.declared.frame.Opcode.{Opcode}
use Rattle.wire_meaning.specs.declared.frame.Opcode.TheVariants.{Begins, Close, Ping, Pong}
use Rattle.wire_meaning.specs.Frame.{opcode_number, frame}

-- the numbers of the opcodes of the frames that a server sends
abbrev pub is_sent_opcode : ℕ → Bool
is_sent_opcode op =
    op == opcode_number (Begins Text) || op == opcode_number (Begins Binary) || op == opcode_number Close || op == opcode_number Ping || op == opcode_number Pong

-- the octets, followed by any payload of this length, are the unmasked frame with FIN 1 and this opcode
abbrev pub Heads : ℕ → ℕ → List ℕ → Type 0
Heads op size head = (opcode : Opcode) (payload : List ℕ) → opcode_number opcode ≡ op → length payload ≡ size
    → head ++ payload ≡ frame true opcode payload
