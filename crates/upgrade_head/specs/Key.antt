-- The key of an opening and the value that answers it, RFC 6455 sections 4.1 and 4.2.2.
use Rattle.std.specs.Prelude.{ℕ, Bool, ◌&&◌, ◌||◌, ◌==◌, List, ◌++◌, Option, Some, None, codes, length, take, drop, if◌then◌else◌}
use Rattle.std.specs.List.{list_all}
use Rattle.std.specs.Char.{is_ascii_alphanumeric}
use Rattle.std.specs.Str.{bytes_eq}
use Rattle.sha1.specs.Sha1.{sha1}
use Rattle.base64.specs.Engines.{standard}
use Rattle.base64.specs.GeneralPurpose.{encode_of}
use Rattle.upgrade_head.specs.Field.{FieldList, only_value}

-- a character of the base64 alphabet: a letter, a digit, + or /
abbrev pub is_base64 : ℕ → Bool
is_base64 octet = is_ascii_alphanumeric octet || octet == 43 || octet == 47

-- a key: 22 characters of the base64 alphabet and ==, the encoding of 16 octets, of which unused bits are not looked at
abbrev pub is_key : List ℕ → Bool
is_key key = length key == 24 && list_all is_base64 (take 22 key) && bytes_eq (drop 22 key) (codes "==")

abbrev pub checked_key : Option (List ℕ) → Option (List ℕ)
checked_key None = None
checked_key (Some key) = if is_key key then Some key else None

-- the key that the fields offer: there is exactly one field `Sec-WebSocket-Key`, and its value is a key
abbrev pub key_of : FieldList → Option (List ℕ)
key_of fields = checked_key (only_value (codes "Sec-WebSocket-Key") fields)

-- the value that answers a key: the SHA-1 of the key and the standard's fixed text, in base64
abbrev pub accept_text : List ℕ → List ℕ
accept_text key = encode_of standard (sha1 (key ++ codes "258EAFA5-E914-47DA-95CA-C5AB0DC85B11"))
