-- The request of a made schedule is admitted, on the room.
use Rattle.std.proofs.Common.{◌≡◌, ◌<◌, ℕ, Bool, true, List, [], ◌∷◌, length, Some, None, refl, ap, ◌∙◌, arith, codes, IsTrue, nat_lt, All, map, ◌&&◌, if◌then◌else◌}
use Rattle.std.specs.List.{list_all}
use Rattle.std.proofs.lemmas.List.Elements.{All-cons, All-nil}
use Rattle.std.specs.Str.{is_utf8, IsAscii}
use Rattle.std.proofs.lemmas.Bool.Decides.{nat_tests}
use Rattle.ws_kinds.proofs.Facts.{and_left, and_right}
use Rattle.std.proofs.lemmas.Str.{IsUtf8-from_ascii, is_utf8-from_IsUtf8}
use Rattle.std.proofs.lemmas.Str.Ascii.{IsAscii-nil, IsAscii-cons}
use Rattle.httparse.specs.Grammar.{RequestHead, Field, IsField, IsRequestHead, IsToken, AllPass, is_token_byte, is_uri_byte, is_value_byte, print_request, trim_ows}
use Rattle.httparse.specs.Grammar.LineEnd.{crlf}
use Rattle.matchit.specs.Route.{scan}
use Rattle.matchit.specs.Seek.{seek, param_step}
use Rattle.route_table.specs.Table.{found}
use Rattle.bus_handler.specs.Bus.{routes_of_bus}
use Rattle.made_schedule.specs.Made.{room_head}
use Rattle.upgrade_head.specs.Head.{head_end}
use Rattle.upgrade_head.specs.Field.{fields_of}
use Rattle.upgrade_head.specs.Key.{key_of}
use Rattle.upgrade_head.specs.Judged.{asks_to_upgrade, has_version, is_get, path_of, route_of}

-- a field line by its name and what stands behind the colon
abbrev line : List ℕ × List ℕ → Field
line (name, raw) = record { name = name; raw = raw; end = crlf }

abbrev lines : List (List ℕ × List ℕ)
lines = (codes "Host", codes " a") ∷ (codes "Upgrade", codes " websocket") ∷ (codes "Connection", codes " Upgrade") ∷ (codes "Sec-WebSocket-Key", codes " dGhlIHNhbXBsZSBub25jZQ==") ∷ (codes "Sec-WebSocket-Version", codes " 13") ∷ []

-- the parts of the request
abbrev pub request : RequestHead
request = record { blank = []; method = codes "GET"; target = codes "/room/m"; minor = 1; line_end = crlf; fields = map line lines; last = crlf }

pub printed : room_head ≡ print_request request
unfolding room_head print_request
printed = refl

pub head_ends : head_end room_head ≡ Some 146
unfolding room_head
head_ends = refl

pub size : length room_head ≡ 146
unfolding room_head
size = refl

pub gets : is_get request ≡ true
gets = refl

pub asks : asks_to_upgrade (fields_of request) ≡ true
unfolding trim_ows
asks = refl

pub versioned : has_version (fields_of request) ≡ true
unfolding trim_ows
versioned = refl

pub keyed : key_of (fields_of request) ≡ Some (codes "dGhlIHNhbXBsZSBub25jZQ==")
unfolding trim_ows
keyed = refl

abbrev is_small : ℕ → Bool
is_small octet = nat_lt octet 128

ascii_of : (xs : List ℕ) → list_all is_small xs ≡ true → IsAscii xs
ascii_of [] small = IsAscii-nil
ascii_of (x ∷ xs) small =
    let first : is_small x ≡ true = and_left (is_small x) (list_all is_small xs) small in
    let low : x < 128 = grind (arith, nat_tests) in
    IsAscii-cons x xs low (ascii_of xs (and_right (is_small x) (list_all is_small xs) small))

path_text : is_utf8 (codes "/room/m") ≡ true
path_text = is_utf8-from_IsUtf8 (codes "/room/m") (IsUtf8-from_ascii (codes "/room/m") (ascii_of (codes "/room/m") refl))

finds : found routes_of_bus (codes "/room/m") ≡ Some (1, codes "m")
unfolding seek param_step scan
finds = refl

pub routed : route_of routes_of_bus (path_of request.target) ≡ Some (1, codes "m")
routed = ap (λ (b : Bool). if b then found routes_of_bus (codes "/room/m") else None) path_text ∙ finds

-- each octet passes the test
pass : (test : ℕ → Bool) (xs : List ℕ) → list_all test xs ≡ true → AllPass test xs
pass test [] all = All-nil (λ (b : ℕ). IsTrue (test b))
pass test (x ∷ xs) all = All-cons (λ (b : ℕ). IsTrue (test b)) x xs (and_left (test x) (list_all test xs) all) (pass test xs (and_right (test x) (list_all test xs) all))

token : (xs : List ℕ) → nat_lt 0 (length xs) ≡ true → list_all is_token_byte xs ≡ true → IsToken xs
token xs some all = (let long : 0 < length xs = grind (arith, nat_tests) in long, pass is_token_byte xs all)

abbrev is_line : List ℕ × List ℕ → Bool
is_line (name, raw) = nat_lt 0 (length name) && (list_all is_token_byte name && list_all is_value_byte raw)

all_fields : (ls : List (List ℕ × List ℕ)) → list_all is_line ls ≡ true → All IsField (map line ls)
all_fields [] all = All-nil IsField
all_fields ((name, raw) ∷ ls) all =
    let first = and_left (is_line (name, raw)) (list_all is_line ls) all in
    let rest = and_right (nat_lt 0 (length name)) (list_all is_token_byte name && list_all is_value_byte raw) first in
    All-cons IsField (line (name, raw)) (map line ls)
    (record {
      name = token name (and_left (nat_lt 0 (length name)) (list_all is_token_byte name && list_all is_value_byte raw) first) (and_left (list_all is_token_byte name) (list_all is_value_byte raw) rest);
      raw = pass is_value_byte raw (and_right (list_all is_token_byte name) (list_all is_value_byte raw) rest);
    })
    (all_fields ls (and_right (is_line (name, raw)) (list_all is_line ls) all))

pub is_request : IsRequestHead request
unfolding is_token_byte
is_request = record {
  method = token (codes "GET") refl refl;
  target = (omega arith, pass is_uri_byte (codes "/room/m") refl);
  target_text = IsUtf8-from_ascii (codes "/room/m") (ascii_of (codes "/room/m") refl);
  minor = omega arith;
  fields = all_fields lines refl;
}
