-- What a server writes in answer to a request head, RFC 6455 sections 4.2.2 and 4.4, RFC 9110 section 15.
use Rattle.std.specs.Prelude.{ℕ, Bool, ◌||◌, ◌==◌, List, [], ◌++◌, codes, length, if◌then◌else◌}

-- the line that answers a subprotocol; none where there is no name
abbrev pub protocol_line : List ℕ → List ℕ
protocol_line protocol =
    if length protocol == 0 then [] else codes "Sec-WebSocket-Protocol: " ++ protocol ++ codes "\r\n"

-- the reply to a head that is admitted, with this accept value and subprotocol
abbrev pub reply_text : List ℕ → List ℕ → List ℕ
reply_text accept protocol =
    codes "HTTP/1.1 101 Switching Protocols\r\nUpgrade: websocket\r\nConnection: Upgrade\r\nSec-WebSocket-Accept: "
    ++ accept ++ codes "\r\n" ++ protocol_line protocol ++ codes "\r\n"

-- a status with which a head is refused
abbrev pub is_refusal : ℕ → Bool
is_refusal status = status == 400 || status == 404 || status == 426 || status == 431

-- the reply to a head that is refused with this status
abbrev pub refusal_text : ℕ → List ℕ
refusal_text status =
    if status == 400 then codes "HTTP/1.1 400 Bad Request\r\nConnection: close\r\nContent-Length: 0\r\n\r\n"
    else (if status == 404 then codes "HTTP/1.1 404 Not Found\r\nConnection: close\r\nContent-Length: 0\r\n\r\n"
    else (if status == 426 then codes "HTTP/1.1 426 Upgrade Required\r\nUpgrade: websocket\r\nConnection: Upgrade, close\r\nSec-WebSocket-Version: 13\r\nContent-Length: 0\r\n\r\n"
    else codes "HTTP/1.1 431 Request Header Fields Too Large\r\nConnection: close\r\nContent-Length: 0\r\n\r\n"))
