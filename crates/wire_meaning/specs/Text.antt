-- Text that has not all come, RFC 6455 section 8.1.
use Rattle.std.specs.Prelude.{ℕ, Bool, List, drop, is_none}
use Rattle.std.specs.Str.Lossy.{utf8_valid_len, utf8_error_len}

-- Some continuation of the octets is UTF-8. Behind the longest front that is UTF-8 nothing is wrong but that the
-- octets end: `error_len` of std's `Utf8Error` is None there. The law `text_fronts` says that the two are the same.
abbrev pub is_text_front : List ℕ → Bool
is_text_front octets = is_none (utf8_error_len (drop (utf8_valid_len octets) octets))
