-- The reply to the request of a made schedule.
use Rattle.std.proofs.Common.{◌≡◌, ℕ, List, [], length, refl, ap, codes}
use Rattle.base64.specs.Rfc4648.{encode_symbols}
use Rattle.sha1.specs.Sha1.{first_words, schedule, rounds, compress, hash_after, digest_bytes, sha1}
use Rattle.bus_handler.specs.Bus.{routes_of_bus}
use Rattle.upgrade_head.specs.Key.{accept_text}
use Rattle.upgrade_head.specs.Judged.{answer_text}
use Rattle.upgrade_head.specs.Texts.{reply_text}
use Rattle.made_life.proofs.Judging.{admitted}

-- it accepts the key
accept_is : accept_text (codes "dGhlIHNhbXBsZSBub25jZQ==") ≡ codes "s3pPLMBiTxaQ9kYGzzhZRbK+xOo="
unfolding first_words schedule rounds compress hash_after digest_bytes sha1 encode_symbols
accept_is = refl

-- and has 129 octets
pub answer_length : length (answer_text routes_of_bus admitted) ≡ 129
answer_length = ap (λ (accept : List ℕ). length (reply_text accept [])) accept_is
