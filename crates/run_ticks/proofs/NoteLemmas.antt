-- Notes of orders, and of what was sent.
use Rattle.run_ticks.proofs.Below.{◌≡◌, List, true, false, refl, list_all, list_any, PeerEnd, LinkFailed, Idle, Finished, NoteValue, clash, all_follow, none_follow, is_uncounted, is_ticking, is_of_orders}
use Rattle.ws_kinds.specs.NoteValue as note

orders_uncounted_one : (n : NoteValue) → is_of_orders n ≡ true → is_uncounted n ≡ true
orders_uncounted_one note.tick e = clash false refl e
orders_uncounted_one (note.accepted c) e = clash false refl e
orders_uncounted_one (note.given c k) e = clash false refl e
orders_uncounted_one _ e = refl

pub orders_uncounted : (ns : List NoteValue) → list_all is_of_orders ns ≡ true → list_all is_uncounted ns ≡ true
orders_uncounted ns e = all_follow is_of_orders is_uncounted orders_uncounted_one ns e

orders_unticking_one : (n : NoteValue) → is_of_orders n ≡ true → is_ticking n ≡ false
orders_unticking_one note.tick e = clash false refl e
orders_unticking_one (note.pinged c) e = clash false refl e
orders_unticking_one (note.gone c PeerEnd) e = refl
orders_unticking_one (note.gone c LinkFailed) e = refl
orders_unticking_one (note.gone c Idle) e = clash false refl e
orders_unticking_one (note.gone c Finished) e = refl
orders_unticking_one _ e = refl

pub orders_unticking : (ns : List NoteValue) → list_all is_of_orders ns ≡ true → list_any is_ticking ns ≡ false
orders_unticking ns e = none_follow is_of_orders is_ticking orders_unticking_one ns e
