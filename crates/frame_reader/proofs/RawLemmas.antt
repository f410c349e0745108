-- What holds of any reader's raw octets, and of a reader that is unread.
use Rattle.frame_reader.proofs.Below.{◌≡◌, ℕ, ◌+◌, true, List, ◌++◌, length, Some, None, refl, ap, arith, length-drop, reading, Reader, State, AtFrameStart, InDataFrame, Ended, coming, raw_of, max_of, room_of, ahead, is_at_start, is_unread}

-- the raw octets and the room for more are together what fits
pub room_and_raw : (r : Reader) → room_of r + length (raw_of r) ≡ max_of r + 8448
room_and_raw r = let full = r.raw.ok.0 in let fits = r.raw_fits in omega (arith, length-drop r.start r.raw.items)

starts : (state : State) → is_at_start state ≡ true → state ≡ AtFrameStart None
starts (AtFrameStart None) e = refl
starts (AtFrameStart (Some kind)) e = absurd cc
starts (InDataFrame kind frame) e = absurd cc
starts Ended e = absurd cc

-- what is ahead of a reader that is unread
pub unread_ahead : (r : Reader) → is_unread r ≡ true → (more : List ℕ) → ahead r more ≡ reading (max_of r) (raw_of r ++ more)
unread_ahead r e more = ap (λ s. coming r.max_message s r.message.items (raw_of r ++ more)) (starts r.state e)
