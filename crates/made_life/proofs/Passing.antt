-- What the acts of a made schedule pass, and which acts there are not.
use Rattle.std.proofs.Common.{◌≡◌, ℕ, zero, suc, ◌*◌, Bool, true, false, List, [], ◌∷◌, ◌++◌, refl, ◌∙◌, append-nil}
use Rattle.std.specs.List.{list_any}
use Rattle.std.proofs.lemmas.Grind.{flat_map-append}
use Rattle.std.proofs.lemmas.List.Folds.{list_any-append}
use Rattle.link_trait.specs.declared.act.Act.{Act}
use Rattle.link_trait.specs.declared.act.Act.TheVariants as act
use Rattle.mem_net.specs.Acts.{arrivals, arrives_by}
use Rattle.made_schedule.specs.Generator.{state_after}
use Rattle.made_schedule.specs.Message.{message}
use Rattle.made_schedule.specs.Made.{made_acts, messages, opening, openings, round, rounds}
use Rattle.made_life.specs.Sending.{numbers}

-- an act that ends octets, fails a link, gives it room, or is a tick
abbrev pub is_other : Act → Bool
is_other (act.Arrive conn credit) = false
is_other (act.Octets conn octets) = false
is_other (act.End conn) = true
is_other (act.ReadFails conn) = true
is_other (act.Room conn more) = true
is_other (act.WriteFails conn) = true
is_other act.Tick = true
is_other act.Turn = false

-- acts of these kinds alone, of which so many connections arrive
pub record IsMadeOf (acts : List Act) (arrived : List ℕ) : Type 0 where
  pub alone : list_any is_other acts ≡ false
  pub arrived_are : arrivals acts ≡ arrived

then : (xs ys : List Act) (ms ns : List ℕ) → IsMadeOf xs ms → IsMadeOf ys ns → IsMadeOf (xs ++ ys) (ms ++ ns)
then xs ys ms ns x y = record {
  alone = list_any-append is_other xs ys ∙ rw (x.alone, y.alone) refl;
  arrived_are = flat_map-append arrives_by xs ys ∙ rw (x.arrived_are, y.arrived_are) refl;
}

pub made_openings : (count : ℕ) → IsMadeOf (openings count) (numbers count)
unfolding openings numbers
made_openings zero = record { alone = refl; arrived_are = refl }
made_openings (suc count) = then (openings count) (opening (suc count)) (numbers count) (suc count ∷ []) (made_openings count) (record { alone = refl; arrived_are = refl })

made_messages : (count state : ℕ) → IsMadeOf (messages count state) []
unfolding messages
made_messages zero state = record { alone = refl; arrived_are = refl }
made_messages (suc count) state = then (messages count state) (message (state_after (suc count) state) ∷ []) [] [] (made_messages count state) (record { alone = refl; arrived_are = refl })

made_round : (state : ℕ) → IsMadeOf (round state) []
made_round state = then (messages 16 state) (act.Turn ∷ []) [] [] (made_messages 16 state) (record { alone = refl; arrived_are = refl })

made_rounds : (count state : ℕ) → IsMadeOf (rounds count state) []
unfolding rounds
made_rounds zero state = record { alone = refl; arrived_are = refl }
made_rounds (suc count) state = then (rounds count state) (round (state_after (16 * count) state)) [] [] (made_rounds count state) (made_round (state_after (16 * count) state))

made_all : (seed : ℕ) → IsMadeOf (made_acts seed) (numbers 64 ++ [])
made_all seed = then (openings 64) (act.Turn ∷ rounds 500 seed) (numbers 64) [] (made_openings 64)
    (then (act.Turn ∷ []) (rounds 500 seed) [] [] (record { alone = refl; arrived_are = refl }) (made_rounds 500 seed))

-- no octets end, no link fails or gets room, and no tick comes
pub made_alone : (seed : ℕ) → list_any is_other (made_acts seed) ≡ false
made_alone seed = (made_all seed).alone

-- the connections from 1 to 64 arrive, in order
pub made_arrivals : (seed : ℕ) → arrivals (made_acts seed) ≡ numbers 64
made_arrivals seed = (made_all seed).arrived_are ∙ append-nil (numbers 64)
