-- A net in memory: what it holds, what it means, and how it follows its schedule.
use Rattle.std.specs.Prelude.{◌≡◌, ◌<◌, ◌≤◌, ◌+◌, ◌-◌, ◌^◌, ◌++◌, ◌&&◌, ◌||◌, ◌⊎◌, ℕ, List, [], ◌∷◌, Option, Some, None, Bool, true, false, nat_eq, nat_lt, slice_get, length, take, drop, max, map, replicate, if◌then◌else◌, ⊤}
use Rattle.std.specs.List.{sum_by, fold, list_any}
use Rattle.mem_net.specs.Schedule.{has_arrived, is_sound}
use Rattle.mem_net.specs.Acts.{arrivals, sent, finish_of, credit_of, writes_fail, passes, event_of, is_end, is_fault}
use Rattle.mem_net.specs.LinkState.{LinkState, new_link, counted, room_for, is_ready, is_finish}
use Rattle.link_trait.specs.NetState.{NetState}
use Rattle.link_trait.specs.declared.act.Act.{Act}
use Rattle.link_trait.specs.declared.act.Act.TheVariants as act
use Rattle.link_trait.specs.declared.net.NetEvent.{NetEvent}
use Rattle.link_trait.specs.declared.net.NetEvent.TheVariants as event
use Rattle.link_trait.specs.declared.net.NetWrote.{NetWrote}
use Rattle.link_trait.specs.declared.net.NetWrote.TheVariants as wrote

pub record MemNetState : Type 0 where
  -- the acts of its schedule
  pub acts : List Act
  -- how many of them were done
  pub done : ℕ
  -- the connections of the schedule, in the order in which they arrive
  pub links : List LinkState
  -- how many answers of `next` passed: Accept, Tick, Turn and Stop
  pub answers : ℕ
  -- the last answer of `next` was Turn or Stop, and no read was made since
  pub rested : Bool
  -- no write failed but by an act
  pub whole : Bool
  -- the faults so far
  pub faults : ℕ
  -- the port at which it listens
  pub port : Option ℕ

-- the link of conn, among those of the connections with these numbers
abbrev pub link_of : List ℕ → List LinkState → ℕ → LinkState
link_of [] links conn = new_link []
link_of (number ∷ numbers) [] conn = new_link []
link_of (number ∷ numbers) (link ∷ links) conn = if nat_eq number conn then link else link_of numbers links conn

abbrev pub link_at : MemNetState → ℕ → LinkState
link_at net conn = link_of (arrivals net.acts) net.links conn

-- how often Readable can still be told of a link: no more often than this
abbrev pub readies_left : LinkState → ℕ
readies_left link = length link.waiting + length link.coming + (if link.answered then 0 else 1) + (if link.due then 0 else 1)

-- the acts done, and then Stop for each answer beyond those that they pass
abbrev pub passed_by : List Act → ℕ → List NetEvent
passed_by acts answers = passes acts ++ replicate (answers - length (passes acts)) event.Stop

-- its meaning as a net
abbrev pub net_state : MemNetState → NetState
net_state net = record {
  tells = true;
  given = λ conn. (link_at net conn).given;
  taken = λ conn. (link_at net conn).taken;
  wrote = λ conn. (link_at net conn).writes;
  ended = λ conn. (link_at net conn).ended;
  broken = λ conn. (link_at net conn).broken;
  passed = passed_by (take net.done net.acts) net.answers;
  rested = net.rested;
  live = λ conn. (link_at net conn).live;
  named = fold max 0 (arrivals (take net.done net.acts));
  due = λ conn. (link_at net conn).due;
  writable = λ conn. (link_at net conn).writable;
  room = (length net.acts - net.done) + sum_by readies_left net.links;
  faults = net.faults;
  port = net.port;
  schedule = Some net.acts;
}

-- so many are within a bound, and below it, where there is one
abbrev pub IsWithin : ℕ → Option ℕ → Type 0
IsWithin count None = ⊤
IsWithin count (Some most) = count ≤ most

abbrev pub IsBelow : ℕ → Option ℕ → Type 0
IsBelow count None = ⊤
IsBelow count (Some most) = count < most

-- the last write took fewer octets than it was offered
abbrev pub is_short : List (ℕ × ℕ) → Bool
is_short writes = fold (λ before write. nat_lt write.1 write.0) false writes

-- this write took fewer
abbrev pub takes_less : ℕ × ℕ → Bool
takes_less write = nat_lt write.1 write.0

-- some write took fewer
abbrev pub was_short : List (ℕ × ℕ) → Bool
was_short writes = list_any takes_less writes

-- By the acts that were done a link takes `allowed` octets in all, or any number where there is none, and its writes fail where `fails`
-- says so. It took `count` octets so far; `short` says that its last write took fewer than it was offered, and `ever` that some write did.
pub record Takes (allowed : Option ℕ) (fails live writable failing short ever : Bool) (credit : Option ℕ) (count : ℕ) : Type 0 where
  pub credit_is : credit ≡ counted allowed
  pub failing_is : failing ≡ fails
  pub few : count < 2 ^ 63
  pub within : IsWithin count allowed
  -- a live link that is not writable took all of them
  pub full : live ≡ true → writable ≡ false → allowed ≡ Some count
  -- one that is writable though its last write was short takes more, unless its writes fail
  pub more : writable ≡ true → short ≡ true → fails ≡ false → IsBelow count allowed
  -- one that takes any number took all of them with each write
  pub all : allowed ≡ None → ever ≡ false

abbrev pub LinkTakes : ℕ → List Act → LinkState → Type 0
LinkTakes conn done link = Takes (credit_of conn done) (writes_fail conn done) link.live link.writable link.failing (is_short link.writes) (was_short link.writes) link.credit (length link.taken)

-- how the link of conn stands to the acts: those done, and those to come
pub record LinkFollows (conn : ℕ) (done rest : List Act) (whole : Bool) (link : LinkState) : Type 0 where
  -- what was read and what waits is what was sent
  pub came : link.given ++ link.waiting ≡ sent conn done
  -- what comes later is what will be sent
  pub coming : link.coming ≡ sent conn rest
  pub finish : link.finish ≡ finish_of conn done
  -- Readable is told only where there is something to read
  pub ready : link.due ≡ true → is_ready link ≡ true
  -- the end and a fault are answered once nothing waits
  pub answered : link.answered ≡ true → (link.waiting ≡ []) × (is_finish link.finish ≡ true)
  pub ended : link.ended ≡ (link.answered && is_end link.finish)
  -- a read that failed breaks a link, and nothing else, unless an act lets writes fail or memory was short
  pub broken : (link.answered && is_fault link.finish) ≡ true → link.broken ≡ true
  pub unbroken : whole ≡ true → link.broken ≡ true → ((link.answered && is_fault link.finish) || link.failing) ≡ true
  -- before it arrives nothing happened
  pub quiet : has_arrived done conn ≡ false → link ≡ new_link link.coming
  -- what it takes is what the acts let it take
  pub takes : LinkTakes conn done link

-- each live connection that has something to read is due
abbrev pub AllTold : MemNetState → Type 0
AllTold net = (conn : ℕ) → (link_at net conn).live ≡ true → is_ready (link_at net conn) ≡ true → (link_at net conn).due ≡ true

-- the act that was done last is Turn
abbrev pub EndsWithTurnAct : List Act → Type 0
EndsWithTurnAct acts = (front : List Act) × (acts ≡ front ++ act.Turn ∷ [])

-- it follows its schedule
pub record FollowsSchedule (net : MemNetState) : Type 0 where
  pub few : length net.acts < 2 ^ 64
  pub done : net.done ≤ length net.acts
  pub sound : is_sound net.acts ≡ true
  pub links : length net.links ≡ length (arrivals net.acts)
  pub fits : (conn : ℕ) → has_arrived net.acts conn ≡ true → LinkFollows conn (take net.done net.acts) (drop net.done net.acts) net.whole (link_at net conn)
  -- Stop passes only once all acts were done
  pub passed : length (passes (take net.done net.acts)) ≤ net.answers
  pub stops : net.done < length net.acts → net.answers ≡ length (passes (take net.done net.acts))
  -- while it rests, what can be read was told
  pub told : net.rested ≡ true → AllTold net
  -- while it rests and acts are left, the act done last is Turn
  pub turned : net.rested ≡ true → net.done < length net.acts → EndsWithTurnAct (take net.done net.acts)

-- this event tells the act at a place
abbrev pub IsEventAt : NetEvent → List Act → ℕ → Type 0
IsEventAt told acts place = (act : Act) × (slice_get acts place ≡ Some act) × (event_of act ≡ Some told)

-- this act is on a connection that is not live: it was shut
abbrev pub IsOfShut : MemNetState → Act → Type 0
IsOfShut net (act.Octets conn octets) = (link_at net conn.0).live ≡ false
IsOfShut net (act.End conn) = (link_at net conn.0).live ≡ false
IsOfShut net (act.ReadFails conn) = (link_at net conn.0).live ≡ false
IsOfShut net (act.Room conn more) = (link_at net conn.0).live ≡ false
IsOfShut net (act.WriteFails conn) = (link_at net conn.0).live ≡ false
IsOfShut net _ = ⊥

-- the act at a place is passed over
abbrev pub IsPassedOver : MemNetState → ℕ → Type 0
IsPassedOver net place = (act : Act) × (slice_get net.acts place ≡ Some act) × IsOfShut net act

-- each act from a place on and below another one is passed over
abbrev pub PassesOver : MemNetState → ℕ → ℕ → Type 0
PassesOver net from to = (place : ℕ) → from ≤ place → place < to → IsPassedOver net place

-- the answer tells the last act that a call of `next` did, and those before it were passed over
abbrev pub TellsLast : NetEvent → MemNetState → MemNetState → Type 0
TellsLast result old new = (last : ℕ) × (old.done ≤ last) × (new.done ≡ last + 1) × IsEventAt result old.acts last × PassesOver old old.done last

-- a call of `next` did no act that it does not tell, but for those that were passed over
abbrev pub TellsInOrder : NetEvent → MemNetState → MemNetState → Type 0
TellsInOrder result old new = (new.done ≡ old.done) ⊎ TellsLast result old new ⊎ ((result ≡ event.Stop) × PassesOver old old.done new.done)

-- a write takes the lesser of the octets offered and those that the acts done leave room for; it fails where they let writes fail, and
-- otherwise for want of memory alone, so that the net is whole no more
abbrev pub TakesByActs : ℕ → ℕ → NetWrote → MemNetState → MemNetState → Type 0
TakesByActs conn len (wrote.Took n) old new =
    (writes_fail conn (take old.done old.acts) ≡ false) × (n ≡ room_for len (credit_of conn (take old.done old.acts)) (length (link_at old conn).taken)) × (new.whole ≡ old.whole)
TakesByActs conn len wrote.Failed old new = new.whole ≡ (old.whole && writes_fail conn (take old.done old.acts))

-- the links of the connections that arrive among acts, before the first act
abbrev pub new_links : List Act → List LinkState
new_links acts = map (λ conn. new_link (sent conn acts)) (arrivals acts)

-- before the first act
abbrev pub start_net : List Act → MemNetState
start_net acts = record {
  acts = acts;
  done = 0;
  links = new_links acts;
  answers = 0;
  rested = false;
  whole = true;
  faults = 0;
  port = None;
}
