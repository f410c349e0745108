-- What each act of a schedule does to a net in memory.
use Rattle.mem_net.proofs.Below.{◌≡◌, ◌≢◌, ℕ, zero, suc, ◌+◌, ◌-◌, ◌^◌, ◌<◌, ◌≤◌, List, [], ◌∷◌, ◌++◌, ◌&&◌, ◌||◌, not, length, take, drop, get_or, min, Bool, true, false, Option, Some, None, is_none, nat_eq, nat_le, slice_get, slice_set, refl, sym, ◌∙◌, ap, arith, length-append, take-append-drop, if◌then◌else◌, list_any, list_all, nat_tests, is_arrival, is_rising, has_arrived, has_ended, can_send, is_sound_after, is_sound, LinkState, new_link, is_ready, is_finish, comes, finishes, sent, sent_by, finish_by, passes_by, arrives_by, arrivals, event_of, MemNetState, link_at, net_state, LinkFollows, AllTold, FollowsSchedule, IsOfShut, IsSending, IsFinishing, Does, Act, NetEvent, Finish, Nexts, Skips, is_last, Change, IsChanging, arrives, changes, slice_get_within, slice_get_read, or_true}
use Rattle.link_trait.specs.declared.act.Act.TheVariants as act
use Rattle.link_trait.specs.declared.net.NetEvent.TheVariants as event
use Rattle.mem_net.proofs.Schedules.{sound_at, sound_rises, arrived}
use Rattle.mem_net.proofs.Places.{link_there, link_nowhere}
use Rattle.mem_net.specs.declared.mem_link.Finish.TheVariants as finish
use Rattle.mem_net.proofs.Fitting.{IsApart, IsStill, fits_arrive, fits_change, fits_come, fits_finish}
use Rattle.mem_net.proofs.Moving.{Moves, IsNext, drop_next, fits_all, fits_unmoved, next_rest, next_done, answers_quiet}
use Rattle.mem_net.proofs.Telling.{Alike, Quiet, accepts, skips, readies, frees, ticks, turns, told_moved, told_unmoved, followed, passing_passed}

or_mono : (b x y : Bool) → (x ≡ true → y ≡ true) → (b || x) ≡ true → (b || y) ≡ true
or_mono true x y f h = refl
or_mono false x y f h = f h

-- a connection whose number is at a place of the arrivals arrives
found_among : (numbers : List ℕ) (i c : ℕ) → slice_get numbers i ≡ Some c → list_any (λ number. nat_eq number c) numbers ≡ true
found_among [] i c e = cc
found_among (n ∷ ns) zero c e = grind (arith, nat_tests)
found_among (n ∷ ns) (suc i) c e = let rest = found_among ns i c e in or_true (nat_eq n c) (list_any (λ number. nat_eq number c) ns) rest

pub arrives_somewhere : (acts : List Act) (i c : ℕ) → slice_get (arrivals acts) i ≡ Some c → has_arrived acts c ≡ true
arrives_somewhere acts i c e = sym (arrived acts c) ∙ found_among (arrivals acts) i c e

-- a number that is above all before has not arrived
pub new_number : (acts : List Act) (c : ℕ) → is_rising acts c ≡ true → has_arrived acts c ≡ false
new_number [] c h = refl
new_number (act.Arrive conn credit ∷ acts) c h =
    let rest : is_rising acts c ≡ true = grind (arith, nat_tests) in
    let apart : nat_eq conn.0 c ≡ false = grind (arith, nat_tests) in
    rw apart (new_number acts c rest)
new_number (act.Octets conn octets ∷ acts) c h = new_number acts c h
new_number (act.End conn ∷ acts) c h = new_number acts c h
new_number (act.ReadFails conn ∷ acts) c h = new_number acts c h
new_number (act.Room conn more ∷ acts) c h = new_number acts c h
new_number (act.WriteFails conn ∷ acts) c h = new_number acts c h
new_number (act.Tick ∷ acts) c h = new_number acts c h
new_number (act.Turn ∷ acts) c h = new_number acts c h

-- a state, by its parts
abbrev pub state : List Act → ℕ → List LinkState → ℕ → Bool → Bool → ℕ → Option ℕ → MemNetState
state acts done links answers rested whole faults port =
    record { acts = acts; done = done; links = links; answers = answers; rested = rested; whole = whole; faults = faults; port = port }

pub read_at : (acts xs : List Act) (i : ℕ) (one told : Act) → xs ≡ acts → i < length acts → one ≡ get_or xs i one → one ≡ told → slice_get acts i ≡ Some told
read_at acts xs i one told e h r t =
    let same : get_or xs i one ≡ get_or acts i one = ap (λ l. get_or l i one) e in
    slice_get_read acts (length acts) i one refl h (r ∙ same) ∙ ap Some t

-- a connection that does not arrive has no link
pub not_there : (c : ℕ) (net : MemNetState) → has_arrived net.acts c ≡ false → link_at net c ≡ new_link []
not_there c net h = link_nowhere (arrivals net.acts) net.links c (arrived net.acts c ∙ h)

pub not_live : (c : ℕ) (net : MemNetState) → has_arrived net.acts c ≡ false → (link_at net c).live ≡ false
not_live c net h = ap (λ l. l.live) (not_there c net h)

-- a link that is at the place of its connection
pub record Found (c i : ℕ) (net : MemNetState) (link : LinkState) : Type 0 where
  pub place : slice_get (arrivals net.acts) i ≡ Some c
  pub within : i < length net.links
  pub found : link_at net c ≡ link

pub place_within : (c i : ℕ) (net : MemNetState) → FollowsSchedule net → slice_get (arrivals net.acts) i ≡ Some c → i < length net.links
place_within c i net f e = let h : i < length (arrivals net.acts) = slice_get_within (arrivals net.acts) i c e in let l = f.links in omega arith

pub find : (c i : ℕ) (net : MemNetState) (link : LinkState) → FollowsSchedule net → slice_get (arrivals net.acts) i ≡ Some c → link ≡ get_or net.links i link → Found c i net link
find c i net link f e l =
    let within = place_within c i net f e in
    record { place = e; within = within; found = link_there (arrivals net.acts) net.links i c link (sound_rises net.acts f.sound) e (slice_get_read net.links (length net.links) i link refl within l) }

pub moves : (c i : ℕ) (old new : MemNetState) (link moved : LinkState) → FollowsSchedule old → Found c i old link → new.acts ≡ old.acts → new.links ≡ slice_set old.links i moved → Moves c i old new moved
moves c i old new link moved f g a l = record { acts = a; links = l; place = g.place; within = g.within; sound = f.sound }

pub arrived_take : (n : ℕ) (acts : List Act) (c : ℕ) → has_arrived (take n acts) c ≡ true → has_arrived acts c ≡ true
arrived_take zero acts c h = cc
arrived_take (suc n) [] c h = cc
arrived_take (suc n) (a ∷ acts) c h = or_mono (is_arrival c a) (has_arrived (take n acts) c) (has_arrived acts c) (arrived_take n acts c) h

-- the connection of an act that changes what it takes arrived before it
changing_came : (before : List Act) (what : Change) (c : ℕ) (one : Act) → is_sound_after before one ≡ true → IsChanging c what one → has_arrived before c ≡ true
changing_came before what c (act.Room other more) h s = let there : has_arrived before other.0 ≡ true = grind arith in rw (← s.0) there
changing_came before what c (act.WriteFails other) h s = let there : has_arrived before other.0 ≡ true = grind arith in rw (← s.0) there
changing_came before what c (act.Arrive other credit) h s = absurd s
changing_came before what c (act.Octets other octets) h s = absurd s
changing_came before what c (act.End other) h s = absurd s
changing_came before what c (act.ReadFails other) h s = absurd s
changing_came before what c act.Tick h s = absurd s
changing_came before what c act.Turn h s = absurd s

pub arrival_among : (acts : List Act) (i c : ℕ) (one : Act) → slice_get acts i ≡ Some one → is_arrival c one ≡ true → has_arrived acts c ≡ true
arrival_among [] i c one e h = cc
arrival_among (a ∷ acts) zero c one e h = let same : a ≡ one = grind arith in rw same (rw h refl)
arrival_among (a ∷ acts) (suc i) c one e h = or_true (is_arrival c a) (has_arrived acts c) (arrival_among acts i c one e h)

pub sending_arrived : (acts : List Act) (i count c : ℕ) (one : Act) → is_sound acts ≡ true → slice_get acts i ≡ Some one → IsSending c count one → has_arrived acts c ≡ true
sending_arrived acts i count c (act.Octets other octets) h e s =
    let sound : is_sound_after (take i acts) (act.Octets other octets) ≡ true = sound_at acts i (act.Octets other octets) h e in
    let there : has_arrived (take i acts) other.0 ≡ true = grind arith in
    arrived_take i acts c (rw (← s.0) there)
sending_arrived acts i count c (act.Arrive other credit) h e s = absurd s
sending_arrived acts i count c (act.End other) h e s = absurd s
sending_arrived acts i count c (act.ReadFails other) h e s = absurd s
sending_arrived acts i count c (act.Room other more) h e s = absurd s
sending_arrived acts i count c (act.WriteFails other) h e s = absurd s
sending_arrived acts i count c act.Tick h e s = absurd s
sending_arrived acts i count c act.Turn h e s = absurd s

pub changing_arrived : (acts : List Act) (i : ℕ) (what : Change) (c : ℕ) (one : Act) → is_sound acts ≡ true → slice_get acts i ≡ Some one → IsChanging c what one → has_arrived acts c ≡ true
changing_arrived acts i what c one h e s = arrived_take i acts c (changing_came (take i acts) what c one (sound_at acts i one h e) s)

pub finishing_arrived : (acts : List Act) (i : ℕ) (end : Finish) (c : ℕ) (one : Act) → is_sound acts ≡ true → slice_get acts i ≡ Some one → IsFinishing c end one → has_arrived acts c ≡ true
finishing_arrived acts i end c (act.End other) h e s =
    let sound : is_sound_after (take i acts) (act.End other) ≡ true = sound_at acts i (act.End other) h e in
    let there : has_arrived (take i acts) other.0 ≡ true = grind arith in
    arrived_take i acts c (rw (← s.0) there)
finishing_arrived acts i end c (act.ReadFails other) h e s =
    let sound : is_sound_after (take i acts) (act.ReadFails other) ≡ true = sound_at acts i (act.ReadFails other) h e in
    let there : has_arrived (take i acts) other.0 ≡ true = grind arith in
    arrived_take i acts c (rw (← s.0) there)
finishing_arrived acts i end c (act.Arrive other credit) h e s = absurd s
finishing_arrived acts i end c (act.Octets other octets) h e s = absurd s
finishing_arrived acts i end c (act.Room other more) h e s = absurd s
finishing_arrived acts i end c (act.WriteFails other) h e s = absurd s
finishing_arrived acts i end c act.Tick h e s = absurd s
finishing_arrived acts i end c act.Turn h e s = absurd s

-- what an act leaves
pub record Leaves (result : Option NetEvent) (old new : MemNetState) : Type 0 where
  pub follows : FollowsSchedule new
  pub told : AllTold new
  pub does : Does result old new

arrive_apart : (conn : ℕ) (credit : Option ℕ) (d : ℕ) → d ≢ conn → IsApart d (act.Arrive (record { 0 = conn }) credit)
arrive_apart conn credit d n =
    let apart : nat_eq conn d ≡ false = grind (arith, nat_tests) in
    record { sent = refl; finish = refl; arrival = apart; still = record { credit = λ before. rw apart refl; failure = refl } }

pub arrive_leaves : (conn i : ℕ) (credit : Option ℕ) (old new : MemNetState) (link : LinkState) → IsNext (act.Arrive (record { 0 = conn }) credit) old new → Moves conn i old new link
    → link ≡ arrives credit (link_at old conn) → length new.links ≡ length old.links → AllTold old
    → new.answers ≡ min (old.answers + 1) (2 ^ 64 - 1) → new.faults ≡ old.faults → new.port ≡ old.port → new.rested ≡ false
    → Leaves (Some (event.Accept (record { 0 = conn }))) old new
arrive_leaves conn i credit old new link n m e links told answers faults port rest =
    let one = act.Arrive (record { 0 = conn }) credit in
    let before = take old.done old.acts in
    let sound : is_sound_after before one ≡ true = sound_at old.acts old.done one n.follows.sound n.at in
    let rising : is_rising before conn ≡ true = grind arith in
    let came : has_arrived old.acts conn ≡ true = arrives_somewhere old.acts i conn m.place in
    let fit = n.follows.fits conn came in
    let new_here : has_arrived before conn ≡ false = new_number before conn rising in
    let quiet : link_at old conn ≡ new_link (link_at old conn).coming = fit.quiet new_here in
    let next = next_rest one old new n in
    let fits = fits_all one conn i old new link n m (arrive_apart conn credit) (λ a. rw e (fits_arrive conn before (drop new.done new.acts) credit old.whole (link_at old conn) new_here (rw (← next) fit))) in
    let told_new : AllTold new = told_moved conn i old new link m told (λ live ready. let none : is_ready link ≡ false = ap is_ready e ∙ ap (λ (l : LinkState). is_ready (arrives credit l)) quiet in cc) in
    let passed = passing_passed one (event.Accept (record { 0 = conn })) old new n refl answers in
    record {
      follows = followed one old new n links fits passed.0 told_new (λ r. cc);
      told = told_new;
      does = record {
        event = accepts conn i credit old new link n m e quiet answers faults port rest;
        goes_on = refl;
        tells = (one, n.at, refl);
        acts = n.acts;
        one_more = n.one_more;
        whole = n.whole;
        told = told_new;
      };
    }

pub tick_leaves : (old new : MemNetState) → IsNext act.Tick old new → new.links ≡ old.links → AllTold old → new.answers ≡ min (old.answers + 1) (2 ^ 64 - 1) → new.faults ≡ old.faults → new.port ≡ old.port → new.rested ≡ false
    → Leaves (Some event.Tick) old new
tick_leaves old new n l told answers faults port rest =
    let told_new : AllTold new = told_unmoved old new n.acts l told in
    let passed = passing_passed act.Tick event.Tick old new n refl answers in
    record {
      follows = followed act.Tick old new n (ap length l) (fits_unmoved act.Tick old new n l (λ d. record { sent = refl; finish = refl; arrival = refl; still = record { credit = λ before. refl; failure = refl } })) passed.0 told_new (λ r. cc);
      told = told_new;
      does = record { event = ticks old new n l answers faults port rest; goes_on = refl; tells = (act.Tick, n.at, refl); acts = n.acts; one_more = n.one_more; whole = n.whole; told = told_new };
    }

pub turn_leaves : (old new : MemNetState) → IsNext act.Turn old new → new.links ≡ old.links → AllTold old → new.answers ≡ min (old.answers + 1) (2 ^ 64 - 1) → new.faults ≡ old.faults → new.port ≡ old.port → new.rested ≡ true
    → Leaves (Some event.Turn) old new
turn_leaves old new n l told answers faults port rest =
    let told_new : AllTold new = told_unmoved old new n.acts l told in
    let passed = passing_passed act.Turn event.Turn old new n refl answers in
    record {
      follows = followed act.Turn old new n (ap length l) (fits_unmoved act.Turn old new n l (λ d. record { sent = refl; finish = refl; arrival = refl; still = record { credit = λ before. refl; failure = refl } })) passed.0 told_new (λ r. (take old.done old.acts, next_done act.Turn old new n));
      told = told_new;
      does = record { event = turns old new n l answers faults port rest; goes_on = refl; tells = (act.Turn, n.at, refl); acts = n.acts; one_more = n.one_more; whole = n.whole; told = told_new };
    }

due_of : (due live now : Bool) → now ≡ (due || live) → live ≡ true → now ≡ true
due_of true live now e h = e
due_of false live now e h = e ∙ h

due_same : (due live now : Bool) → now ≡ (due || live) → live ≡ false → now ≡ due
due_same true live now e h = e
due_same false live now e h = e ∙ h

-- an act on conn, which this event tells
record IsOn (told : NetEvent) (conn : ℕ) (net : MemNetState) (one : Act) : Type 0 where
  pub event : event_of one ≡ Some told
  pub shut : (link_at net conn).live ≡ false → IsOfShut net one

-- an act on a link is told where it is live, and otherwise passed over
told_if : (event : NetEvent) (one : Act) (conn : ℕ) (old new : MemNetState) → IsOn event conn old one → is_last event ≡ false → IsNext one old new → AllTold new
    → ((link_at old conn).live ≡ true → Nexts event (net_state old) (net_state new)) → ((link_at old conn).live ≡ false → Skips (net_state old) (net_state new)) → (tells : Bool) → tells ≡ (link_at old conn).live
    → Does (if tells then Some event else None) old new
told_if event one conn old new on goes_on n told nexts skips true t =
    record { event = nexts (sym t); goes_on = goes_on; tells = (one, n.at, on.event); acts = n.acts; one_more = n.one_more; whole = n.whole; told = told }
told_if event one conn old new on goes_on n told nexts skips false t =
    record { event = skips (sym t); goes_on = tt; tells = (one, n.at, on.shut (sym t)); acts = n.acts; one_more = n.one_more; whole = n.whole; told = told }

-- a link to which something comes: it is told of where it is live
comes_leaves : (one : Act) (conn i : ℕ) (old new : MemNetState) (link : LinkState) → IsOn (event.Readable (record { 0 = conn })) conn old one → IsNext one old new → Moves conn i old new link → ((d : ℕ) → d ≢ conn → IsApart d one) → passes_by one ≡ [] → arrives_by one ≡ []
    → (has_arrived old.acts conn ≡ true → LinkFollows conn (take old.done old.acts ++ one ∷ []) (drop new.done new.acts) old.whole link) → Alike (link_at old conn) link → link.live ≡ (link_at old conn).live → link.due ≡ ((link_at old conn).due || (link_at old conn).live)
    → link.writable ≡ (link_at old conn).writable → length new.links ≡ length old.links → AllTold old → Quiet old new → new.rested ≡ false → (tells : Bool) → tells ≡ (link_at old conn).live → Leaves (if tells then Some (event.Readable (record { 0 = conn })) else None) old new
comes_leaves one conn i old new link on n m apart p r fit alike live due writable links told quiet rest tells t =
    let told_new : AllTold new = told_moved conn i old new link m told (λ l ready. due_of (link_at old conn).due (link_at old conn).live link.due due (sym live ∙ l)) in
    let answers = answers_quiet one old new n p quiet.answers in
    record {
      follows = followed one old new n links (fits_all one conn i old new link n m apart fit) answers told_new (λ r. cc);
      told = told_new;
      does = told_if (event.Readable (record { 0 = conn })) one conn old new on refl n told_new
          (λ is. readies one conn i old new link n m alike quiet p r live is (due_of (link_at old conn).due (link_at old conn).live link.due due is) writable rest)
          (λ off. skips one conn i old new link n m alike quiet p r live (due_same (link_at old conn).due (link_at old conn).live link.due due off) writable) tells t;
    }

room_apart : (conn other more d : ℕ) → other ≡ conn → d ≢ conn → IsApart d (act.Room (record { 0 = other }) more)
room_apart conn other more d e n =
    let apart : nat_eq other d ≡ false = grind (arith, nat_tests) in
    record { sent = refl; finish = refl; arrival = refl; still = record { credit = λ before. rw apart refl; failure = refl } }

failure_apart : (conn other d : ℕ) → other ≡ conn → d ≢ conn → IsApart d (act.WriteFails (record { 0 = other }))
failure_apart conn other d e n =
    let apart : nat_eq other d ≡ false = grind (arith, nat_tests) in
    record { sent = refl; finish = refl; arrival = refl; still = record { credit = λ before. refl; failure = apart } }

changes_alike : (what : Change) (link : LinkState) → Alike link (changes what link)
changes_alike what link = record { given = refl; taken = refl; writes = refl; ended = refl; broken = refl; left = omega arith }

-- an act that changes what a link takes: it is told of where it is live
changed : (what : Change) (one : Act) (conn i : ℕ) (old new : MemNetState) (link : LinkState) → IsChanging conn what one → IsOn (event.Writable (record { 0 = conn })) conn old one → IsNext one old new → Moves conn i old new link → ((d : ℕ) → d ≢ conn → IsApart d one)
    → passes_by one ≡ [] → arrives_by one ≡ [] → sent_by conn one ≡ [] → finish_by conn one ≡ finish.Later → link ≡ changes what (link_at old conn)
    → length new.links ≡ length old.links → AllTold old → Quiet old new → new.rested ≡ false → (tells : Bool) → tells ≡ (link_at old conn).live → Leaves (if tells then Some (event.Writable (record { 0 = conn })) else None) old new
changed what one conn i old new link is on n m apart p r sent ends e links told quiet rest tells t =
    let before = take old.done old.acts in
    let sound : is_sound_after before one ≡ true = sound_at old.acts old.done one n.follows.sound n.at in
    let came : has_arrived before conn ≡ true = changing_came before what conn one sound is in
    let live : link.live ≡ (link_at old conn).live = ap (λ l. l.live) e in
    let due : link.due ≡ (link_at old conn).due = ap (λ l. l.due) e in
    let writable : link.writable ≡ ((link_at old conn).writable || (link_at old conn).live) = ap (λ l. l.writable) e in
    let alike : Alike (link_at old conn) link = rw e (changes_alike what (link_at old conn)) in
    let told_new : AllTold new = told_moved conn i old new link m told (λ l ready. due ∙ told conn (sym live ∙ l) (ap is_ready (sym e) ∙ ready)) in
    let fit : has_arrived old.acts conn ≡ true → LinkFollows conn (before ++ one ∷ []) (drop new.done new.acts) old.whole link = λ a.
    rw e (fits_change what conn before (drop new.done new.acts) one old.whole (link_at old conn) is sound came sent ends (rw (← (next_rest one old new n)) (n.follows.fits conn a))) in
    record {
      follows = followed one old new n links (fits_all one conn i old new link n m apart fit) (answers_quiet one old new n p quiet.answers) told_new (λ r. cc);
      told = told_new;
      does = told_if (event.Writable (record { 0 = conn })) one conn old new on refl n told_new
          (λ is. frees one conn i old new link n m alike quiet p r live is due (due_of (link_at old conn).writable (link_at old conn).live link.writable writable is) rest)
          (λ off. skips one conn i old new link n m alike quiet p r live due (due_same (link_at old conn).writable (link_at old conn).live link.writable writable off)) tells t;
    }

pub change_leaves : (what : Change) (one : Act) (conn i : ℕ) (old new : MemNetState) (link : LinkState) → IsChanging conn what one → IsNext one old new → Moves conn i old new link → link ≡ changes what (link_at old conn)
    → length new.links ≡ length old.links → AllTold old → Quiet old new → new.rested ≡ false → (tells : Bool) → tells ≡ (link_at old conn).live → Leaves (if tells then Some (event.Writable (record { 0 = conn })) else None) old new
change_leaves what (act.Room other more) conn i old new link s n m e links told quiet rest tells t =
    changed what (act.Room other more) conn i old new link s (record { event = rw s.0 refl; shut = λ h. rw s.0 h }) n m (λ d apart. room_apart conn other.0 more d s.0 apart) refl refl refl refl e links told quiet rest tells t
change_leaves what (act.WriteFails other) conn i old new link s n m e links told quiet rest tells t =
    changed what (act.WriteFails other) conn i old new link s (record { event = rw s.0 refl; shut = λ h. rw s.0 h }) n m (λ d apart. failure_apart conn other.0 d s.0 apart) refl refl refl refl e links told quiet rest tells t
change_leaves what (act.Arrive other credit) conn i old new link s n m e links told quiet rest tells t = absurd s
change_leaves what (act.Octets other octets) conn i old new link s n m e links told quiet rest tells t = absurd s
change_leaves what (act.End other) conn i old new link s n m e links told quiet rest tells t = absurd s
change_leaves what (act.ReadFails other) conn i old new link s n m e links told quiet rest tells t = absurd s
change_leaves what act.Tick conn i old new link s n m e links told quiet rest tells t = absurd s
change_leaves what act.Turn conn i old new link s n m e links told quiet rest tells t = absurd s

send_apart : (conn other d : ℕ) (octets : List ℕ) → other ≡ conn → d ≢ conn → IsApart d (act.Octets (record { 0 = other }) octets)
send_apart conn other d octets e n =
    let apart : nat_eq other d ≡ false = grind (arith, nat_tests) in
    record { sent = rw apart refl; finish = refl; arrival = refl; still = record { credit = λ before. refl; failure = refl } }

-- the octets that come, and those that are left, are those that were coming
split_length : (n : ℕ) (xs : List ℕ) → length (take n xs) + length (drop n xs) ≡ length xs
split_length n xs = sym (length-append (take n xs) (drop n xs)) ∙ ap length (take-append-drop n xs)

fewer : (due live : Bool) → (if due || live then 0 else 1) ≤ (if due then 0 else 1)
fewer true live = omega arith
fewer false true = omega arith
fewer false false = omega arith

comes_alike : (count : ℕ) (link : LinkState) → Alike link (comes count link)
comes_alike count link =
    let split = split_length count link.coming in
    let more = length-append link.waiting (take count link.coming) in
    let less = fewer link.due link.live in
    record { given = refl; taken = refl; writes = refl; ended = refl; broken = refl; left = rw more (omega arith) }

finishes_alike : (end : Finish) (link : LinkState) → Alike link (finishes end link)
finishes_alike end link =
    let less = fewer link.due link.live in
    record { given = refl; taken = refl; writes = refl; ended = refl; broken = refl; left = omega arith }

not_ended : (arrived ended : Bool) → (arrived && not ended) ≡ true → ended ≡ false
not_ended arrived ended h = grind arith

pub come_leaves : (count : ℕ) (one : Act) (conn i : ℕ) (old new : MemNetState) (link : LinkState) → IsSending conn count one → IsNext one old new → Moves conn i old new link → link ≡ comes count (link_at old conn)
    → length new.links ≡ length old.links → AllTold old → Quiet old new → new.rested ≡ false → (tells : Bool) → tells ≡ (link_at old conn).live → Leaves (if tells then Some (event.Readable (record { 0 = conn })) else None) old new
come_leaves count (act.Octets other octets) conn i old new link s n m e links told quiet rest tells t =
    let one = act.Octets other octets in
    let before = take old.done old.acts in
    let sound : is_sound_after before one ≡ true = sound_at old.acts old.done one n.follows.sound n.at in
    let can : can_send before other.0 ≡ true = grind arith in
    let came_there : has_arrived before other.0 ≡ true = grind arith in
    let came : has_arrived before conn ≡ true = rw (← s.0) came_there in
    let open_there : has_ended before other.0 ≡ false = not_ended (has_arrived before other.0) (has_ended before other.0) can in
    let open_yet : has_ended before conn ≡ false = rw (← s.0) open_there in
    let positive : nat_le 1 (length octets) ≡ true = grind arith in
    let some : 0 < length octets = grind (arith, nat_tests) in
    let same : nat_eq other.0 conn ≡ true = grind (arith, nat_tests) in
    let sent : sent_by conn one ≡ octets = rw same refl in
    let here : has_arrived old.acts conn ≡ true → LinkFollows conn (before ++ one ∷ []) (drop new.done new.acts) old.whole link = λ a.
    rw (e, ← s.1) (fits_come conn before (drop new.done new.acts) one octets ((link_at old conn).due || (link_at old conn).live) old.whole (link_at old conn) came open_yet sent refl (record { credit = λ before. refl; failure = refl }) some
    (rw (← (next_rest one old new n)) (n.follows.fits conn a))) in
    comes_leaves one conn i old new link (record { event = rw s.0 refl; shut = λ h. rw s.0 h }) n m (λ d apart. send_apart conn other.0 d octets s.0 apart) refl refl here (rw e (comes_alike count (link_at old conn)))
    (ap (λ l. l.live) e) (ap (λ l. l.due) e) (ap (λ l. l.writable) e) links told quiet rest tells t
come_leaves count (act.Arrive other credit) conn i old new link s n m e links told quiet rest tells t = absurd s
come_leaves count (act.End other) conn i old new link s n m e links told quiet rest tells t = absurd s
come_leaves count (act.ReadFails other) conn i old new link s n m e links told quiet rest tells t = absurd s
come_leaves count (act.Room other more) conn i old new link s n m e links told quiet rest tells t = absurd s
come_leaves count (act.WriteFails other) conn i old new link s n m e links told quiet rest tells t = absurd s
come_leaves count act.Tick conn i old new link s n m e links told quiet rest tells t = absurd s
come_leaves count act.Turn conn i old new link s n m e links told quiet rest tells t = absurd s

pub coming_long : (count : ℕ) (one : Act) (conn : ℕ) (old : MemNetState) → FollowsSchedule old → slice_get old.acts old.done ≡ Some one → IsSending conn count one → count ≤ length (link_at old conn).coming
coming_long count (act.Octets other octets) conn old f e s =
    let one = act.Octets other octets in
    let rest = drop (old.done + 1) old.acts in
    let came : has_arrived old.acts conn ≡ true = sending_arrived old.acts old.done count conn one f.sound e s in
    let same : nat_eq other.0 conn ≡ true = grind (arith, nat_tests) in
    let sent_is : sent_by conn one ≡ octets = rw same refl in
    let coming : (link_at old conn).coming ≡ octets ++ sent conn rest = (f.fits conn came).coming ∙ ap (sent conn) (drop_next old.acts old.done one e) ∙ ap (λ l. l ++ sent conn rest) sent_is in
    let long : length (link_at old conn).coming ≡ length octets + length (sent conn rest) = ap length coming ∙ length-append octets (sent conn rest) in
    let count_is = s.1 in
    omega arith
coming_long count (act.Arrive other credit) conn old f e s = absurd s
coming_long count (act.End other) conn old f e s = absurd s
coming_long count (act.ReadFails other) conn old f e s = absurd s
coming_long count (act.Room other more) conn old f e s = absurd s
coming_long count (act.WriteFails other) conn old f e s = absurd s
coming_long count act.Tick conn old f e s = absurd s
coming_long count act.Turn conn old f e s = absurd s

end_apart : (conn other d : ℕ) → other ≡ conn → d ≢ conn → IsApart d (act.End (record { 0 = other }))
end_apart conn other d e n = let apart : nat_eq other d ≡ false = grind (arith, nat_tests) in record { sent = refl; finish = rw apart refl; arrival = refl; still = record { credit = λ before. refl; failure = refl } }

fail_apart : (conn other d : ℕ) → other ≡ conn → d ≢ conn → IsApart d (act.ReadFails (record { 0 = other }))
fail_apart conn other d e n = let apart : nat_eq other d ≡ false = grind (arith, nat_tests) in record { sent = refl; finish = rw apart refl; arrival = refl; still = record { credit = λ before. refl; failure = refl } }

-- an act that ends the octets of a connection
finished : (one : Act) (other : ℕ) (end : Finish) (conn i : ℕ) (old new : MemNetState) (link : LinkState) → other ≡ conn → can_send (take old.done old.acts) other ≡ true → ((d : ℕ) → d ≢ conn → IsApart d one)
    → passes_by one ≡ [] → arrives_by one ≡ [] → sent_by conn one ≡ [] → finish_by conn one ≡ end → IsStill conn one → is_finish end ≡ true
    → IsOn (event.Readable (record { 0 = conn })) conn old one → IsNext one old new → Moves conn i old new link → link ≡ finishes end (link_at old conn)
    → length new.links ≡ length old.links → AllTold old → Quiet old new → new.rested ≡ false → (tells : Bool) → tells ≡ (link_at old conn).live → Leaves (if tells then Some (event.Readable (record { 0 = conn })) else None) old new
finished one other end conn i old new link s can apart p r sent ends still is on n m e links told quiet rest tells t =
    let before = take old.done old.acts in
    let came_there : has_arrived before other ≡ true = grind arith in
    let came : has_arrived before conn ≡ true = rw (← s) came_there in
    let open_there : has_ended before other ≡ false = not_ended (has_arrived before other) (has_ended before other) can in
    let open_yet : has_ended before conn ≡ false = rw (← s) open_there in
    let here : has_arrived old.acts conn ≡ true → LinkFollows conn (before ++ one ∷ []) (drop new.done new.acts) old.whole link = λ a.
    rw e (fits_finish conn before (drop new.done new.acts) one end ((link_at old conn).due || (link_at old conn).live) old.whole (link_at old conn) came open_yet sent ends still is
    (rw (← (next_rest one old new n)) (n.follows.fits conn a))) in
    comes_leaves one conn i old new link on n m apart p r here (rw e (finishes_alike end (link_at old conn))) (ap (λ l. l.live) e) (ap (λ l. l.due) e) (ap (λ l. l.writable) e) links told quiet rest tells t

pub finish_leaves : (end : Finish) (one : Act) (conn i : ℕ) (old new : MemNetState) (link : LinkState) → IsFinishing conn end one → IsNext one old new → Moves conn i old new link → link ≡ finishes end (link_at old conn)
    → length new.links ≡ length old.links → AllTold old → Quiet old new → new.rested ≡ false → (tells : Bool) → tells ≡ (link_at old conn).live → Leaves (if tells then Some (event.Readable (record { 0 = conn })) else None) old new
finish_leaves end (act.End other) conn i old new link s n m e links told quiet rest tells t =
    let one = act.End other in
    let before = take old.done old.acts in
    let sound : is_sound_after before one ≡ true = sound_at old.acts old.done one n.follows.sound n.at in
    let can : can_send before other.0 ≡ true = grind arith in
    let same : nat_eq other.0 conn ≡ true = grind (arith, nat_tests) in
    let end_is : finish_by conn one ≡ end = rw same (sym s.1) in
    finished one other.0 end conn i old new link s.0 can (λ d apart. end_apart conn other.0 d s.0 apart) refl refl refl end_is (record { credit = λ before. refl; failure = refl }) (rw s.1 refl) (record { event = rw s.0 refl; shut = λ h. rw s.0 h }) n m e links told quiet rest tells t
finish_leaves end (act.ReadFails other) conn i old new link s n m e links told quiet rest tells t =
    let one = act.ReadFails other in
    let before = take old.done old.acts in
    let sound : is_sound_after before one ≡ true = sound_at old.acts old.done one n.follows.sound n.at in
    let can : can_send before other.0 ≡ true = grind arith in
    let same : nat_eq other.0 conn ≡ true = grind (arith, nat_tests) in
    let end_is : finish_by conn one ≡ end = rw same (sym s.1) in
    finished one other.0 end conn i old new link s.0 can (λ d apart. fail_apart conn other.0 d s.0 apart) refl refl refl end_is (record { credit = λ before. refl; failure = refl }) (rw s.1 refl) (record { event = rw s.0 refl; shut = λ h. rw s.0 h }) n m e links told quiet rest tells t
finish_leaves end (act.Arrive other credit) conn i old new link s n m e links told quiet rest tells t = absurd s
finish_leaves end (act.Octets other octets) conn i old new link s n m e links told quiet rest tells t = absurd s
finish_leaves end (act.Room other more) conn i old new link s n m e links told quiet rest tells t = absurd s
finish_leaves end (act.WriteFails other) conn i old new link s n m e links told quiet rest tells t = absurd s
finish_leaves end act.Tick conn i old new link s n m e links told quiet rest tells t = absurd s
finish_leaves end act.Turn conn i old new link s n m e links told quiet rest tells t = absurd s
