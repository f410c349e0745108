-- Lemmas on what the acts of a net in memory tell.
use Rattle.mem_net.proofs.Below.{EndsWithTurnAct, ◌≡◌, ℕ, ◌+◌, ◌-◌, ◌^◌, ◌<◌, ◌≤◌, List, [], ◌∷◌, ◌++◌, length, take, drop, min, max, Bool, true, false, Some, None, nat_lt, refl, sym, ◌∙◌, ap, arith, length-append, if◌then◌else◌, list_all, sum_by, fold, cases_eq, nat_tests, append-nil, fold_push, flat_map-append, is_rising, has_arrived, is_sound_after, is_number, LinkState, new_link, is_ready, SameTraffic, SameLinks, SameNet, Nexts, arrives_by, arrivals, passes_by, passes, MemNetState, passed_by, link_at, readies_left, net_state, LinkFollows, AllTold, FollowsSchedule, Skips, Act, NetEvent, Option, arrives}
use Rattle.link_trait.specs.declared.act.Act.TheVariants as act
use Rattle.link_trait.specs.declared.net.NetEvent.TheVariants as event
use Rattle.mem_net.proofs.Schedules.{sound_at, below}
use Rattle.mem_net.proofs.Moving.{Moves, no_stops, either, moved_elsewhere, moved_here, moved_same, moved_but, moved_sum, IsNext, next_within, next_done, passes_few, passes_push, passed_before, quiet_passed}

-- an answer that passes is at the end
pub passing_passed : (one : Act) (answer : NetEvent) (old new : MemNetState) → IsNext one old new → passes_by one ≡ answer ∷ [] → new.answers ≡ min (old.answers + 1) (2 ^ 64 - 1)
    → (new.answers ≡ length (passes (take new.done new.acts))) × (passed_by (take new.done new.acts) new.answers ≡ passed_by (take old.done old.acts) old.answers ++ answer ∷ []) × (length (passed_by (take old.done old.acts) old.answers) < 2 ^ 64 - 1)
passing_passed one answer old new n p a =
    let before = take old.done old.acts in
    let count : old.answers ≡ length (passes before) = n.follows.stops (next_within one old new n) in
    let few : length (passes before) ≤ old.done = passes_few old.done old.acts in
    let within : old.done < length old.acts = next_within one old new n in
    let most : length old.acts < 2 ^ 64 = n.follows.few in
    let next : new.answers ≡ length (passes before) + 1 = omega arith in
    let more : passes (take new.done new.acts) ≡ passes before ++ answer ∷ [] = ap passes (next_done one old new n) ∙ passes_push before one ∙ rw p refl in
    let long : length (passes (take new.done new.acts)) ≡ length (passes before) + 1 = ap length more ∙ length-append (passes before) (answer ∷ []) in
    let all : new.answers ≡ length (passes (take new.done new.acts)) = next ∙ sym long in
    let old_passed : passed_by before old.answers ≡ passes before = passed_before one old new n in
    let short : length (passes before) < 2 ^ 64 - 1 = omega arith in
    (all, no_stops (take new.done new.acts) new.answers all ∙ more ∙ ap (λ l. l ++ answer ∷ []) (sym old_passed), rw old_passed short)

same_either : {A : Type 0} (b : Bool) (x : A) → (if b then x else x) ≡ x
same_either true x = refl
same_either false x = refl

pub nothing_passes : (passed : List NetEvent) → (if nat_lt (length passed) (2 ^ 64 - 1) then passed ++ [] else passed) ≡ passed
nothing_passes passed = rw (append-nil passed) (same_either (nat_lt (length passed) (2 ^ 64 - 1)) passed)

one_passes : (passed : List NetEvent) (answer : NetEvent) → length passed < 2 ^ 64 - 1 → (if nat_lt (length passed) (2 ^ 64 - 1) then passed ++ answer ∷ [] else passed) ≡ passed ++ answer ∷ []
one_passes passed answer h = let test : nat_lt (length passed) (2 ^ 64 - 1) ≡ true = grind (arith, nat_tests) in rw test refl

-- what changes of a link where octets come, or its octets end
pub record Alike (old new : LinkState) : Type 0 where
  pub given : new.given ≡ old.given
  pub taken : new.taken ≡ old.taken
  pub writes : new.writes ≡ old.writes
  pub ended : new.ended ≡ old.ended
  pub broken : new.broken ≡ old.broken
  pub left : readies_left new ≤ readies_left old

pub same_traffic : (c i : ℕ) (old new : MemNetState) (link : LinkState) → Moves c i old new link → Alike (link_at old c) link → SameTraffic (net_state old) (net_state new)
same_traffic c i old new link m a = record {
  given = moved_same (λ l. l.given) c i old new link m a.given;
  taken = moved_same (λ l. l.taken) c i old new link m a.taken;
  wrote = moved_same (λ l. l.writes) c i old new link m a.writes;
  ended = moved_same (λ l. l.ended) c i old new link m a.ended;
  broken = moved_same (λ l. l.broken) c i old new link m a.broken;
}

pub same_net : (old new : MemNetState) → new.acts ≡ old.acts → SameNet (net_state old) (net_state new)
same_net old new e = record { tells = refl; schedule = ap Some e }

pub less_room : (one : Act) (old new : MemNetState) → IsNext one old new → sum_by readies_left new.links ≤ sum_by readies_left old.links → (net_state new).room < (net_state old).room
less_room one old new n s =
    let within = next_within one old new n in
    let acts : length new.acts ≡ length old.acts = ap length n.acts in
    let one_more = n.one_more in
    omega arith

-- an act that lets no connection arrive
pub same_named : (one : Act) (old new : MemNetState) → IsNext one old new → arrives_by one ≡ [] → (net_state new).named ≡ (net_state old).named
same_named one old new n a =
    let same : arrivals (take new.done new.acts) ≡ arrivals (take old.done old.acts) =
    ap arrivals (next_done one old new n) ∙ flat_map-append arrives_by (take old.done old.acts) (one ∷ []) ∙ ap (λ l. arrivals (take old.done old.acts) ++ l) (append-nil (arrives_by one)) ∙ rw a (append-nil (arrivals (take old.done old.acts))) in
    ap (fold max 0) same

pub same_least : (old new : ℕ) → new ≡ old → old ≤ new
same_least old new e = omega arith

-- what stays beside the links
pub record Quiet (old new : MemNetState) : Type 0 where
  pub answers : new.answers ≡ old.answers
  pub faults : new.faults ≡ old.faults
  pub port : new.port ≡ old.port

pub skips : (one : Act) (c i : ℕ) (old new : MemNetState) (link : LinkState) → IsNext one old new → Moves c i old new link → Alike (link_at old c) link → Quiet old new
    → passes_by one ≡ [] → arrives_by one ≡ [] → link.live ≡ (link_at old c).live → link.due ≡ (link_at old c).due → link.writable ≡ (link_at old c).writable → Skips (net_state old) (net_state new)
skips one c i old new link n m a q p r live d w =
    let sum = moved_sum c i old new link m in
    let left = a.left in
    let room = less_room one old new n (omega arith) in
    record {
      net = same_net old new n.acts;
      traffic = same_traffic c i old new link m a;
      passed = quiet_passed one old new n p q.answers;
      links = record {
        live = moved_same (λ l. l.live) c i old new link m live;
        named = same_named one old new n r;
        due = moved_same (λ l. l.due) c i old new link m d;
        writable = moved_same (λ l. l.writable) c i old new link m w;
      };
      room = omega arith;
      port = q.port;
      faults = q.faults;
    }

pub readies : (one : Act) (conn i : ℕ) (old new : MemNetState) (link : LinkState) → IsNext one old new → Moves conn i old new link → Alike (link_at old conn) link → Quiet old new
    → passes_by one ≡ [] → arrives_by one ≡ [] → link.live ≡ (link_at old conn).live → (link_at old conn).live ≡ true → link.due ≡ true → link.writable ≡ (link_at old conn).writable → new.rested ≡ false → Nexts (event.Readable (record { 0 = conn })) (net_state old) (net_state new)
readies one conn i old new link n m a q p r same live due writable rest =
    let sum = moved_sum conn i old new link m in
    let left = a.left in
    record {
      net = same_net old new n.acts;
      told = λ t. record {
        traffic = same_traffic conn i old new link m a;
        fresh = tt;
        passed = quiet_passed one old new n p q.answers ∙ sym (nothing_passes (passed_by (take old.done old.acts) old.answers));
        rested = rest;
      };
      event = record {
        was = live;
        due = ap (λ l. l.due) (moved_here conn i old new link m) ∙ due;
        due_elsewhere = moved_but (λ l. l.due) conn i old new link m;
        live = moved_same (λ l. l.live) conn i old new link m same;
        named = same_named one old new n r;
        writable = moved_same (λ l. l.writable) conn i old new link m writable;
        room = less_room one old new n (omega arith);
      };
      port = q.port;
      faults = same_least old.faults new.faults q.faults;
    }

pub frees : (one : Act) (conn i : ℕ) (old new : MemNetState) (link : LinkState) → IsNext one old new → Moves conn i old new link → Alike (link_at old conn) link → Quiet old new
    → passes_by one ≡ [] → arrives_by one ≡ [] → link.live ≡ (link_at old conn).live → (link_at old conn).live ≡ true → link.due ≡ (link_at old conn).due → link.writable ≡ true → new.rested ≡ false → Nexts (event.Writable (record { 0 = conn })) (net_state old) (net_state new)
frees one conn i old new link n m a q p r same live due writable rest =
    let sum = moved_sum conn i old new link m in
    let left = a.left in
    record {
      net = same_net old new n.acts;
      told = λ t. record {
        traffic = same_traffic conn i old new link m a;
        fresh = tt;
        passed = quiet_passed one old new n p q.answers ∙ sym (nothing_passes (passed_by (take old.done old.acts) old.answers));
        rested = rest;
      };
      event = record {
        was = live;
        writable = ap (λ l. l.writable) (moved_here conn i old new link m) ∙ writable;
        writable_elsewhere = moved_but (λ l. l.writable) conn i old new link m;
        live = moved_same (λ l. l.live) conn i old new link m same;
        named = same_named one old new n r;
        due = moved_same (λ l. l.due) conn i old new link m due;
        room = less_room one old new n (omega arith);
      };
      port = q.port;
      faults = same_least old.faults new.faults q.faults;
    }

-- no link moved
pub unmoved : (old new : MemNetState) → new.acts ≡ old.acts → new.links ≡ old.links → (d : ℕ) → link_at new d ≡ link_at old d
unmoved old new a l d = rw (a, l) refl

pub unmoved_traffic : (old new : MemNetState) → new.acts ≡ old.acts → new.links ≡ old.links → SameTraffic (net_state old) (net_state new)
unmoved_traffic old new a l = record {
  given = λ d. ap (λ x. x.given) (unmoved old new a l d);
  taken = λ d. ap (λ x. x.taken) (unmoved old new a l d);
  wrote = λ d. ap (λ x. x.writes) (unmoved old new a l d);
  ended = λ d. ap (λ x. x.ended) (unmoved old new a l d);
  broken = λ d. ap (λ x. x.broken) (unmoved old new a l d);
}

pub unmoved_links : (old new : MemNetState) → new.acts ≡ old.acts → new.links ≡ old.links → (net_state new).named ≡ (net_state old).named → SameLinks (net_state old) (net_state new)
unmoved_links old new a l n = record {
  live = λ d. ap (λ x. x.live) (unmoved old new a l d);
  named = n;
  due = λ d. ap (λ x. x.due) (unmoved old new a l d);
  writable = λ d. ap (λ x. x.writable) (unmoved old new a l d);
}

-- the greatest of numbers that rise
greatest : (numbers : List ℕ) (first c : ℕ) → first < c → list_all (λ number. nat_lt number c) numbers ≡ true → fold max first numbers < c
greatest [] first c h a = h
greatest (n ∷ ns) first c h a =
    let here : n < c = grind (arith, nat_tests) in
    let rest : list_all (λ number. nat_lt number c) ns ≡ true = grind (arith, nat_tests) in
    greatest ns (max first n) c (omega arith) rest

-- the number of an arrival is above those of all arrivals before
arrival_rises : (conn : ℕ) (credit : Option ℕ) (old new : MemNetState) → IsNext (act.Arrive (record { 0 = conn }) credit) old new → fold max 0 (arrivals (take old.done old.acts)) < conn
arrival_rises conn credit old new n =
    let sound : is_sound_after (take old.done old.acts) (act.Arrive (record { 0 = conn }) credit) ≡ true = sound_at old.acts old.done (act.Arrive (record { 0 = conn }) credit) n.follows.sound n.at in
    let number : is_number conn ≡ true = grind arith in
    let positive : 0 < conn = grind (arith, nat_tests) in
    let rising : is_rising (take old.done old.acts) conn ≡ true = grind arith in
    greatest (arrivals (take old.done old.acts)) 0 conn positive (below (take old.done old.acts) conn ∙ rising)

pub accepts : (conn i : ℕ) (credit : Option ℕ) (old new : MemNetState) (link : LinkState) → IsNext (act.Arrive (record { 0 = conn }) credit) old new → Moves conn i old new link
    → link ≡ arrives credit (link_at old conn) → link_at old conn ≡ new_link (link_at old conn).coming
    → new.answers ≡ min (old.answers + 1) (2 ^ 64 - 1) → new.faults ≡ old.faults → new.port ≡ old.port → new.rested ≡ false
    → Nexts (event.Accept (record { 0 = conn })) (net_state old) (net_state new)
accepts conn i credit old new link n m e quiet answers faults port rest =
    let one = act.Arrive (record { 0 = conn }) credit in
    let passed = passing_passed one (event.Accept (record { 0 = conn })) old new n refl answers in
    let here : link_at new conn ≡ arrives credit (link_at old conn) = moved_here conn i old new link m ∙ e in
    let rises : fold max 0 (arrivals (take old.done old.acts)) < conn = arrival_rises conn credit old new n in
    let arrived : arrivals (take new.done new.acts) ≡ arrivals (take old.done old.acts) ++ conn ∷ [] = ap arrivals (next_done one old new n) ∙ flat_map-append arrives_by (take old.done old.acts) (one ∷ []) in
    let named : fold max 0 (arrivals (take new.done new.acts)) ≡ max (fold max 0 (arrivals (take old.done old.acts))) conn = ap (fold max 0) arrived ∙ fold_push max 0 (arrivals (take old.done old.acts)) conn in
    let greatest : max (fold max 0 (arrivals (take old.done old.acts))) conn ≡ conn = omega arith in
    let left : readies_left link ≡ readies_left (link_at old conn) = ap readies_left e in
    let sum = moved_sum conn i old new link m in
    record {
      net = same_net old new n.acts;
      told = λ t. record {
        traffic = record {
          given = moved_same (λ l. l.given) conn i old new link m (ap (λ l. l.given) e);
          taken = moved_same (λ l. l.taken) conn i old new link m (ap (λ l. l.taken) e);
          wrote = moved_same (λ l. l.writes) conn i old new link m (ap (λ l. l.writes) e);
          ended = moved_same (λ l. l.ended) conn i old new link m (ap (λ l. l.ended) e);
          broken = moved_same (λ l. l.broken) conn i old new link m (ap (λ l. l.broken) e);
        };
        fresh = record {
          given = ap (λ l. l.given) here ∙ ap (λ l. l.given) quiet;
          taken = ap (λ l. l.taken) here ∙ ap (λ l. l.taken) quiet;
          wrote = ap (λ l. l.writes) here ∙ ap (λ l. l.writes) quiet;
          ended = ap (λ l. l.ended) here ∙ ap (λ l. l.ended) quiet;
          broken = ap (λ l. l.broken) here ∙ ap (λ l. l.broken) quiet;
        };
        passed = passed.1 ∙ sym (one_passes (passed_by (take old.done old.acts) old.answers) (event.Accept (record { 0 = conn })) passed.2);
        rested = rest;
      };
      event = record {
        rises = rises;
        named = named ∙ greatest;
        was = ap (λ l. l.live) quiet;
        live = ap (λ l. l.live) here;
        due = ap (λ l. l.due) here ∙ ap (λ l. l.due) quiet;
        writable = ap (λ l. l.writable) here ∙ ap (λ l. l.writable) quiet;
        live_elsewhere = moved_but (λ l. l.live) conn i old new link m;
        due_elsewhere = moved_but (λ l. l.due) conn i old new link m;
        writable_elsewhere = moved_but (λ l. l.writable) conn i old new link m;
        room = less_room one old new n (omega arith);
      };
      port = port;
      faults = same_least old.faults new.faults faults;
    }

-- Tick and Turn
pub ticks : (old new : MemNetState) → IsNext act.Tick old new → new.links ≡ old.links → new.answers ≡ min (old.answers + 1) (2 ^ 64 - 1) → new.faults ≡ old.faults → new.port ≡ old.port → new.rested ≡ false
    → Nexts event.Tick (net_state old) (net_state new)
ticks old new n l answers faults port rest =
    let passed = passing_passed act.Tick event.Tick old new n refl answers in
    let sum : sum_by readies_left new.links ≡ sum_by readies_left old.links = ap (sum_by readies_left) l in
    record {
      net = same_net old new n.acts;
      told = λ t. record {
        traffic = unmoved_traffic old new n.acts l;
        fresh = tt;
        passed = passed.1 ∙ sym (one_passes (passed_by (take old.done old.acts) old.answers) event.Tick passed.2);
        rested = rest;
      };
      event = record { links = unmoved_links old new n.acts l (same_named act.Tick old new n refl); room = less_room act.Tick old new n (omega arith) };
      port = port;
      faults = same_least old.faults new.faults faults;
    }

pub turns : (old new : MemNetState) → IsNext act.Turn old new → new.links ≡ old.links → new.answers ≡ min (old.answers + 1) (2 ^ 64 - 1) → new.faults ≡ old.faults → new.port ≡ old.port → new.rested ≡ true
    → Nexts event.Turn (net_state old) (net_state new)
turns old new n l answers faults port rest =
    let passed = passing_passed act.Turn event.Turn old new n refl answers in
    record {
      net = same_net old new n.acts;
      told = λ t. record {
        traffic = unmoved_traffic old new n.acts l;
        fresh = tt;
        passed = passed.1 ∙ sym (one_passes (passed_by (take old.done old.acts) old.answers) event.Turn passed.2);
        rested = rest;
      };
      event = unmoved_links old new n.acts l (same_named act.Turn old new n refl);
      port = port;
      faults = same_least old.faults new.faults faults;
    }

-- what waits was told, once the link that changes is due where it has to be
pub told_moved : (c i : ℕ) (old new : MemNetState) (link : LinkState) → Moves c i old new link → AllTold old → (link.live ≡ true → is_ready link ≡ true → link.due ≡ true) → AllTold new
told_moved c i old new link m told here d live ready =
    let on : d ≡ c → (link_at new d).due ≡ true = λ h.
    let same : link_at new d ≡ link = ap (link_at new) h ∙ moved_here c i old new link m in
    ap (λ l. l.due) same ∙ here (ap (λ l. l.live) (sym same) ∙ live) (ap is_ready (sym same) ∙ ready) in
    let off : (d ≡ c → ⊥) → (link_at new d).due ≡ true = λ h.
    let same : link_at new d ≡ link_at old d = moved_elsewhere c i old new link m d h in
    ap (λ l. l.due) same ∙ told d (ap (λ l. l.live) (sym same) ∙ live) (ap is_ready (sym same) ∙ ready) in
    either (cases_eq d c) on off

pub told_unmoved : (old new : MemNetState) → new.acts ≡ old.acts → new.links ≡ old.links → AllTold old → AllTold new
told_unmoved old new a l told d live ready =
    let same = unmoved old new a l d in
    ap (λ x. x.due) same ∙ told d (ap (λ x. x.live) (sym same) ∙ live) (ap is_ready (sym same) ∙ ready)

-- the schedule is followed, once the next act was done
pub followed : (one : Act) (old new : MemNetState) → IsNext one old new → length new.links ≡ length old.links
    → ((d : ℕ) → has_arrived new.acts d ≡ true → LinkFollows d (take new.done new.acts) (drop new.done new.acts) new.whole (link_at new d))
    → new.answers ≡ length (passes (take new.done new.acts)) → AllTold new → (new.rested ≡ true → EndsWithTurnAct (take new.done new.acts)) → FollowsSchedule new
followed one old new n links fits answers told turned =
    let within : old.done < length old.acts = next_within one old new n in
    let acts : length new.acts ≡ length old.acts = ap length n.acts in
    let one_more = n.one_more in
    record {
      few = rw acts n.follows.few;
      done = omega arith;
      sound = rw n.acts n.follows.sound;
      links = links ∙ n.follows.links ∙ ap (λ l. length (arrivals l)) (sym n.acts);
      fits = fits;
      passed = omega arith;
      stops = λ h. answers;
      told = λ h. told;
      turned = λ rests less. turned rests;
    }
