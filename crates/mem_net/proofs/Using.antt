-- What a read, a write and a shut do to a net in memory.
use Rattle.mem_net.proofs.Below.{◌≡◌, ℕ, ◌+◌, ◌-◌, ◌^◌, ◌<◌, ◌≤◌, List, [], ◌∷◌, ◌++◌, ◌⊎◌, ◌&&◌, ◌||◌, not, length, take, drop, min, Bool, true, false, nat_lt, refl, sym, ◌∙◌, ap, arith, append_assoc, take-append-drop, length-drop, if◌then◌else◌, inl, inr, cases_lt, take-length, nat_tests, has_arrived, LinkState, is_ready, is_finish, LinkReads, faults_in_answer, Reads, Writes, Shuts, NetGivesWithin, NetGives, Ends, BreaksRead, CountsFault, CountsNetReadFaults, is_end, is_fault, MemNetState, link_at, readies_left, net_state, LinkFollows, AllTold, FollowsSchedule, Act, NetRead, NetWrote, and_right, or_true, subst, nat_le, Option, Some, None, length-append, length-take-le, fold_push, LinkWrites, counted, room_for, credit_of, writes_fail, IsWithin, Takes, TakesByActs, is_short, was_short, takes_less, or_false, list_any-append, SameTrafficBut}
use Rattle.link_trait.specs.declared.net.NetRead.TheVariants as read
use Rattle.link_trait.specs.declared.net.NetWrote.TheVariants as wrote
use Rattle.mem_net.proofs.Moving.{Moves, moved_here, moved_same, moved_but, either}
use Rattle.mem_net.proofs.Telling.{same_least, same_net, told_moved}
use Rattle.mem_net.proofs.Resting.{Touches, touched, touched_passed, touched_named, touched_room, live_arrived, fits_weaker}

rises_below : (old new most : ℕ) → old ≤ most → new ≡ min (old + 1) most → (old < new) ⊎ (new ≡ most)
rises_below old new most h e = either (cases_lt old most) (λ l. inl (omega arith)) (λ g. inr (omega arith))

and_false : (b d : Bool) → d ≡ false → (b && d) ≡ d
and_false true d h = refl
and_false false d h = sym h

-- a fault more, while the count does not stand still
rises : (old new : ℕ) → old < 2 ^ 64 → new ≡ min (old + 1) (2 ^ 64 - 1) → CountsFault old new
rises old new f e = (omega arith, rises_below old new (2 ^ 64 - 1) (omega arith) e)

stays : (old new : ℕ) → old < 2 ^ 64 → new ≡ min (old + 0) (2 ^ 64 - 1) → old ≤ new
stays old new f e = omega arith

read_faults : (answer : NetRead) (old new : ℕ) → old < 2 ^ 64 → new ≡ min (old + faults_in_answer answer) (2 ^ 64 - 1) → CountsNetReadFaults answer old new
read_faults (read.Octets n) old new f e = stays old new f e
read_faults read.Later old new f e = stays old new f e
read_faults read.End old new f e = stays old new f e
read_faults read.Failed old new f e = rises old new f e

fault_or : (b x y : Bool) → ((b && x) || y) ≡ true → (x || y) ≡ true
fault_or true x y h = h
fault_or false x y h = or_true x y h

-- a read leaves a link fit
read_fits : (answer : NetRead) (c : ℕ) (done rest : List Act) (whole : Bool) (room : List ℕ) (old new : LinkState) → old.live ≡ true → LinkReads room answer old new → LinkFollows c done rest whole old → LinkFollows c done rest whole new
read_fits (read.Octets n) c done rest whole room old new live r f =
    let come : has_arrived done c ≡ true = live_arrived c done rest whole old f live in
    let some = r.0 in
    rw r.3 (record {
      came = append_assoc old.given (take n old.waiting) (drop n old.waiting) ∙ ap (λ l. old.given ++ l) (take-append-drop n old.waiting) ∙ f.came;
      coming = f.coming;
      finish = f.finish;
      ready = λ h. cc;
      answered = λ h. let none = ap length (f.answered h).0 in absurd (omega arith);
      ended = f.ended;
      broken = f.broken;
      unbroken = f.unbroken;
      quiet = λ h. cc;
      takes = f.takes;
    })
read_fits read.Later c done rest whole room old new live r f =
    let come : has_arrived done c ≡ true = live_arrived c done rest whole old f live in
    rw r.2 (record {
      came = f.came;
      coming = f.coming;
      finish = f.finish;
      ready = λ h. cc;
      answered = f.answered;
      ended = f.ended;
      broken = f.broken;
      unbroken = f.unbroken;
      quiet = λ h. cc;
      takes = f.takes;
    })
read_fits read.End c done rest whole room old new live r f =
    let come : has_arrived done c ≡ true = live_arrived c done rest whole old f live in
    let end : is_end old.finish ≡ true = rw r.1 refl in
    let fault : is_fault old.finish ≡ false = rw r.1 refl in
    rw r.2 (record {
      came = f.came;
      coming = f.coming;
      finish = f.finish;
      ready = λ h. cc;
      answered = λ h. (r.0, rw r.1 refl);
      ended = sym end;
      broken = λ h. cc;
      unbroken = λ w h. fault_or old.answered (is_fault old.finish) old.failing (f.unbroken w h);
      quiet = λ h. cc;
      takes = f.takes;
    })
read_fits read.Failed c done rest whole room old new live r f =
    let come : has_arrived done c ≡ true = live_arrived c done rest whole old f live in
    let end : is_end old.finish ≡ false = rw r.1 refl in
    let fault : is_fault old.finish ≡ true = rw r.1 refl in
    rw r.2 (record {
      came = f.came;
      coming = f.coming;
      finish = f.finish;
      ready = λ h. cc;
      answered = λ h. (r.0, rw r.1 refl);
      ended = f.ended ∙ and_false old.answered (is_end old.finish) end;
      broken = λ h. refl;
      unbroken = λ w h. rw fault refl;
      quiet = λ h. cc;
      takes = f.takes;
    })

-- what a read does to a link
record ReadLink (answer : NetRead) (space : List ℕ) (old new : LinkState) : Type 0 where
  pub within : NetGivesWithin answer (length space)
  pub given : NetGives answer space old.given new.given
  pub taken : new.taken ≡ old.taken
  pub writes : new.writes ≡ old.writes
  pub ended : Ends answer old.ended new.ended
  pub broken : BreaksRead answer old.broken new.broken
  pub live : new.live ≡ old.live
  pub due : new.due ≡ false
  pub writable : new.writable ≡ old.writable
  pub left : readies_left new ≤ readies_left old

not_due : (due ready : Bool) → (due ≡ true → ready ≡ true) → ready ≡ false → due ≡ false
not_due true ready f h = let r = f refl in cc
not_due false ready f h = refl

-- once a link has answered, it is not due
left_over : (answered due : Bool) → (due ≡ true → not answered ≡ true) → 1 ≤ (if answered then 0 else 1) + (if due then 0 else 1)
left_over true true f = let none = f refl in cc
left_over true false f = omega arith
left_over false due f = omega arith

ready_finish : (waits : Bool) (answered ends : Bool) → waits ≡ false → (waits || (not answered && ends)) ≡ true → not answered ≡ true
ready_finish true answered ends w h = cc
ready_finish false true ends w h = h
ready_finish false false ends w h = refl

not_later : (answered : Bool) → (not answered && false) ≡ false
not_later true = refl
not_later false = refl

read_link : (answer : NetRead) (c : ℕ) (done rest : List Act) (whole : Bool) (space : List ℕ) (old new : LinkState) → 0 < length space → LinkReads space answer old new → LinkFollows c done rest whole old → ReadLink answer space old new
read_link (read.Octets n) c done rest whole space old new some r f =
    let wait = r.0 in
    let count = r.1 in
    let left = length-drop n old.waiting in
    rw r.3 (record {
      within = (omega arith, omega arith);
      given = ap (λ l. old.given ++ l) (sym r.2);
      taken = refl;
      writes = refl;
      ended = refl;
      broken = refl;
      live = refl;
      due = refl;
      writable = refl;
      left = let some_read : 1 ≤ n = omega arith in omega arith;
    })
read_link read.Later c done rest whole space old new some r f =
    let none : is_ready old ≡ false = rw (r.0, r.1) (not_later old.answered) in
    let due : old.due ≡ false = not_due old.due (is_ready old) f.ready none in
    rw r.2 (record { within = tt; given = refl; taken = refl; writes = refl; ended = refl; broken = refl; live = refl; due = refl; writable = refl; left = rw due (omega arith) })
read_link read.End c done rest whole space old new some r f =
    let over = left_over old.answered old.due (λ d. ready_finish (nat_lt 0 (length old.waiting)) old.answered (is_finish old.finish) (rw r.0 refl) (f.ready d)) in
    rw r.2 (record { within = tt; given = refl; taken = refl; writes = refl; ended = refl; broken = refl; live = refl; due = refl; writable = refl; left = omega arith })
read_link read.Failed c done rest whole space old new some r f =
    let over = left_over old.answered old.due (λ d. ready_finish (nat_lt 0 (length old.waiting)) old.answered (is_finish old.finish) (rw r.0 refl) (f.ready d)) in
    rw r.2 (record { within = tt; given = refl; taken = refl; writes = refl; ended = refl; broken = refl; live = refl; due = refl; writable = refl; left = omega arith })

pub neither : (b d : Bool) → (b || d) ≡ false → (b ≡ false) × (d ≡ false)
neither true d h = cc
neither false d h = (refl, h)

-- what passed through the other links is as before
elsewhere : (conn i : ℕ) (old new : MemNetState) (link : LinkState) → Moves conn i old new link → SameTrafficBut conn (net_state old) (net_state new)
elsewhere conn i old new link m = record {
  given = moved_but (λ x. x.given) conn i old new link m;
  taken = moved_but (λ x. x.taken) conn i old new link m;
  wrote = moved_but (λ x. x.writes) conn i old new link m;
  ended = moved_but (λ x. x.ended) conn i old new link m;
  broken = moved_but (λ x. x.broken) conn i old new link m;
}

-- what a read leaves
pub record Read (conn : ℕ) (space : List ℕ) (answer : NetRead) (moved : LinkState) (old new : MemNetState) : Type 0 where
  pub follows : FollowsSchedule new
  pub reads : Reads conn space answer (net_state old) (net_state new)
  pub link : LinkReads space answer (link_at old conn) (link_at new conn)
  pub told : AllTold old → is_ready moved ≡ false → AllTold new

pub read_leaves : (answer : NetRead) (conn i : ℕ) (space : List ℕ) (old new : MemNetState) (link : LinkState) → Touches conn i old new link → LinkReads space answer (link_at old conn) link → (link_at old conn).live ≡ true → has_arrived old.acts conn ≡ true → 0 < length space
    → old.faults < 2 ^ 64 → new.faults ≡ min (old.faults + faults_in_answer answer) (2 ^ 64 - 1) → new.port ≡ old.port → new.rested ≡ false → Read conn space answer link old new
read_leaves answer conn i space old new link t r live came some small faults port rest =
    let before = take old.done old.acts in
    let after = drop old.done old.acts in
    let m = t.moves in
    let fit = t.follows.fits conn came in
    let here = moved_here conn i old new link m in
    let l = read_link answer conn before after old.whole space (link_at old conn) link some r fit in
    let left = l.left in
    let room = touched_room conn i old new link t in
    record {
      follows = touched conn i old new link t (λ a f. fits_weaker conn before after old.whole new.whole link t.whole (read_fits answer conn before after old.whole space (link_at old conn) link live r f)) (λ h. cc) (λ h. cc);
      reads = record {
        net = same_net old new m.acts;
        within = l.within;
        told = λ tells. record {
          given = rw here l.given;
          taken = rw here l.taken;
          wrote = rw here l.writes;
          ended = rw here l.ended;
          broken = rw here l.broken;
          elsewhere = elsewhere conn i old new link m;
          passed = touched_passed conn i old new link t;
          rested = rest;
        };
        live = moved_same (λ x. x.live) conn i old new link m l.live;
        named = touched_named conn i old new link t;
        due = ap (λ x. x.due) here ∙ l.due;
        due_elsewhere = moved_but (λ x. x.due) conn i old new link m;
        writable = moved_same (λ x. x.writable) conn i old new link m l.writable;
        room = omega arith;
        port = port;
        faults = read_faults answer old.faults new.faults small faults;
      };
      link = rw here r;
      told = λ told none. told_moved conn i old new link m told (λ a ready. cc);
    }

-- what a write leaves
pub record Wrote (conn : ℕ) (octets : List ℕ) (answer : NetWrote) (old new : MemNetState) : Type 0 where
  pub follows : FollowsSchedule new
  pub writes : Writes conn octets answer (net_state old) (net_state new)
  pub takes : TakesByActs conn (length octets) answer old new
  pub told : AllTold old → AllTold new

-- a link takes no more than is offered
room_within : (len : ℕ) (credit : Option ℕ) (count : ℕ) → room_for len credit count ≤ len
room_within len None count = omega arith
room_within len (Some credit) count = omega arith

-- the count of its credit stands still too late to matter
room_counted : (len : ℕ) (allowed : Option ℕ) (count : ℕ) → len < 2 ^ 63 → count < 2 ^ 63 → room_for len (counted allowed) count ≡ room_for len allowed count
room_counted len None count l c = refl
room_counted len (Some most) count l c = omega arith

still_writable : (n len : ℕ) (writable : Bool) → n ≤ len → (writable && nat_le len n) ≡ (if nat_lt n len then false else writable)
still_writable n len true h = grind (arith, nat_tests)
still_writable n len false h = grind (arith, nat_tests)

written_within : (len : ℕ) (allowed : Option ℕ) (count : ℕ) → IsWithin count allowed → IsWithin (count + room_for len (counted allowed) count) allowed
written_within len None count w = tt
written_within len (Some most) count w = omega arith

-- a write that is short takes all that is left
short_takes_all : (len : ℕ) (allowed : Option ℕ) (count n : ℕ) → IsWithin count allowed → n ≡ room_for len (counted allowed) count → n < len → count + n < 2 ^ 63 → allowed ≡ Some (count + n)
short_takes_all len None count n w e short few = absurd (omega arith)
short_takes_all len (Some most) count n w e short few = ap Some (omega arith)

all_taken : (len count n : ℕ) (allowed : Option ℕ) → allowed ≡ Some count → n ≡ room_for len (counted allowed) count → allowed ≡ Some (count + n)
all_taken len count n allowed full e =
    let most : room_for len (counted (Some count)) count ≡ 0 = omega arith in
    let none : n ≡ 0 = e ∙ ap (λ (a : Option ℕ). room_for len (counted a) count) full ∙ most in
    full ∙ ap Some (omega arith)

by_writable : (writable : Bool) (len n : ℕ) (allowed : Option ℕ) (count : ℕ) → (writable ≡ false → allowed ≡ Some count) → IsWithin count allowed → n ≡ room_for len (counted allowed) count → count + n < 2 ^ 63
    → (writable && nat_le len n) ≡ false → allowed ≡ Some (count + n)
by_writable true len n allowed count full w e few h = short_takes_all len allowed count n w e (grind (arith, nat_tests)) few
by_writable false len n allowed count full w e few h = all_taken len count n allowed (full refl) e

not_short : (writable : Bool) (len n : ℕ) → (writable && nat_le len n) ≡ true → nat_lt n len ≡ true → ⊥
not_short true len n w s = let most : len ≤ n = grind (arith, nat_tests) in let less : n < len = grind (arith, nat_tests) in omega arith
not_short false len n w s = cc

-- a link that takes any number takes all that it is offered
never_short : (len n count : ℕ) (allowed : Option ℕ) (ever : Bool) → n ≡ room_for len (counted allowed) count → (allowed ≡ None → ever ≡ false) → allowed ≡ None → (ever || nat_lt n len) ≡ false
never_short len n count None ever e all any = rw (all refl) (grind (arith, nat_tests))
never_short len n count (Some most) ever e all any = cc

takes_written : (len n : ℕ) (allowed : Option ℕ) (fails live writable failing short ever : Bool) (credit : Option ℕ) (count : ℕ) → n ≡ room_for len credit count → count + n < 2 ^ 63
    → Takes allowed fails live writable failing short ever credit count → Takes allowed fails live (writable && nat_le len n) failing (nat_lt n len) (ever || nat_lt n len) credit (count + n)
takes_written len n allowed fails live writable failing short ever credit count e few t =
    let taken : n ≡ room_for len (counted allowed) count = e ∙ ap (λ c. room_for len c count) t.credit_is in
    record {
      credit_is = t.credit_is;
      failing_is = t.failing_is;
      few = few;
      within = subst (λ k. IsWithin (count + k) allowed) (sym taken) (written_within len allowed count t.within);
      full = λ l w. by_writable writable len n allowed count (t.full l) t.within taken few w;
      more = λ w s f. absurd (not_short writable len n w s);
      all = never_short len n count allowed ever taken t.all;
    }

took_fits : (c : ℕ) (done rest : List Act) (whole : Bool) (octets : List ℕ) (n : ℕ) (old new : LinkState) → old.live ≡ true → LinkWrites octets (wrote.Took n) old new → length new.taken < 2 ^ 63
    → LinkFollows c done rest whole old → LinkFollows c done rest whole new
took_fits c done rest whole octets n old new live w few f =
    let come : has_arrived done c ≡ true = live_arrived c done rest whole old f live in
    let len = length octets in
    let within : n ≤ len = rw w.1 (room_within len old.credit (length old.taken)) in
    let long : length (old.taken ++ take n octets) ≡ length old.taken + n = length-append old.taken (take n octets) ∙ ap (λ k. length old.taken + k) (length-take-le n octets within) in
    let short : is_short (old.writes ++ (len, n) ∷ []) ≡ nat_lt n len = fold_push (λ before write. nat_lt write.1 write.0) false old.writes (len, n) in
    let ever : was_short (old.writes ++ (len, n) ∷ []) ≡ (was_short old.writes || nat_lt n len) = list_any-append takes_less old.writes ((len, n) ∷ []) ∙ ap (λ b. was_short old.writes || b) (or_false (nat_lt n len)) in
    let fits : length old.taken + n < 2 ^ 63 = rw (← long) (rw w.2 at few) in
    rw w.2 (record {
      came = f.came;
      coming = f.coming;
      finish = f.finish;
      ready = f.ready;
      answered = f.answered;
      ended = f.ended;
      broken = f.broken;
      unbroken = f.unbroken;
      quiet = λ h. cc;
      takes = rw (long, short, ever) (takes_written len n (credit_of c done) (writes_fail c done) old.live old.writable old.failing (is_short old.writes) (was_short old.writes) old.credit (length old.taken) w.1 fits f.takes);
    })

failed_fits : (c : ℕ) (done rest : List Act) (whole now : Bool) (octets : List ℕ) (old new : LinkState) → old.live ≡ true → LinkWrites octets wrote.Failed old new → now ≡ (whole && old.failing) → LinkFollows c done rest whole old → LinkFollows c done rest now new
failed_fits c done rest whole now octets old new live e w f =
    let come : has_arrived done c ≡ true = live_arrived c done rest whole old f live in
    rw e (record {
      came = f.came;
      coming = f.coming;
      finish = f.finish;
      ready = f.ready;
      answered = f.answered;
      ended = f.ended;
      broken = λ h. refl;
      unbroken = λ h b. or_true (old.answered && is_fault old.finish) old.failing (and_right whole old.failing (sym w ∙ h));
      quiet = λ h. cc;
      takes = f.takes;
    })

same_links_told : (conn i : ℕ) (old new : MemNetState) (link : LinkState) → Touches conn i old new link → is_ready link ≡ is_ready (link_at old conn) → link.live ≡ (link_at old conn).live → link.due ≡ (link_at old conn).due → AllTold old → AllTold new
same_links_told conn i old new link t ready live due told =
    told_moved conn i old new link t.moves told (λ l r. due ∙ told conn (sym live ∙ l) (sym ready ∙ r))

pub took_leaves : (conn i : ℕ) (octets : List ℕ) (n : ℕ) (old new : MemNetState) (link : LinkState) → Touches conn i old new link → LinkWrites octets (wrote.Took n) (link_at old conn) link → length link.taken < 2 ^ 63 → length octets < 2 ^ 63
    → (link_at old conn).live ≡ true → has_arrived old.acts conn ≡ true → new.whole ≡ old.whole → new.faults ≡ old.faults → new.port ≡ old.port → new.rested ≡ old.rested → Wrote conn octets (wrote.Took n) old new
took_leaves conn i octets n old new link t w few short live came whole faults port rest =
    let before = take old.done old.acts in
    let after = drop old.done old.acts in
    let m = t.moves in
    let e = w.2 in
    let fit = (t.follows.fits conn came).takes in
    let here = moved_here conn i old new link m ∙ e in
    let room = touched_room conn i old new link t in
    let left : readies_left link ≡ readies_left (link_at old conn) = ap readies_left e in
    let told = same_links_told conn i old new link t (ap is_ready e) (ap (λ x. x.live) e) (ap (λ x. x.due) e) in
    let within : n ≤ length octets = rw w.1 (room_within (length octets) (link_at old conn).credit (length (link_at old conn).taken)) in
    record {
      follows = touched conn i old new link t (λ a f. fits_weaker conn before after old.whole new.whole link t.whole (took_fits conn before after old.whole octets n (link_at old conn) link live w few f)) (λ r. sym rest ∙ r) (λ r. told (t.follows.told (sym rest ∙ r)));
      writes = record {
        net = same_net old new m.acts;
        within = within;
        told = λ tells. record {
          given = ap (λ x. x.given) here;
          taken = ap (λ x. x.taken) here;
          wrote = ap (λ x. x.writes) here;
          ended = ap (λ x. x.ended) here;
          broken = ap (λ x. x.broken) here;
          elsewhere = elsewhere conn i old new link m;
          passed = touched_passed conn i old new link t;
          rested = rest;
        };
        live = moved_same (λ x. x.live) conn i old new link m (ap (λ x. x.live) e);
        named = touched_named conn i old new link t;
        due = moved_same (λ x. x.due) conn i old new link m (ap (λ x. x.due) e);
        writable = ap (λ x. x.writable) here ∙ still_writable n (length octets) (link_at old conn).writable within;
        writable_elsewhere = moved_but (λ x. x.writable) conn i old new link m;
        room = omega arith;
        port = port;
        faults = same_least old.faults new.faults faults;
      };
      takes = (sym fit.failing_is ∙ w.0, w.1 ∙ ap (λ c. room_for (length octets) c (length (link_at old conn).taken)) fit.credit_is ∙ room_counted (length octets) (credit_of conn before) (length (link_at old conn).taken) short fit.few, whole);
      told = told;
    }

pub fail_leaves : (conn i : ℕ) (octets : List ℕ) (old new : MemNetState) (link : LinkState) → Touches conn i old new link → LinkWrites octets wrote.Failed (link_at old conn) link
    → (link_at old conn).live ≡ true → has_arrived old.acts conn ≡ true → new.whole ≡ (old.whole && (link_at old conn).failing) → old.faults < 2 ^ 64 → new.faults ≡ min (old.faults + 1) (2 ^ 64 - 1) → new.port ≡ old.port → new.rested ≡ old.rested → Wrote conn octets wrote.Failed old new
fail_leaves conn i octets old new link t e live came whole small faults port rest =
    let before = take old.done old.acts in
    let after = drop old.done old.acts in
    let m = t.moves in
    let here = moved_here conn i old new link m ∙ e in
    let room = touched_room conn i old new link t in
    let left : readies_left link ≡ readies_left (link_at old conn) = ap readies_left e in
    let told = same_links_told conn i old new link t (ap is_ready e) (ap (λ x. x.live) e) (ap (λ x. x.due) e) in
    record {
      follows = touched conn i old new link t (λ a f. failed_fits conn before after old.whole new.whole octets (link_at old conn) link live e whole f) (λ r. sym rest ∙ r) (λ r. told (t.follows.told (sym rest ∙ r)));
      writes = record {
        net = same_net old new m.acts;
        within = tt;
        told = λ tells. record {
          given = ap (λ x. x.given) here;
          taken = ap (λ x. x.taken) here;
          wrote = ap (λ x. x.writes) here;
          ended = ap (λ x. x.ended) here;
          broken = ap (λ x. x.broken) here;
          elsewhere = elsewhere conn i old new link m;
          passed = touched_passed conn i old new link t;
          rested = rest;
        };
        live = moved_same (λ x. x.live) conn i old new link m (ap (λ x. x.live) e);
        named = touched_named conn i old new link t;
        due = moved_same (λ x. x.due) conn i old new link m (ap (λ x. x.due) e);
        writable = ap (λ x. x.writable) here;
        writable_elsewhere = moved_but (λ x. x.writable) conn i old new link m;
        room = omega arith;
        port = port;
        faults = rises old.faults new.faults small faults;
      };
      takes = whole ∙ ap (λ b. old.whole && b) (t.follows.fits conn came).takes.failing_is;
      told = told;
    }

-- what a shut leaves
pub record Shut (conn : ℕ) (old new : MemNetState) : Type 0 where
  pub follows : FollowsSchedule new
  pub shuts : Shuts conn (net_state old) (net_state new)
  pub told : AllTold old → AllTold new

shut_fits : (c : ℕ) (done rest : List Act) (whole : Bool) (old new : LinkState) → old.live ≡ true → new ≡ record old { live = false } → LinkFollows c done rest whole old → LinkFollows c done rest whole new
shut_fits c done rest whole old new live e f =
    let come : has_arrived done c ≡ true = live_arrived c done rest whole old f live in
    rw e (record {
      came = f.came;
      coming = f.coming;
      finish = f.finish;
      ready = f.ready;
      answered = f.answered;
      ended = f.ended;
      broken = f.broken;
      unbroken = f.unbroken;
      quiet = λ h. cc;
      takes = record { credit_is = f.takes.credit_is; failing_is = f.takes.failing_is; few = f.takes.few; within = f.takes.within; full = λ l h. cc; more = f.takes.more; all = f.takes.all };
    })

pub shut_leaves : (conn i : ℕ) (old new : MemNetState) (link : LinkState) → Touches conn i old new link → link ≡ record (link_at old conn) { live = false } → (link_at old conn).live ≡ true → new.faults ≡ old.faults → new.port ≡ old.port → new.rested ≡ old.rested → Shut conn old new
shut_leaves conn i old new link t e live faults port rest =
    let before = take old.done old.acts in
    let after = drop old.done old.acts in
    let m = t.moves in
    let room = touched_room conn i old new link t in
    let left : readies_left link ≡ readies_left (link_at old conn) = ap readies_left e in
    let told : AllTold old → AllTold new = λ told. told_moved conn i old new link m told (λ l r. let gone = ap (λ x. x.live) e in cc) in
    record {
      follows = touched conn i old new link t (λ a f. fits_weaker conn before after old.whole new.whole link t.whole (shut_fits conn before after old.whole (link_at old conn) link live e f)) (λ r. sym rest ∙ r) (λ r. told (t.follows.told (sym rest ∙ r)));
      shuts = record {
        net = same_net old new m.acts;
        told = λ tells. record {
          traffic = record {
            given = moved_same (λ l. l.given) conn i old new link m (ap (λ l. l.given) e);
            taken = moved_same (λ l. l.taken) conn i old new link m (ap (λ l. l.taken) e);
            wrote = moved_same (λ l. l.writes) conn i old new link m (ap (λ l. l.writes) e);
            ended = moved_same (λ l. l.ended) conn i old new link m (ap (λ l. l.ended) e);
            broken = moved_same (λ l. l.broken) conn i old new link m (ap (λ l. l.broken) e);
          };
          passed = touched_passed conn i old new link t;
          rested = rest;
        };
        live = ap (λ x. x.live) (moved_here conn i old new link m ∙ e);
        live_elsewhere = moved_but (λ x. x.live) conn i old new link m;
        named = touched_named conn i old new link t;
        due_elsewhere = moved_but (λ x. x.due) conn i old new link m;
        writable_elsewhere = moved_but (λ x. x.writable) conn i old new link m;
        room = omega arith;
        port = port;
        faults = same_least old.faults new.faults faults;
      };
      told = told;
    }
