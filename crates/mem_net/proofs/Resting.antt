-- What a net in memory does beside the acts of its schedule.
use Rattle.mem_net.proofs.Below.{◌≡◌, ℕ, ◌+◌, ◌-◌, ◌^◌, ◌<◌, ◌≤◌, List, [], ◌∷◌, ◌++◌, ◌&&◌, ◌||◌, not, length, take, drop, min, max, replicate, subst, EndsWithTurnAct, Bool, true, false, nat_eq, nat_lt, refl, sym, ◌∙◌, ap, arith, length-append, append_assoc, if◌then◌else◌, list_any, fold, cases_eq, nat_tests, replicate-append-replicate, length-replicate, has_arrived, LinkState, new_link, is_ready, is_untold, tells, Nexts, passed_after, arrivals, passes, MemNetState, passed_by, link_of, link_at, readies_left, net_state, LinkFollows, AllTold, FollowsSchedule, Repeats, Act, NetEvent, or_left, or_right}
use Rattle.link_trait.specs.declared.net.NetEvent.TheVariants as event
use Rattle.mem_net.proofs.Moving.{Moves, moved_here, moved_elsewhere, moved_same, moved_but, moved_sum, either}
use Rattle.mem_net.proofs.Telling.{same_least, same_net, unmoved_traffic, unmoved_links, nothing_passes}

-- one item more at the end, while the list has fewer than most
one_more : (acts : List NetEvent) (one : NetEvent) (answers more most : ℕ) → length acts ≤ answers → answers ≤ most → more ≡ min (answers + 1) most → (below : Bool) → below ≡ nat_lt answers most
    → acts ++ replicate (more - length acts) one ≡ (if below then (acts ++ replicate (answers - length acts) one) ++ one ∷ [] else acts ++ replicate (answers - length acts) one)
one_more acts one answers more most h f e true b =
    let less : answers < most = grind (arith, nat_tests) in
    let count : more - length acts ≡ (answers - length acts) + 1 = omega arith in
    ap (λ k. acts ++ replicate k one) count ∙ ap (λ l. acts ++ l) (sym (replicate-append-replicate (answers - length acts) 1 one)) ∙ sym (append_assoc acts (replicate (answers - length acts) one) (one ∷ []))
one_more acts one answers more most h f e false b =
    let full : most ≤ answers = grind (arith, nat_tests) in
    let count : more - length acts ≡ answers - length acts = omega arith in
    ap (λ k. acts ++ replicate k one) count

-- a Stop more, while the list of answers does not stand still
minus_plus : (n a : ℕ) → n ≤ a → n + (a - n) ≡ a
minus_plus n a h = omega arith

stop_passed : (acts : List NetEvent) (answers more : ℕ) → length acts ≤ answers → answers < 2 ^ 64 → more ≡ min (answers + 1) (2 ^ 64 - 1)
    → acts ++ replicate (more - length acts) event.Stop ≡ passed_after (acts ++ replicate (answers - length acts) event.Stop) event.Stop
stop_passed acts answers more h f e =
    let long : length (acts ++ replicate (answers - length acts) event.Stop) ≡ answers =
    length-append acts (replicate (answers - length acts) event.Stop) ∙ ap (λ k. length acts + k) (length-replicate (answers - length acts) event.Stop) ∙ minus_plus (length acts) answers h in
    rw long (one_more acts event.Stop answers more (2 ^ 64 - 1) h (omega arith) e (nat_lt answers (2 ^ 64 - 1)) refl)

pub stops : (old new : MemNetState) → FollowsSchedule old → old.answers < 2 ^ 64 → new.acts ≡ old.acts → new.done ≡ old.done → new.links ≡ old.links → new.answers ≡ min (old.answers + 1) (2 ^ 64 - 1) → new.faults ≡ old.faults → new.port ≡ old.port → new.rested ≡ true
    → Nexts event.Stop (net_state old) (net_state new)
stops old new f small acts done links answers faults port rest =
    let same : take new.done new.acts ≡ take old.done old.acts = rw (acts, done) refl in
    record {
      net = same_net old new acts;
      told = λ t. record {
        traffic = unmoved_traffic old new acts links;
        fresh = tt;
        passed = rw same (stop_passed (passes (take old.done old.acts)) old.answers new.answers f.passed small answers);
        rested = rest;
      };
      event = unmoved_links old new acts links (ap (λ l. fold max 0 (arrivals l)) same);
      port = port;
      faults = same_least old.faults new.faults faults;
    }

chosen : (b : Bool) (p : LinkState → Bool) (x y : LinkState) → p x ≡ false → p y ≡ false → p (if b then x else y) ≡ false
chosen true p x y h g = h
chosen false p x y h g = g

-- no link of a list that passes a test is found
pub none_found : (p : LinkState → Bool) (numbers : List ℕ) (links : List LinkState) (c : ℕ) → list_any p links ≡ false → p (new_link []) ≡ false → p (link_of numbers links c) ≡ false
none_found p [] links c h e = e
none_found p (n ∷ ns) [] c h e = e
none_found p (n ∷ ns) (l ∷ ls) c h e =
    let here : p l ≡ false = or_left (p l) (list_any p ls) h in
    let rest : p (link_of ns ls c) ≡ false = none_found p ns ls c (or_right (p l) (list_any p ls) h) e in
    chosen (nat_eq n c) p l (link_of ns ls c) here rest

is_told : (live ready due : Bool) → (live && ready && not due) ≡ false → live ≡ true → ready ≡ true → due ≡ true
is_told live ready true h l r = refl
is_told live ready false h l r = let all : (live && ready && true) ≡ true = rw (l, r) refl in cc

-- where nothing is to be told, all is told
pub all_told : (net : MemNetState) → list_any is_untold net.links ≡ false → AllTold net
all_told net h c live ready =
    let none : is_untold (link_at net c) ≡ false = none_found is_untold (arrivals net.acts) net.links c h refl in
    is_told (link_at net c).live (is_ready (link_at net c)) (link_at net c).due none live ready

-- one link is changed, and no act is done
pub record Touches (c i : ℕ) (old new : MemNetState) (link : LinkState) : Type 0 where
  pub moves : Moves c i old new link
  pub follows : FollowsSchedule old
  pub done : new.done ≡ old.done
  pub answers : new.answers ≡ old.answers
  pub length : length new.links ≡ length old.links
  pub whole : new.whole ≡ true → old.whole ≡ true

pub fits_weaker : (c : ℕ) (done rest : List Act) (old new : Bool) (link : LinkState) → (new ≡ true → old ≡ true) → LinkFollows c done rest old link → LinkFollows c done rest new link
fits_weaker c done rest old new link w f = record {
  came = f.came;
  coming = f.coming;
  finish = f.finish;
  ready = f.ready;
  answered = f.answered;
  ended = f.ended;
  broken = f.broken;
  unbroken = λ n. f.unbroken (w n);
  quiet = f.quiet;
  takes = f.takes;
}

-- the acts done and those to come are the same
same_done : (c i : ℕ) (old new : MemNetState) (link : LinkState) → Touches c i old new link → take new.done new.acts ≡ take old.done old.acts
same_done c i old new link t = rw (t.moves.acts, t.done) refl

same_rest : (c i : ℕ) (old new : MemNetState) (link : LinkState) → Touches c i old new link → drop new.done new.acts ≡ drop old.done old.acts
same_rest c i old new link t = rw (t.moves.acts, t.done) refl

pub touched : (c i : ℕ) (old new : MemNetState) (link : LinkState) → Touches c i old new link
    → (has_arrived old.acts c ≡ true → LinkFollows c (take old.done old.acts) (drop old.done old.acts) old.whole (link_at old c) → LinkFollows c (take old.done old.acts) (drop old.done old.acts) new.whole link)
    → (new.rested ≡ true → old.rested ≡ true) → (new.rested ≡ true → AllTold new) → FollowsSchedule new
touched c i old new link t here rests told =
    let acts : length new.acts ≡ length old.acts = ap length t.moves.acts in
    let done = same_done c i old new link t in
    let rest = same_rest c i old new link t in
    let same_passes : passes (take new.done new.acts) ≡ passes (take old.done old.acts) = ap passes done in
    let few = t.follows.few in
    let within = t.follows.done in
    let done_is = t.done in
    record {
      few = rw acts few;
      done = omega arith;
      sound = rw t.moves.acts t.follows.sound;
      links = t.length ∙ t.follows.links ∙ ap (λ l. length (arrivals l)) (sym t.moves.acts);
      fits = λ d a.
          let came : has_arrived old.acts d ≡ true = ap (λ l. has_arrived l d) (sym t.moves.acts) ∙ a in
          let on : d ≡ c → LinkFollows d (take new.done new.acts) (drop new.done new.acts) new.whole (link_at new d) = λ h.
          rw (done, rest, h, moved_here c i old new link t.moves) (let there : has_arrived old.acts c ≡ true = ap (has_arrived old.acts) (sym h) ∙ came in here there (t.follows.fits c there)) in
          let off : (d ≡ c → ⊥) → LinkFollows d (take new.done new.acts) (drop new.done new.acts) new.whole (link_at new d) = λ h.
          rw (done, rest, moved_elsewhere c i old new link t.moves d h) (fits_weaker d (take old.done old.acts) (drop old.done old.acts) old.whole new.whole (link_at old d) t.whole (t.follows.fits d came)) in
          either (cases_eq d c) on off;
      passed = rw (same_passes, t.answers) t.follows.passed;
      stops = λ h. t.answers ∙ t.follows.stops (omega arith) ∙ ap length (sym same_passes);
      told = told;
      turned = λ now less. subst EndsWithTurnAct (sym done) (t.follows.turned (rests now) (omega arith));
    }

-- the answers that passed are the same
pub touched_passed : (c i : ℕ) (old new : MemNetState) (link : LinkState) → Touches c i old new link → passed_by (take new.done new.acts) new.answers ≡ passed_by (take old.done old.acts) old.answers
touched_passed c i old new link t = rw (same_done c i old new link t, t.answers) refl

pub touched_named : (c i : ℕ) (old new : MemNetState) (link : LinkState) → Touches c i old new link → (net_state new).named ≡ (net_state old).named
touched_named c i old new link t = ap (λ l. fold max 0 (arrivals l)) (same_done c i old new link t)

pub touched_room : (c i : ℕ) (old new : MemNetState) (link : LinkState) → Touches c i old new link → (net_state new).room + readies_left (link_at old c) ≡ (net_state old).room + readies_left link
touched_room c i old new link t =
    let sum = moved_sum c i old new link t.moves in
    let acts : length new.acts ≡ length old.acts = ap length t.moves.acts in
    let done = t.done in
    omega arith

untold_parts : (live ready due : Bool) → (live && ready && not due) ≡ true → (live ≡ true) × (ready ≡ true) × (due ≡ false)
untold_parts true true false h = (refl, refl, refl)
untold_parts true true true h = cc
untold_parts true false due h = cc
untold_parts false ready due h = cc

-- Readable is told again
pub again : (conn i : ℕ) (old new : MemNetState) (link : LinkState) → Touches conn i old new link → link ≡ record (link_at old conn) { due = true } → is_untold (link_at old conn) ≡ true → new.faults ≡ old.faults → new.port ≡ old.port → new.whole ≡ old.whole → new.rested ≡ false
    → Repeats (event.Readable (record { 0 = conn })) old new
again conn i old new link t e untold faults port whole rest =
    let is = untold_parts (link_at old conn).live (is_ready (link_at old conn)) (link_at old conn).due untold in
    let m = t.moves in
    let room = touched_room conn i old new link t in
    let less : readies_left link + 1 ≡ readies_left (link_at old conn) = rw (e, is.2) (omega arith) in
    record {
      next = record {
        net = same_net old new m.acts;
        told = λ tells. record {
          traffic = record {
            given = moved_same (λ l. l.given) conn i old new link m (ap (λ l. l.given) e);
            taken = moved_same (λ l. l.taken) conn i old new link m (ap (λ l. l.taken) e);
            wrote = moved_same (λ l. l.writes) conn i old new link m (ap (λ l. l.writes) e);
            ended = moved_same (λ l. l.ended) conn i old new link m (ap (λ l. l.ended) e);
            broken = moved_same (λ l. l.broken) conn i old new link m (ap (λ l. l.broken) e);
          };
          fresh = tt;
          passed = touched_passed conn i old new link t ∙ sym (nothing_passes (passed_by (take old.done old.acts) old.answers));
          rested = rest;
        };
        event = record {
          was = is.0;
          due = ap (λ l. l.due) (moved_here conn i old new link m ∙ e);
          due_elsewhere = moved_but (λ l. l.due) conn i old new link m;
          live = moved_same (λ l. l.live) conn i old new link m (ap (λ l. l.live) e);
          named = touched_named conn i old new link t;
          writable = moved_same (λ l. l.writable) conn i old new link m (ap (λ l. l.writable) e);
          room = omega arith;
        };
        port = port;
        faults = same_least old.faults new.faults faults;
      };
      goes_on = refl;
      acts = m.acts;
      done = t.done;
      whole = whole;
    }

pub fits_told : (c : ℕ) (done rest : List Act) (whole : Bool) (link : LinkState) → is_ready link ≡ true → LinkFollows c done rest whole link → has_arrived done c ≡ true → LinkFollows c done rest whole (record link { due = true })
fits_told c done rest whole link r f a = record {
  came = f.came;
  coming = f.coming;
  finish = f.finish;
  ready = λ h. r;
  answered = f.answered;
  ended = f.ended;
  broken = f.broken;
  unbroken = f.unbroken;
  quiet = λ h. cc;
  takes = f.takes;
}

live_or_not : {live : Bool} (arrived : Bool) → (arrived ≡ false → live ≡ false) → live ≡ true → arrived ≡ true
live_or_not true f l = refl
live_or_not false f l = let none = f refl in cc

-- a live connection has arrived
pub live_arrived : (c : ℕ) (done rest : List Act) (whole : Bool) (link : LinkState) → LinkFollows c done rest whole link → link.live ≡ true → has_arrived done c ≡ true
live_arrived c done rest whole link f l = live_or_not (has_arrived done c) (λ h. ap (λ x. x.live) (f.quiet h)) l

-- what telling again leaves
pub record Again (conn : ℕ) (old new : MemNetState) : Type 0 where
  pub follows : FollowsSchedule new
  pub repeats : Repeats (event.Readable (record { 0 = conn })) old new

pub told_again : (conn i : ℕ) (old new : MemNetState) (link : LinkState) → Touches conn i old new link → link ≡ tells (link_at old conn) → is_untold (link_at old conn) ≡ true → new.faults ≡ old.faults → new.port ≡ old.port → new.whole ≡ old.whole → new.rested ≡ false
    → Again conn old new
told_again conn i old new link t e untold faults port whole rest =
    let is = untold_parts (link_at old conn).live (is_ready (link_at old conn)) (link_at old conn).due untold in
    let before = take old.done old.acts in
    record {
      follows = touched conn i old new link t
          (λ a f. rw e (fits_told conn before (drop old.done old.acts) new.whole (link_at old conn) is.1 (fits_weaker conn before (drop old.done old.acts) old.whole new.whole (link_at old conn) t.whole f)
          (live_arrived conn before (drop old.done old.acts) old.whole (link_at old conn) f is.0)))
          (λ h. cc) (λ h. cc);
      repeats = again conn i old new link t e untold faults port whole rest;
    }
