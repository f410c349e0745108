-- Lemmas on links that follow the acts of a schedule.
use Rattle.mem_net.proofs.Below.{◌≡◌, ℕ, ◌<◌, List, [], ◌∷◌, ◌++◌, ◌&&◌, ◌||◌, not, length, take, drop, Bool, true, false, nat_eq, nat_lt, refl, sym, ◌∙◌, ap, arith, append_assoc, length-append, Option, Some, None, ◌≤◌, ◌+◌, ◌-◌, ◌^◌, min, nat_le, option_map, if◌then◌else◌, nat_tests, append-nil, list_any-append, flat_map-append, take-append_seam, drop-append_seam, is_arrival, has_arrived, has_ended, is_sound_after, LinkState, is_finish, arrives, new_link, changes, failing_changed, counted, gained, sent, sent_by, finish_by, finish_of, or_then, is_fault, credit_by, credit_of, is_write_failure, writes_fail, LinkFollows, IsWithin, Takes, LinkTakes, is_short, was_short, Act, Finish, or_false, or_true, fold_push, IsChanging, Change}
use Rattle.link_trait.specs.declared.act.Act.TheVariants as act
use Rattle.mem_net.specs.declared.mem_link.Finish.TheVariants as finish
use Rattle.mem_net.specs.declared.mem_link.Change.TheVariants as change

pub or_then_later : (f : Finish) → or_then f finish.Later ≡ f
or_then_later finish.Later = refl
or_then_later finish.End = refl
or_then_later finish.Failed = refl

pub or_then_assoc : (f g h : Finish) → or_then (or_then f g) h ≡ or_then f (or_then g h)
or_then_assoc finish.Later g h = refl
or_then_assoc finish.End g h = refl
or_then_assoc finish.Failed g h = refl

pub finish_push : (c : ℕ) (acts : List Act) (one : Act) → finish_of c (acts ++ one ∷ []) ≡ or_then (finish_of c acts) (finish_by c one)
finish_push c [] one = or_then_later (finish_by c one)
finish_push c (a ∷ acts) one = ap (or_then (finish_by c a)) (finish_push c acts one) ∙ sym (or_then_assoc (finish_by c a) (finish_of c acts) (finish_by c one))

pub sent_push : (c : ℕ) (acts : List Act) (one : Act) → sent c (acts ++ one ∷ []) ≡ sent c acts ++ sent_by c one
sent_push c acts one = flat_map-append (sent_by c) acts (one ∷ []) ∙ ap (λ l. sent c acts ++ l) (append-nil (sent_by c one))

pub arrived_push : (c : ℕ) (acts : List Act) (one : Act) → has_arrived (acts ++ one ∷ []) c ≡ (has_arrived acts c || is_arrival c one)
arrived_push c acts one = list_any-append (is_arrival c) acts (one ∷ []) ∙ ap (λ b. has_arrived acts c || b) (or_false (is_arrival c one))

credit_push : (c : ℕ) (acts : List Act) (one : Act) → credit_of c (acts ++ one ∷ []) ≡ credit_by c (credit_of c acts) one
credit_push c acts one = fold_push (credit_by c) (Some 0) acts one

failure_push : (c : ℕ) (acts : List Act) (one : Act) → writes_fail c (acts ++ one ∷ []) ≡ (writes_fail c acts || is_write_failure c one)
failure_push c acts one = list_any-append (is_write_failure c) acts (one ∷ []) ∙ ap (λ b. writes_fail c acts || b) (or_false (is_write_failure c one))

-- an act that leaves what the link of c takes
pub record IsStill (c : ℕ) (one : Act) : Type 0 where
  pub credit : (before : Option ℕ) → credit_by c before one ≡ before
  pub failure : is_write_failure c one ≡ false

takes_still : (c : ℕ) (before : List Act) (one : Act) (link : LinkState) → IsStill c one → LinkTakes c before link → LinkTakes c (before ++ one ∷ []) link
takes_still c before one link s t =
    let credit : credit_of c (before ++ one ∷ []) ≡ credit_of c before = credit_push c before one ∙ s.credit (credit_of c before) in
    let failure : writes_fail c (before ++ one ∷ []) ≡ writes_fail c before = failure_push c before one ∙ ap (λ b. writes_fail c before || b) s.failure ∙ or_false (writes_fail c before) in
    rw (credit, failure) t

-- nothing ended yet
pub finishes_later : (c : ℕ) (acts : List Act) → has_ended acts c ≡ false → finish_of c acts ≡ finish.Later
finishes_later c [] h = refl
finishes_later c (act.Arrive conn credit ∷ acts) h = finishes_later c acts h
finishes_later c (act.Octets conn octets ∷ acts) h = finishes_later c acts h
finishes_later c (act.End conn ∷ acts) h =
    let here : nat_eq conn.0 c ≡ false = grind (arith, nat_tests) in
    let later : has_ended acts c ≡ false = grind (arith, nat_tests) in
    rw here (finishes_later c acts later)
finishes_later c (act.ReadFails conn ∷ acts) h =
    let here : nat_eq conn.0 c ≡ false = grind (arith, nat_tests) in
    let later : has_ended acts c ≡ false = grind (arith, nat_tests) in
    rw here (finishes_later c acts later)
finishes_later c (act.Room conn more ∷ acts) h = finishes_later c acts h
finishes_later c (act.WriteFails conn ∷ acts) h = finishes_later c acts h
finishes_later c (act.Tick ∷ acts) h = finishes_later c acts h
finishes_later c (act.Turn ∷ acts) h = finishes_later c acts h

-- an act on another connection, or on none
pub record IsApart (c : ℕ) (one : Act) : Type 0 where
  pub sent : sent_by c one ≡ []
  pub finish : finish_by c one ≡ finish.Later
  pub arrival : is_arrival c one ≡ false
  pub still : IsStill c one

pub fits_apart : (c : ℕ) (before rest : List Act) (one : Act) (whole : Bool) (link : LinkState) → IsApart c one → LinkFollows c before (one ∷ rest) whole link → LinkFollows c (before ++ one ∷ []) rest whole link
fits_apart c before rest one whole link a f = record {
  came = f.came ∙ sym (sent_push c before one ∙ rw a.sent (append-nil (sent c before)));
  coming = f.coming ∙ rw a.sent refl;
  finish = f.finish ∙ sym (finish_push c before one ∙ rw a.finish (or_then_later (finish_of c before)));
  ready = f.ready;
  answered = f.answered;
  ended = f.ended;
  broken = f.broken;
  unbroken = f.unbroken;
  quiet = λ h. f.quiet (let e = arrived_push c before one in grind arith);
  takes = takes_still c before one link a.still f.takes;
}

no_answer : {A : Type 0} (answered : Bool) (end : Finish) → end ≡ finish.Later → (answered ≡ true → A × (is_finish end ≡ true)) → answered ≡ false
no_answer true finish.Later later f = let h = (f refl).1 in cc
no_answer true finish.End later f = cc
no_answer true finish.Failed later f = cc
no_answer false end later f = refl

came_before : (x b d : Bool) → x ≡ (b || d) → b ≡ true → x ≡ true
came_before x b d e h = e ∙ rw h refl

came_now : (x b d : Bool) → x ≡ (b || d) → d ≡ true → x ≡ true
came_now x true d e h = e
came_now x false d e h = e ∙ h

-- until its octets end a link has answered nothing
pub not_answered : (c : ℕ) (before rest : List Act) (whole : Bool) (link : LinkState) → has_ended before c ≡ false → LinkFollows c before rest whole link → (link.finish ≡ finish.Later) × (link.answered ≡ false)
not_answered c before rest whole link h f =
    let later : link.finish ≡ finish.Later = f.finish ∙ finishes_later c before h in
    (later, no_answer link.answered link.finish later f.answered)

-- a link that has taken nothing, once its connection arrives
takes_first : (credit : Option ℕ) (fails : Bool) (link : LinkState) → link.failing ≡ fails → link ≡ new_link link.coming → Takes credit fails true link.writable link.failing (is_short link.writes) (was_short link.writes) (counted credit) (length link.taken)
takes_first credit fails link same quiet =
    let none : length link.taken ≡ 0 = ap (λ l. length l.taken) quiet in
    let whole : is_short link.writes ≡ false = ap (λ l. is_short l.writes) quiet in
    let never : was_short link.writes ≡ false = ap (λ l. was_short l.writes) quiet in
    let writable : link.writable ≡ true = ap (λ l. l.writable) quiet in
    record { credit_is = refl; failing_is = same; few = omega arith; within = within_none credit (length link.taken) none; full = λ l h. cc; more = λ h s f. cc; all = λ any. never }
  where
    within_none : (most : Option ℕ) (count : ℕ) → count ≡ 0 → IsWithin count most
    within_none None count e = tt
    within_none (Some most) count e = omega arith

pub fits_arrive : (c : ℕ) (before rest : List Act) (credit : Option ℕ) (whole : Bool) (link : LinkState) → has_arrived before c ≡ false → LinkFollows c before (act.Arrive (record { 0 = c }) credit ∷ rest) whole link
    → LinkFollows c (before ++ act.Arrive (record { 0 = c }) credit ∷ []) rest whole (arrives credit link)
fits_arrive c before rest credit whole link new f =
    let one = act.Arrive (record { 0 = c }) credit in
    let a : is_arrival c one ≡ true = grind (arith, nat_tests) in
    let same : nat_eq c c ≡ true = grind (arith, nat_tests) in
    let credit_now : credit_of c (before ++ one ∷ []) ≡ credit = credit_push c before one ∙ rw same refl in
    let failure : writes_fail c (before ++ one ∷ []) ≡ writes_fail c before = failure_push c before one ∙ or_false (writes_fail c before) in
    record {
      came = f.came ∙ sym (sent_push c before one ∙ append-nil (sent c before));
      coming = f.coming;
      finish = f.finish ∙ sym (finish_push c before one ∙ or_then_later (finish_of c before));
      ready = f.ready;
      answered = f.answered;
      ended = f.ended;
      broken = f.broken;
      unbroken = f.unbroken;
      quiet = λ h. let come = came_now _ (has_arrived before c) (is_arrival c one) (arrived_push c before one) a in cc;
      takes = rw (credit_now, failure) (takes_first credit (writes_fail c before) link f.takes.failing_is (f.quiet new));
    }

pub fits_come : (c : ℕ) (before rest : List Act) (one : Act) (octets : List ℕ) (due whole : Bool) (link : LinkState) → has_arrived before c ≡ true → has_ended before c ≡ false
    → sent_by c one ≡ octets → finish_by c one ≡ finish.Later → IsStill c one → 0 < length octets → LinkFollows c before (one ∷ rest) whole link
    → LinkFollows c (before ++ one ∷ []) rest whole (record link { waiting = link.waiting ++ take (length octets) link.coming; coming = drop (length octets) link.coming; due = due })
fits_come c before rest one octets due whole link a e s g still n f =
    let quiet = not_answered c before (one ∷ rest) whole link e f in
    let coming : link.coming ≡ octets ++ sent c rest = f.coming ∙ rw s refl in
    let come : take (length octets) link.coming ≡ octets = rw coming (take-append_seam octets (sent c rest)) in
    let left : drop (length octets) link.coming ≡ sent c rest = rw coming (drop-append_seam octets (sent c rest)) in
    let more : 0 < length (link.waiting ++ take (length octets) link.coming) = rw come (rw (length-append link.waiting octets) (omega arith)) in
    record {
      came = rw come (sym (append_assoc link.given link.waiting octets) ∙ ap (λ l. l ++ octets) f.came ∙ sym (sent_push c before one ∙ rw s refl));
      coming = left;
      finish = f.finish ∙ sym (finish_push c before one ∙ rw g (or_then_later (finish_of c before)));
      ready = λ h. grind (arith, nat_tests);
      answered = λ h. cc;
      ended = f.ended;
      broken = f.broken;
      unbroken = f.unbroken;
      quiet = λ h. let come = came_before _ (has_arrived before c) (is_arrival c one) (arrived_push c before one) a in cc;
      takes = takes_still c before one link still f.takes;
    }

waits_or_ends : (waits answered ends : Bool) → answered ≡ false → ends ≡ true → (waits || (not answered && ends)) ≡ true
waits_or_ends true answered ends a e = refl
waits_or_ends false answered ends a e = rw (a, e) refl

pub fits_finish : (c : ℕ) (before rest : List Act) (one : Act) (end : Finish) (due whole : Bool) (link : LinkState) → has_arrived before c ≡ true → has_ended before c ≡ false
    → sent_by c one ≡ [] → finish_by c one ≡ end → IsStill c one → is_finish end ≡ true → LinkFollows c before (one ∷ rest) whole link
    → LinkFollows c (before ++ one ∷ []) rest whole (record link { finish = end; due = due })
fits_finish c before rest one end due whole link a e s g still n f =
    let quiet = not_answered c before (one ∷ rest) whole link e f in
    let later : finish_of c before ≡ finish.Later = finishes_later c before e in
    record {
      came = f.came ∙ sym (sent_push c before one ∙ rw s (append-nil (sent c before)));
      coming = f.coming ∙ rw s refl;
      finish = sym (finish_push c before one ∙ rw (later, g) refl);
      ready = λ h. waits_or_ends (nat_lt 0 (length link.waiting)) link.answered (is_finish end) quiet.1 n;
      answered = λ h. cc;
      ended = f.ended ∙ rw quiet.1 refl;
      broken = λ h. let none : (link.answered && is_fault end) ≡ false = rw quiet.1 refl in cc;
      unbroken = λ w h.
          let none : (link.answered && is_fault link.finish) ≡ false = rw quiet.1 refl in
          or_true (link.answered && is_fault end) link.failing (ap (λ b. b || link.failing) (sym none) ∙ f.unbroken w h);
      quiet = λ h. let come = came_before _ (has_arrived before c) (is_arrival c one) (arrived_push c before one) a in cc;
      takes = takes_still c before one link still f.takes;
    }

not_both : (b d : Bool) → d ≡ true → (b || d) ≡ false → ⊥
not_both true d h e = cc
not_both false d h e = cc

-- a credit that is counted to most, and what is added
counts_more : (credit more most : ℕ) → min (min credit most + more) most ≡ min (credit + more) most
counts_more credit more most = omega arith

-- a link that gains room, and one whose writes fail from now on
takes_gain : (allowed : Option ℕ) (more : ℕ) (fails live writable failing short ever : Bool) (credit : Option ℕ) (count : ℕ) → 1 ≤ more → Takes allowed fails live writable failing short ever credit count
    → Takes (option_map (λ octets. octets + more) allowed) fails live (writable || live) failing short ever (gained more credit) count
takes_gain None more fails live writable failing short ever credit count some t =
    record { credit_is = rw t.credit_is refl; failing_is = t.failing_is; few = t.few; within = tt; full = λ l w. absurd (not_both writable live l w); more = λ w s f. tt; all = t.all }
takes_gain (Some most) more fails live writable failing short ever credit count some t =
    let within = t.within in
    record {
      credit_is = rw t.credit_is (ap Some (counts_more most more (2 ^ 64 - 1)));
      failing_is = t.failing_is;
      few = t.few;
      within = omega arith;
      full = λ l w. absurd (not_both writable live l w);
      more = λ w s f. omega arith;
      all = λ any. cc;
    }

takes_fail : (allowed : Option ℕ) (fails live writable failing short ever : Bool) (credit : Option ℕ) (count : ℕ) → Takes allowed fails live writable failing short ever credit count
    → Takes allowed true live (writable || live) true short ever credit count
takes_fail allowed fails live writable failing short ever credit count t =
    record { credit_is = t.credit_is; failing_is = refl; few = t.few; within = t.within; full = λ l w. absurd (not_both writable live l w); more = λ w s f. cc; all = t.all }

still_broken : (what : Change) (fault failing : Bool) → (fault || failing) ≡ true → (fault || failing_changed what failing) ≡ true
still_broken (change.Gains more) fault failing h = h
still_broken change.Fails fault failing h = or_true fault true refl

-- the link takes what it takes by an act that changes it
takes_changed : (what : Change) (c : ℕ) (before : List Act) (one : Act) (link : LinkState) → IsChanging c what one → is_sound_after before one ≡ true → LinkTakes c before link → LinkTakes c (before ++ one ∷ []) (changes what link)
takes_changed what c before (act.Room other more) link s sound t =
    let one = act.Room other more in
    let same : nat_eq other.0 c ≡ true = grind (arith, nat_tests) in
    let positive : nat_le 1 more ≡ true = grind arith in
    let some : 1 ≤ more = grind (arith, nat_tests) in
    let credit : credit_of c (before ++ one ∷ []) ≡ option_map (λ octets. octets + more) (credit_of c before) = credit_push c before one ∙ rw same refl in
    let failure : writes_fail c (before ++ one ∷ []) ≡ writes_fail c before = failure_push c before one ∙ or_false (writes_fail c before) in
    rw (credit, failure, s.1) (takes_gain (credit_of c before) more (writes_fail c before) link.live link.writable link.failing (is_short link.writes) (was_short link.writes) link.credit (length link.taken) some t)
takes_changed what c before (act.WriteFails other) link s sound t =
    let one = act.WriteFails other in
    let same : nat_eq other.0 c ≡ true = grind (arith, nat_tests) in
    let credit : credit_of c (before ++ one ∷ []) ≡ credit_of c before = credit_push c before one in
    let failure : writes_fail c (before ++ one ∷ []) ≡ true = failure_push c before one ∙ or_true (writes_fail c before) (nat_eq other.0 c) same in
    rw (credit, failure, s.1) (takes_fail (credit_of c before) (writes_fail c before) link.live link.writable link.failing (is_short link.writes) (was_short link.writes) link.credit (length link.taken) t)
takes_changed what c before (act.Arrive other credit) link s sound t = absurd s
takes_changed what c before (act.Octets other octets) link s sound t = absurd s
takes_changed what c before (act.End other) link s sound t = absurd s
takes_changed what c before (act.ReadFails other) link s sound t = absurd s
takes_changed what c before act.Tick link s sound t = absurd s
takes_changed what c before act.Turn link s sound t = absurd s

pub fits_change : (what : Change) (c : ℕ) (before rest : List Act) (one : Act) (whole : Bool) (link : LinkState) → IsChanging c what one → is_sound_after before one ≡ true → has_arrived before c ≡ true → sent_by c one ≡ [] → finish_by c one ≡ finish.Later
    → LinkFollows c before (one ∷ rest) whole link → LinkFollows c (before ++ one ∷ []) rest whole (changes what link)
fits_change what c before rest one whole link is sound a s g f = record {
  came = f.came ∙ sym (sent_push c before one ∙ rw s (append-nil (sent c before)));
  coming = f.coming ∙ rw s refl;
  finish = f.finish ∙ sym (finish_push c before one ∙ rw g (or_then_later (finish_of c before)));
  ready = f.ready;
  answered = f.answered;
  ended = f.ended;
  broken = f.broken;
  unbroken = λ w h. still_broken what (link.answered && is_fault link.finish) link.failing (f.unbroken w h);
  quiet = λ h. let come = came_before _ (has_arrived before c) (is_arrival c one) (arrived_push c before one) a in cc;
  takes = takes_changed what c before one link is sound f.takes;
}
