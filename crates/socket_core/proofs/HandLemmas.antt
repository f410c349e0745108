-- What becomes of octets that are offered or held back: one write, two writes, a write that fails, and none.
use Rattle.socket_core.proofs.Below.{◌-◌, ◌≡◌, ◌≢◌, ◌<◌, ◌≤◌, ◌+◌, ℕ, List, [], ◌∷◌, ◌++◌, Option, Some, None, Bool, true, false, ◌&&◌, cond, if◌then◌else◌, nat_lt, length, take, drop, refl, sym, ap, ◌∙◌, subst, append-nil, append_assoc, arith, nat_tests, length-append, length-drop, take_all, NoteValue, IsNoted, AreNoted, NetState, Writes, Kept, Clear, Backlog, Failed, Hands, Offers, OffersNoted, KeepsNet, LeavesLinkWhole, BreaksLink, TellsFailure, writes, taken, Moves, list_all, is_sending, moves_offer, moves_keep, moves_drain, moves_drain_both, others_took, others_then, others_same, noted_took, noted_failed, short_took, taken_elsewhere, taken_written, took_stands, short_of_front, drop-drop, drop-append-le, drop_all, length-take-le, Rose, inl, inr, Dropped, rules, RingValue, HandsOver, OffersParts, TellsRing, with_octets, NetWrote}
use Rattle.ws_kinds.specs.NoteValue as note
use Rattle.link_trait.specs.declared.net.NetWrote.TheVariants as wrote
use Rattle.socket_core.proofs.OfferLemmas.{offers_took, front_failed}

-- ---- the net

net_wrote : (c : ℕ) (octets : List ℕ) (answer : NetWrote) (on nn : NetState) → Writes c octets answer on nn → KeepsNet c on nn
net_wrote c octets answer on nn w = record {
  net = w.net;
  told = λ t. let told = w.told t in record { elsewhere = told.elsewhere; given = told.given; ended = told.ended; passed = told.passed; rested = told.rested };
  live = w.live;
  named = w.named;
  due = w.due;
  writable = w.writable_elsewhere;
  room = w.room;
  port = w.port;
}

pub net_same : (c : ℕ) (n : NetState) → KeepsNet c n n
net_same c n = search rules

net_then : (c : ℕ) (a b d : NetState) → KeepsNet c a b → KeepsNet c b d → KeepsNet c a d
net_then c a b d p q = record {
  net = record { tells = q.net.tells ∙ p.net.tells; schedule = q.net.schedule ∙ p.net.schedule };
  told = λ t. let x = p.told t in let y = q.told (p.net.tells ∙ t) in record {
    elsewhere = record {
      given = λ e ne. y.elsewhere.given e ne ∙ x.elsewhere.given e ne;
      taken = λ e ne. y.elsewhere.taken e ne ∙ x.elsewhere.taken e ne;
      wrote = λ e ne. y.elsewhere.wrote e ne ∙ x.elsewhere.wrote e ne;
      ended = λ e ne. y.elsewhere.ended e ne ∙ x.elsewhere.ended e ne;
      broken = λ e ne. y.elsewhere.broken e ne ∙ x.elsewhere.broken e ne;
    };
    given = y.given ∙ x.given;
    ended = y.ended ∙ x.ended;
    passed = y.passed ∙ x.passed;
    rested = y.rested ∙ x.rested;
  };
  live = λ e. q.live e ∙ p.live e;
  named = q.named ∙ p.named;
  due = λ e. q.due e ∙ p.due e;
  writable = λ e ne. q.writable e ne ∙ p.writable e ne;
  room = let x = p.room in let y = q.room in omega arith;
  port = q.port ∙ p.port;
}

link_whole : (c m : ℕ) (octets : List ℕ) (on nn : NetState) → Writes c octets (wrote.Took m) on nn → LeavesLinkWhole c on nn
link_whole c m octets on nn w = record { faults = w.faults; broken = λ t. (w.told t).broken }

link_then : (c : ℕ) (a b d : NetState) → LeavesLinkWhole c a b → b.tells ≡ a.tells → LeavesLinkWhole c b d → LeavesLinkWhole c a d
link_then c a b d p e q = record { faults = let x = p.faults in let y = q.faults in omega arith; broken = λ t. q.broken (e ∙ t) ∙ p.broken t }

link_broken : (c : ℕ) (octets : List ℕ) (on nn : NetState) → Writes c octets wrote.Failed on nn → BreaksLink c on nn
link_broken c octets on nn w = record { faults = w.faults; broken = λ t. (w.told t).broken }

-- a write leaves its link writable only where it was, and where it took all
not_writable : (m o : ℕ) (old new : Bool) → new ≡ (if nat_lt m o then false else old) → m < o → new ≡ false
not_writable m o old new e less = grind (arith, nat_tests)

still_not : (m o : ℕ) (old new : Bool) → new ≡ (if nat_lt m o then false else old) → old ≡ false → new ≡ false
still_not m o old new e was = grind (arith, nat_tests)

-- the count rose in the second of two steps
rose_after : (old mid new : ℕ) → old ≤ mid → Rose mid new → Rose old new
rose_after old mid new least (inl more) = inl (omega arith)
rose_after old mid new least (inr end) = inr end

-- ---- what is noted

two_noted : (t0 t1 t2 : Option (List NoteValue)) (x y : NoteValue) → IsNoted t0 x t1 → IsNoted t1 y t2 → AreNoted t0 (x ∷ y ∷ []) t2
two_noted (Some a) (Some b) (Some d) x y p q = q ∙ ap (λ (z : List NoteValue). z ++ y ∷ []) p ∙ append_assoc a (x ∷ []) (y ∷ [])
two_noted None (Some b) t2 x y p q = absurd p
two_noted t0 None (Some d) x y p q = absurd q
two_noted t0 t1 None x y p q = tt {0}

none_noted : (t : Option (List NoteValue)) → AreNoted t [] t
none_noted (Some a) = sym (append-nil a)
none_noted None = tt {0}

pub same_offers : (c : ℕ) (n : NetState) (t : Option (List NoteValue)) → OffersNoted Clear c n n t t
same_offers c n t = record {
  notes = [];
  own = refl;
  dropped = refl;
  told = none_noted t;
  wrote = λ tells. sym (append-nil (n.wrote c));
  taken = λ tells. let a = length (n.taken c) in omega arith;
}

failed_offers : (c : ℕ) (octets : List ℕ) (on nn : NetState) (t : Option (List NoteValue)) → Writes c octets wrote.Failed on nn → OffersNoted Clear c on nn t t
failed_offers c octets on nn t w = record {
  notes = [];
  own = refl;
  dropped = refl;
  told = none_noted t;
  wrote = λ tells. (w.told tells).wrote ∙ sym (append-nil (on.wrote c));
  taken = λ tells. let e : length (nn.taken c) ≡ length (on.taken c) = ap length (w.told tells).taken in omega arith;
}

took_failed_offers : (c m : ℕ) (o p : List ℕ) (a b d : NetState) (t t' : Option (List NoteValue)) → Writes c o (wrote.Took m) a b → IsNoted t (note.took c (length o) m) t' → Writes c p wrote.Failed b d → OffersNoted Clear c a d t t'
took_failed_offers c m o p a b d t t' w told x =
    let one = offers_took c m o a b t t' w told in record {
      notes = one.notes;
      own = one.own;
      dropped = one.dropped;
      told = one.told;
      wrote = λ tells. (x.told (w.net.tells ∙ tells)).wrote ∙ one.wrote tells;
      taken = λ tells. ap length (x.told (w.net.tells ∙ tells)).taken ∙ one.taken tells;
    }

both_own : (c o m p k : ℕ) → list_all (is_sending c) (note.took c o m ∷ note.took c p k ∷ []) ≡ true
both_own c o m p k = grind (arith, nat_tests)

both_wrote : (c o m p k : ℕ) → writes c (note.took c o m ∷ note.took c p k ∷ []) ≡ (o, m) ∷ (p, k) ∷ []
both_wrote c o m p k = grind (arith, nat_tests)

both_taken : (c o m p k : ℕ) → taken c (note.took c o m ∷ note.took c p k ∷ []) ≡ m + k
both_taken c o m p k = grind (arith, nat_tests)

grown : (m : ℕ) (o old new : List ℕ) → m ≤ length o → new ≡ old ++ take m o → length new ≡ length old + m
grown m o old new within e = ap length e ∙ length-append old (take m o) ∙ ap (λ (z : ℕ). length old + z) (length-take-le m o within)

both_offers : (c m k : ℕ) (o p : List ℕ) (a b d : NetState) (t0 t1 t2 : Option (List NoteValue)) → Writes c o (wrote.Took m) a b → IsNoted t0 (note.took c (length o) m) t1
    → Writes c p (wrote.Took k) b d → IsNoted t1 (note.took c (length p) k) t2 → OffersNoted Clear c a d t0 t2
both_offers c m k o p a b d t0 t1 t2 w told x told2 = record {
  notes = note.took c (length o) m ∷ note.took c (length p) k ∷ [];
  own = both_own c (length o) m (length p) k;
  dropped = refl;
  told = two_noted t0 t1 t2 (note.took c (length o) m) (note.took c (length p) k) told told2;
  wrote = λ tells. (x.told (w.net.tells ∙ tells)).wrote ∙ ap (λ (z : List (ℕ × ℕ)). z ++ (length p, k) ∷ []) (w.told tells).wrote
      ∙ append_assoc (a.wrote c) ((length o, m) ∷ []) ((length p, k) ∷ []) ∙ ap (λ (z : List (ℕ × ℕ)). a.wrote c ++ z) (sym (both_wrote c (length o) m (length p) k));
  taken = λ tells.
      let e = grown m o (a.taken c) (b.taken c) w.within (w.told tells).taken in
      let f = grown k p (b.taken c) (d.taken c) x.within (x.told (w.net.tells ∙ tells)).taken in
      let g = both_taken c (length o) m (length p) k in omega arith;
}

-- ---- which octets are left

-- what a write left is not empty only where the write was short
left_short : (m : ℕ) (o : List ℕ) → m ≤ length o → drop m o ≢ [] → m < length o
left_short m o within some = short_of_front m o [] within (λ none. absurd (none refl)) (λ none. some (ap (drop m) (sym (append-nil o)) ∙ none))

pub whole_tells : (k : Kept) (c : ℕ) (on nn : NetState) → k ≢ Failed → LeavesLinkWhole c on nn → TellsFailure k c on nn
whole_tells Clear c on nn ok w = w
whole_tells (Backlog held) c on nn ok w = w
whole_tells (Dropped held) c on nn ok w = w
whole_tells Failed c on nn ok w = absurd (ok refl)

-- ---- the cases

-- the octets were put behind what is held back
pub hands_kept : (c : ℕ) (k : Kept) (octets ring left : List ℕ) (n : NetState) (t : Option (List NoteValue)) → k ≢ Failed → ring ≢ [] → left ≡ ring ++ octets → Hands c k octets ring left n n t t
hands_kept c k octets ring left n t ok some e = record {
  moves = λ _ l i. subst (λ (z : List ℕ). Moves c l false [] (record { numbered = i; ring = ring; cork = z }) (record { numbered = i; ring = left; cork = [] }) n n t t) (append-nil octets) (moves_keep c l i ring octets left [] n t some e);
  front = λ failed. absurd (ok failed);
  others = others_same c n n t (λ d ne. refl);
  offers = same_offers c n t;
  noted = λ x. x;
  short = λ _ s _. s some;
  waits = λ was _. was some;
  bound = let a : length left ≡ length ring + length octets = ap length e ∙ length-append ring octets in omega arith;
  failed = whole_tells k c n n ok (record { faults = omega arith; broken = λ _. refl });
  net = net_same c n;
}

-- they were offered, and what was not taken is held back
pub hands_took : (c m : ℕ) (k : Kept) (octets ring left : List ℕ) (on nn : NetState) (t t' : Option (List NoteValue)) → k ≢ Failed → ring ≡ [] → left ≡ ring ++ drop m octets → Offers (Some m) c octets on nn t t' → Hands c k octets ring left on nn t t'
hands_took c m k octets ring left on nn t t' ok none e offered =
    let w = offered.0 in let told = offered.1 in
    let rest : left ≡ drop m octets = e ∙ ap (λ (z : List ℕ). z ++ drop m octets) none in
    let less : left ≢ [] → m < length octets = λ some. left_short m octets w.within (λ z. some (rest ∙ z)) in
    record {
      moves = λ _ l i. subst (λ (z : List ℕ). Moves c l false [] (record { numbered = i; ring = ring; cork = z }) (record { numbered = i; ring = left; cork = [] }) on nn t t') (append-nil octets) (moves_offer c l i m ring octets left [] on nn t t' none e w told);
      front = λ failed. absurd (ok failed);
      others = others_took c m octets on nn t t' w told;
      offers = offers_took c m octets on nn t t' w told;
      noted = noted_took c m octets on nn t t' w told;
      short = λ _ _. short_took c (length octets) m left t t' told less;
      waits = λ _ some. not_writable m (length octets) (on.writable c) (nn.writable c) w.writable (less some);
      bound = let a : length left ≡ length (drop m octets) = ap length rest in let b = length-drop m octets in omega arith;
      failed = whole_tells k c on nn ok (link_whole c m octets on nn w);
      net = net_wrote c octets (wrote.Took m) on nn w;
    }

-- octets were offered, but the write failed
pub hands_failed : (c : ℕ) (offered octets ring : List ℕ) (on nn : NetState) (t t' : Option (List NoteValue)) → Offers None c offered on nn t t' → Hands c Failed octets ring ring on nn t t'
hands_failed c offered octets ring on nn t t' failing =
    let w = failing.0 in subst (λ (z : Option (List NoteValue)). Hands c Failed octets ring ring on nn t z) (sym failing.1) (record {
      moves = λ ok. absurd (ok refl);
      front = λ _ held _ few items stands. front_failed c offered held on nn t items w few stands;
      others = others_same c on nn t (λ d ne. taken_elsewhere c d offered wrote.Failed on nn w ne);
      offers = failed_offers c offered on nn t w;
      noted = noted_failed c offered on nn t w;
      short = λ ok. absurd (ok refl);
      waits = λ was some. w.writable ∙ was some;
      bound = let a = length ring in omega arith;
      failed = link_broken c offered on nn w;
      net = net_wrote c offered wrote.Failed on nn w;
    })

-- what is held back was offered, up to its second part, if there is one and the first was not taken whole
pub hands_drained : (c m : ℕ) (front back : List ℕ) (on nn : NetState) (t t' : Option (List NoteValue)) → (back ≢ [] → m < length front) → Offers (Some m) c front on nn t t' → Hands c Clear [] (front ++ back) (drop m (front ++ back)) on nn t t'
hands_drained c m front back on nn t t' behind offered =
    let w = offered.0 in let told = offered.1 in
    let less : drop m (front ++ back) ≢ [] → m < length front = short_of_front m front back w.within behind in
    record {
      moves = λ _ l i. moves_drain c l i m (front ++ back) front back (drop m (front ++ back)) [] on nn t t' refl refl less w told;
      front = λ failed. absurd (let z : Clear ≡ Failed = failed in cc);
      others = others_took c m front on nn t t' w told;
      offers = offers_took c m front on nn t t' w told;
      noted = noted_took c m front on nn t t' w told;
      short = λ _ _. short_took c (length front) m (drop m (front ++ back)) t t' told less;
      waits = λ _ some. not_writable m (length front) (on.writable c) (nn.writable c) w.writable (less some);
      bound = let a = length-drop m (front ++ back) in let b = length (front ++ back) in omega arith;
      failed = link_whole c m front on nn w;
      net = net_wrote c front (wrote.Took m) on nn w;
    }

drop_past : (m : ℕ) (a b : List ℕ) → drop (length a + m) (a ++ b) ≡ drop m b
drop_past m a b = sym (drop-drop m (length a) (a ++ b)) ∙ ap (drop m) (drop-append-le (length a) a b (omega arith) ∙ ap (λ (z : List ℕ). z ++ b) (drop_all (length a) a (omega arith)))

-- both parts were offered, the first was taken whole
pub hands_drained_both : (c m : ℕ) (front back : List ℕ) (a b d : NetState) (t0 t1 t2 : Option (List NoteValue)) → Offers (Some (length front)) c front a b t0 t1 → Offers (Some m) c back b d t1 t2
    → Hands c Clear [] (front ++ back) (drop (length front + m) (front ++ back)) a d t0 t2
hands_drained_both c m front back a b d t0 t1 t2 first second =
    let w = first.0 in let x = second.0 in
    let less : drop m back ≢ [] → m < length back = left_short m back x.within in
    subst (λ (z : List ℕ). Hands c Clear [] (front ++ back) z a d t0 t2) (sym (drop_past m front back)) (record {
      moves = λ _ l i. moves_drain_both c l i m front back [] a b d t0 t1 t2 w first.1 x second.1;
      front = λ failed. absurd (let z : Clear ≡ Failed = failed in cc);
      others = others_then (others_took c (length front) front a b t0 t1 w first.1) (others_took c m back b d t1 t2 x second.1);
      offers = both_offers c (length front) m front back a b d t0 t1 t2 w first.1 x second.1;
      noted = λ was. noted_took c m back b d t1 t2 x second.1 (noted_took c (length front) front a b t0 t1 w first.1 was);
      short = λ _ _. short_took c (length back) m (drop m back) t1 t2 second.1 less;
      waits = λ _ some. not_writable m (length back) (b.writable c) (d.writable c) x.writable (less some);
      bound = let e = length-append front back in let f = length-drop m back in omega arith;
      failed = link_then c a b d (link_whole c (length front) front a b w) w.net.tells (link_whole c m back b d x);
      net = net_then c a b d (net_wrote c front (wrote.Took (length front)) a b w) (net_wrote c back (wrote.Took m) b d x);
    })

-- the first part was taken whole, and the write of the second failed
pub hands_failed_last : (c : ℕ) (front back : List ℕ) (a b d : NetState) (t0 t1 t2 : Option (List NoteValue)) → Offers (Some (length front)) c front a b t0 t1 → Offers None c back b d t1 t2
    → Hands c Failed [] (front ++ back) (front ++ back) a d t0 t2
hands_failed_last c front back a b d t0 t1 t2 first second =
    let w = first.0 in let x = second.0 in
    subst (λ (z : Option (List NoteValue)). Hands c Failed [] (front ++ back) (front ++ back) a d t0 z) (sym second.1) (record {
      moves = λ ok. absurd (ok refl);
      front = λ _ held is few items stands.
          let moved = took_stands c held.numbered (length front) (length front) held.ring held.cork back held.cork front a b t0 t1
          (taken_written c (length front) front a b w) first.1
          (ap (λ (z : List ℕ). z ++ (back ++ held.cork)) (take_all (length front) front (omega arith)) ∙ sym (append_assoc front back held.cork) ∙ ap (λ (z : List ℕ). z ++ held.cork) (sym is))
          held.pending items stands in
          front_failed c back (record { numbered = held.numbered; ring = back; cork = held.cork; pending = held.pending }) b d t1 items x few moved;
      others = others_then (others_took c (length front) front a b t0 t1 w first.1) (others_same c b d t1 (λ e ne. taken_elsewhere c e back wrote.Failed b d x ne));
      offers = took_failed_offers c (length front) front back a b d t0 t1 w first.1 x;
      noted = λ was. noted_failed c back b d t1 x (noted_took c (length front) front a b t0 t1 w first.1 was);
      short = λ ok. absurd (ok refl);
      waits = λ was some. x.writable ∙ still_not (length front) (length front) (a.writable c) (b.writable c) w.writable (was some);
      bound = let e = length (front ++ back) in omega arith;
      failed = record { faults = (let y = w.faults in let z = x.faults.0 in omega arith, rose_after a.faults b.faults d.faults w.faults x.faults.1); broken = λ t. (x.told (w.net.tells ∙ t)).broken };
      net = net_then c a b d (net_wrote c front (wrote.Took (length front)) a b w) (net_wrote c back wrote.Failed b d x);
    })

-- ---- what functions say

pub some_is : (xs : List ℕ) → 0 < length xs → xs ≢ []
some_is [] less none = absurd (omega arith)
some_is (x ∷ xs) less none = absurd (cc)

pub none_is : (xs : List ℕ) → length xs ≡ 0 → xs ≡ []
none_is [] e = refl
none_is (x ∷ xs) e = absurd (omega arith)

pub over_kept : (c : ℕ) (k : Kept) (octets : List ℕ) (old new : RingValue) (n : NetState) (t : Option (List NoteValue)) → k ≢ Failed → ((limit : ℕ) → TellsRing limit k new.octets) → old.octets ≢ [] → new ≡ with_octets octets old → HandsOver c k octets old new n n t t
over_kept c k octets old new n t ok tells some e = record {
  hands = hands_kept c k octets old.octets new.octets n t ok some (ap (λ (z : RingValue). z.octets) e);
  kept = tells;
  puts = λ _. refl;
  capacity = ap (λ (z : RingValue). z.capacity) e;
}

pub over_took : (c m : ℕ) (k : Kept) (octets : List ℕ) (old new : RingValue) (on nn : NetState) (t t' : Option (List NoteValue)) → k ≢ Failed → ((limit : ℕ) → TellsRing limit k new.octets) → old.octets ≡ [] → new ≡ with_octets (drop m octets) old → Offers (Some m) c octets on nn t t' → HandsOver c k octets old new on nn t t'
over_took c m k octets old new on nn t t' ok tells none e offered = record {
  hands = hands_took c m k octets old.octets new.octets on nn t t' ok none (ap (λ (z : RingValue). z.octets) e) offered;
  kept = tells;
  puts = λ some. absurd (some none);
  capacity = ap (λ (z : RingValue). z.capacity) e;
}

-- all was taken, and nothing is held back
pub over_all : (c m : ℕ) (octets : List ℕ) (old : RingValue) (on nn : NetState) (t t' : Option (List NoteValue)) → old.octets ≡ [] → m ≡ length octets → Offers (Some m) c octets on nn t t' → HandsOver c Clear octets old old on nn t t'
over_all c m octets old on nn t t' none all offered = over_took c m Clear octets old old on nn t t' (λ failed. absurd (let z : Clear ≡ Failed = failed in cc)) (λ _. none) none
    (sym (ap (λ (z : List ℕ). record old { octets = z }) (ap (λ (z : List ℕ). old.octets ++ z) (drop_all m octets (omega arith)) ∙ append-nil old.octets))) offered

pub over_failed : (c : ℕ) (octets : List ℕ) (old : RingValue) (on nn : NetState) (t t' : Option (List NoteValue)) → old.octets ≡ [] → Offers None c octets on nn t t' → HandsOver c Failed octets old old on nn t t'
over_failed c octets old on nn t t' none failing = record {
  hands = hands_failed c octets octets old.octets on nn t t' failing;
  kept = λ _. tt {0};
  puts = λ some. absurd (some none);
  capacity = refl;
}

-- the first part was offered
pub parts_first : (c m : ℕ) (front back : List ℕ) (on nn : NetState) (t t' : Option (List NoteValue)) → (back ≢ [] → m < length front) → Offers (Some m) c front on nn t t' → OffersParts (Some m) c front back on nn t t'
parts_first c m front back on nn t t' behind offered =
    let w = offered.0 in (
      let a = w.within in let b = length-append front back in omega arith,
      λ some. not_writable m (length front) (on.writable c) (nn.writable c) w.writable (short_of_front m front back w.within behind some),
      hands_drained c m front back on nn t t' behind offered,
    )

pub parts_both : (c m : ℕ) (front back : List ℕ) (a b d : NetState) (t0 t1 t2 : Option (List NoteValue)) → Offers (Some (length front)) c front a b t0 t1 → Offers (Some m) c back b d t1 t2 → OffersParts (Some (length front + m)) c front back a d t0 t2
parts_both c m front back a b d t0 t1 t2 first second =
    let x = second.0 in (
      let e = x.within in let f = length-append front back in omega arith,
      λ some. not_writable m (length back) (b.writable c) (d.writable c) x.writable (left_short m back x.within (λ none. some (drop_past m front back ∙ none))),
      hands_drained_both c m front back a b d t0 t1 t2 first second,
    )

pub parts_failed : (c : ℕ) (front back : List ℕ) (on nn : NetState) (t t' : Option (List NoteValue)) → Offers None c front on nn t t' → OffersParts None c front back on nn t t'
parts_failed c front back on nn t t' failing = hands_failed c front [] (front ++ back) on nn t t' failing

pub parts_failed_last : (c : ℕ) (front back : List ℕ) (a b d : NetState) (t0 t1 t2 : Option (List NoteValue)) → Offers (Some (length front)) c front a b t0 t1 → Offers None c back b d t1 t2 → OffersParts None c front back a d t0 t2
parts_failed_last c front back a b d t0 t1 t2 first second = hands_failed_last c front back a b d t0 t1 t2 first second

-- the first part is empty, and the second was offered
pub parts_back : (r : Option ℕ) (c : ℕ) (front back : List ℕ) (on nn : NetState) (t t' : Option (List NoteValue)) → front ≡ [] → Offers r c back on nn t t' → OffersParts r c front back on nn t t'
parts_back (Some m) c front back on nn t t' none offered =
    subst (λ (z : List ℕ). OffersParts (Some m) c z back on nn t t') (sym none)
    (subst (λ (z : List ℕ). (m ≤ length z) × (drop m z ≢ [] → nn.writable c ≡ false) × Hands c Clear [] z (drop m z) on nn t t') (append-nil back)
    (parts_first c m back [] on nn t t' (λ some. absurd (some refl)) offered))
parts_back None c front back on nn t t' none failing = hands_failed c back [] (front ++ back) on nn t t' failing

-- the same, by another answer that tells of no failure
pub hands_for : {c : ℕ} {octets ring left : List ℕ} {on nn : NetState} {t t' : Option (List NoteValue)} (k : Kept) → k ≢ Failed → Hands c Clear octets ring left on nn t t' → Hands c k octets ring left on nn t t'
hands_for {c} {octets} {ring} {left} {on} {nn} {t} {t'} k ok h = record {
  moves = λ _. h.moves (λ e. absurd (let z : Clear ≡ Failed = e in cc));
  front = λ failed. absurd (ok failed);
  others = h.others;
  offers = h.offers;
  noted = h.noted;
  short = λ _. h.short (λ e. absurd (let z : Clear ≡ Failed = e in cc));
  waits = h.waits;
  bound = h.bound;
  failed = whole_tells k c on nn ok h.failed;
  net = h.net;
}

-- a slice from a place on
pub rest_of : (m : ℕ) (o : List ℕ) → take (length o - m) (drop m o) ≡ drop m o
rest_of m o = take_all (length o - m) (drop m o) (let a = length-drop m o in omega arith)
