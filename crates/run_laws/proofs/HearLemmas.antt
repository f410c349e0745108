-- What was heard of a connection, as octets come, as its head is judged and as events are read.
use Rattle.run_laws.proofs.Below.{◌≡◌, ◌≤◌, ℕ, zero, suc, List, [], ◌∷◌, ◌++◌, Option, Some, None, Bool, true, false, cond, length, drop, map, refl, sym, ap, ◌∙◌, append-nil, append_assoc, arith, length-append, drop-append-le, map-append, Event, reading, RouteTable, Verdict, more, admit, refuse, Judged, judged_stays, Reader, State, AtFrameStart, InDataFrame, Ended, Step, coming, ahead, raw_of, has_ended, is_end, events_of, is_last, HasStepped, Heard, opened, refused, read, is_frame_heard, frames_in, first_frames, to_hear, life_by, IsLife, first_behind, ReaderView, reader_view, IsFed, IsRead, is_all, HearsHead, HearsFrames, HearsAll, HearsFront, to_come}
use Rattle.std.proofs.lemmas.Bool.{or_right}
use Rattle.frame_reader.specs.declared.step.Step.TheVariants as step

-- ---- the reader

-- nothing is ahead of a reader that told a close or a failure
nothing_behind : (max : ℕ) (s : State) (all octets : List ℕ) → is_end s ≡ true → coming max s all octets ≡ []
nothing_behind max (AtFrameStart kind) all octets h = cc
nothing_behind max (InDataFrame kind frame) all octets h = cc
nothing_behind max Ended all octets h = refl

pub step_is_read : (old new : Reader) (s : Step) → HasStepped old s new → IsRead (reader_view old) (events_of s) (reader_view new)
step_is_read old new s t = record { tells = t.events; none = λ all. by s t all }
  where
    ended : (q : Step) → HasStepped old q new → is_last q ≡ true → ahead new [] ≡ []
    ended q u e = nothing_behind new.max_message new.state new.message.items (raw_of new ++ []) (u.ended ∙ or_right (has_ended old) (is_last q) e)

    by : (q : Step) → HasStepped old q new → is_all (events_of q) ≡ true → ahead new [] ≡ []
    by step.More u all = u.all_told (tt {0})
    by (step.Message kind octets) u all = let z : false ≡ true = all in cc
    by (step.Ping payload) u all = let z : false ≡ true = all in cc
    by (step.Pong payload) u all = let z : false ≡ true = all in cc
    by (step.Close code reason) u all = ended (step.Close code reason) u refl
    by (step.Failed code) u all = ended (step.Failed code) u refl

-- ---- the head

-- a new reader, and no octets
pub head_new : (max : ℕ) (r : ReaderView) → r.raw ≡ [] → r.unread ≡ true → r.max ≡ max → HearsHead max [] [] r
head_new max r raw unread is = record { none = refl; raw = raw; unread = unread; max_is = is }

pub head_fed : (max : ℕ) (heard : List Heard) (octets came : List ℕ) (old new : ReaderView) → HearsHead max heard octets old → IsFed came old new → HearsHead max heard (octets ++ came) new
head_fed max heard octets came old new h fed = record {
  none = h.none;
  raw = fed.raw ∙ ap (λ os. os ++ came) h.raw;
  unread = fed.unread ∙ h.unread;
  max_is = fed.max ∙ h.max_is;
}

-- ---- what is still to be heard

pub come_none : (last : Option ℕ) → to_come last [] ≡ []
come_none None = refl
come_none (Some count) = refl

come_then : (last : Option ℕ) (xs ys : List Heard) → to_come last (xs ++ ys) ≡ to_come last xs ++ to_come last ys
come_then None xs ys = refl
come_then (Some count) xs ys = frames_then xs
  where
    frames_then : (zs : List Heard) → first_frames 0 (zs ++ ys) ≡ first_frames 0 zs ++ first_frames 0 ys
    frames_then [] = refl
    frames_then (z ∷ zs) = one (is_frame_heard z) (frames_then zs)
      where
        one : (b : Bool) → first_frames 0 (zs ++ ys) ≡ first_frames 0 zs ++ first_frames 0 ys
            → cond b (first_frames 0 (zs ++ ys)) (z ∷ first_frames 0 (zs ++ ys)) ≡ cond b (first_frames 0 zs) (z ∷ first_frames 0 zs) ++ first_frames 0 ys
        one true e = e
        one false e = ap (λ (hs : List Heard). z ∷ hs) e

-- ---- what is heard in any case

-- of octets that say something, something is to be heard
says_nothing : (max : ℕ) (octets : List ℕ) (v : Verdict) (last : Option ℕ) → to_hear last (life_by max octets v) ≡ [] → life_by max octets v ≡ []
says_nothing max octets more last e = refl
says_nothing max octets (refuse status) None e = e
says_nothing max octets (refuse status) (Some zero) e = absurd (let z : refused status ∷ [] ≡ [] = e in cc)
says_nothing max octets (refuse status) (Some (suc n)) e = absurd (let z : refused status ∷ [] ≡ [] = e in cc)
says_nothing max octets (admit end route param accept protocol) None e = e
says_nothing max octets (admit end route param accept protocol) (Some zero) e = absurd (let z : opened route param ∷ first_frames zero (map read (reading max (drop end octets))) ≡ [] = e in cc)
says_nothing max octets (admit end route param accept protocol) (Some (suc n)) e = absurd (let z : opened route param ∷ first_frames (suc n) (map read (reading max (drop end octets))) ≡ [] = e in cc)

pub silent : (table : RouteTable) (max : ℕ) (octets : List ℕ) (life : List Heard) (last : Option ℕ) → IsLife table max octets life → to_hear last life ≡ [] → life ≡ []
silent table max octets life last is none = is.says ∙ says_nothing max octets is.verdict last (ap (to_hear last) (sym is.says) ∙ none)

-- what is still to be heard of frames is no admission
module _ (route : ℕ) (param : List ℕ) where
  frames_only : (ys : List Heard) (es : List Event) → opened route param ∷ ys ≡ first_frames 0 (map read es) → ⊥
  frames_only ys [] e = let z : opened route param ∷ ys ≡ [] = e in cc
  frames_only ys (x ∷ es) e = one (is_frame_heard (read x)) (frames_only ys es) e
    where
      one : (b : Bool) → (opened route param ∷ ys ≡ first_frames 0 (map read es) → ⊥) → opened route param ∷ ys ≡ cond b (first_frames 0 (map read es)) (read x ∷ first_frames 0 (map read es)) → ⊥
      one true later e = later e
      one false later e = let z : opened route param ∷ ys ≡ read x ∷ first_frames 0 (map read es) = e in cc

  unopened : (last : Option ℕ) (xs : List Heard) (es : List Event) → to_hear last (opened route param ∷ xs) ≡ to_come last (map read es) → ⊥
  unopened None xs [] e = let z : opened route param ∷ xs ≡ [] = e in cc
  unopened None xs (x ∷ es) e = let z : opened route param ∷ xs ≡ read x ∷ map read es = e in cc
  unopened (Some zero) xs es e = frames_only (first_frames zero xs) es e
  unopened (Some (suc n)) xs es e = frames_only (first_frames (suc n) xs) es e

module _ (table : RouteTable) (max : ℕ) where
  -- the head is judged
  pub head_waits : (heard : List Heard) (octets : List ℕ) (r : ReaderView) → HearsHead max heard octets r → Judged table octets more → HearsAll table max None heard octets
  head_waits heard octets r h judged = record { life = []; is = record { verdict = more; judged = judged; says = refl }; all = h.none }

  pub head_refused : (heard : List Heard) (octets : List ℕ) (r : ReaderView) (status : ℕ) → HearsHead max heard octets r → Judged table octets (refuse status)
      → HearsAll table max None (heard ++ refused status ∷ []) octets
  head_refused heard octets r status h judged = record {
    life = refused status ∷ [];
    is = record { verdict = refuse status; judged = judged; says = refl };
    all = ap (λ (hs : List Heard). hs ++ refused status ∷ []) h.none;
  }

  pub head_admitted : (heard : List Heard) (octets : List ℕ) (end route : ℕ) (param accept : List ℕ) (protocol : Bool) (old new : ReaderView) → HearsHead max heard octets old
      → Judged table octets (admit end route param accept protocol) → end ≤ length octets
      → ((further : List ℕ) → new.ahead further ≡ reading old.max (drop end old.raw ++ further)) → HearsFrames table max None (heard ++ opened route param ∷ []) octets new
  head_admitted heard octets end route param accept protocol old new h judged within skipped = record {
    end = end;
    route = route;
    param = param;
    accept = accept;
    protocol = protocol;
    judged = judged;
    within = within;
    all_is = λ further.
        ap (λ (es : List Event). opened route param ∷ map read es)
        (ap (reading max) (drop-append-le end octets further within)
        ∙ ap (λ (os : List ℕ). reading max (drop end os ++ further)) (sym h.raw)
        ∙ ap (λ (size : ℕ). reading size (drop end old.raw ++ further)) (sym h.max_is)
        ∙ sym (skipped further))
        ∙ ap (λ (hs : List Heard). (hs ++ opened route param ∷ []) ++ map read (new.ahead further)) (sym h.none);
  }

  module _ (last : Option ℕ) (heard : List Heard) (octets : List ℕ) where
    pub frames_fed : (came : List ℕ) (old new : ReaderView) → HearsFrames table max last heard octets old → IsFed came old new → HearsFrames table max last heard (octets ++ came) new
    frames_fed came old new h fed = record {
      end = h.end;
      route = h.route;
      param = h.param;
      accept = h.accept;
      protocol = h.protocol;
      judged = judged_stays table octets came (admit h.end h.route h.param h.accept h.protocol) h.judged (λ clash. cc);
      within = longer h.end h.within;
      all_is = λ further.
          ap (λ (os : List ℕ). to_hear last (opened h.route h.param ∷ map read (reading max (drop h.end os)))) (append_assoc octets came further)
          ∙ h.all_is (came ++ further) ∙ ap (λ (es : List Event). heard ++ to_come last (map read es)) (sym (fed.ahead further));
    }
      where
        longer : (end : ℕ) → end ≤ length octets → end ≤ length (octets ++ came)
        longer end le = omega (arith, length-append octets came, le)

    -- events are read: those that are still to be heard are heard
    pub frames_read : (events : List Event) (old new : ReaderView) → HearsFrames table max last heard octets old → IsRead old events new
        → HearsFrames table max last (heard ++ to_come last (map read events)) octets new
    frames_read events old new h t = record {
      end = h.end;
      route = h.route;
      param = h.param;
      accept = h.accept;
      protocol = h.protocol;
      judged = h.judged;
      within = h.within;
      all_is = λ further.
          let told = map read events in
          let later = map read (new.ahead further) in
          h.all_is further
          ∙ ap (λ (hs : List Heard). heard ++ to_come last hs) (ap (map read) (t.tells further) ∙ map-append read events (new.ahead further))
          ∙ ap (λ (hs : List Heard). heard ++ hs) (come_then last told later)
          ∙ sym (append_assoc heard (to_come last told) (to_come last later));
    }

    -- what is to be heard of the octets, where some of it was heard and these events are ahead
    frames_life : (r : ReaderView) (h : HearsFrames table max last heard octets r)
        → to_hear last (life_by max octets (admit h.end h.route h.param h.accept h.protocol)) ≡ heard ++ to_come last (map read (r.ahead []))
    frames_life r h =
        ap (λ (os : List ℕ). to_hear last (opened h.route h.param ∷ map read (reading max (drop h.end os)))) (sym (append-nil octets)) ∙ h.all_is []

    pub frames_end : (r : ReaderView) → HearsFrames table max last heard octets r → r.ahead [] ≡ [] → HearsAll table max last heard octets
    frames_end r h none = record {
      life = life_by max octets (admit h.end h.route h.param h.accept h.protocol);
      is = record { verdict = admit h.end h.route h.param h.accept h.protocol; judged = h.judged; says = refl };
      all = sym (frames_life r h ∙ ap (λ (es : List Event). heard ++ to_come last (map read es)) none ∙ ap (λ (hs : List Heard). heard ++ hs) (come_none last) ∙ append-nil heard);
    }

    -- what was heard is a front of what the octets say
    pub front_of_frames : (r : ReaderView) → HearsFrames table max last heard octets r → HearsFront table max last heard octets
    front_of_frames r h = record {
      life = life_by max octets (admit h.end h.route h.param h.accept h.protocol);
      is = record { verdict = admit h.end h.route h.param h.accept h.protocol; judged = h.judged; says = refl };
      behind = to_come last (map read (r.ahead []));
      front = frames_life r h;
      begun = λ none. absurd (unopened h.route h.param last (map read (reading max (drop h.end octets))) (r.ahead []) (frames_life r h ∙ ap (λ (hs : List Heard). hs ++ to_come last (map read (r.ahead []))) none));
    }

    pub front_of_all : HearsAll table max last heard octets → HearsFront table max last heard octets
    front_of_all h = record {
      life = h.life;
      is = h.is;
      behind = [];
      front = sym h.all ∙ sym (append-nil heard);
      begun = λ none. silent table max octets h.life last h.is (sym h.all ∙ none);
    }

  pub front_of_head : (heard : List Heard) (octets : List ℕ) (r : ReaderView) → HearsHead max heard octets r → Judged table octets more → HearsFront table max None heard octets
  front_of_head heard octets r h judged = record {
    life = [];
    is = record { verdict = more; judged = judged; says = refl };
    behind = [];
    front = ap (λ (hs : List Heard). hs ++ []) (sym h.none);
    begun = λ none. refl;
  }

  -- a Close is served: of what is ahead, messages, pings and pongs are passed over
  pub frames_leave : (heard : List Heard) (octets : List ℕ) (r : ReaderView) → HearsFrames table max None heard octets r → HearsFrames table max (Some (frames_in heard)) heard octets r
  frames_leave heard octets r h = record {
    end = h.end;
    route = h.route;
    param = h.param;
    accept = h.accept;
    protocol = h.protocol;
    judged = h.judged;
    within = h.within;
    all_is = λ further. ap (first_frames (frames_in heard)) (h.all_is further) ∙ first_behind heard (map read (r.ahead further));
  }

-- an event that is heard in phase Open, and of these in phase Leaving only a close or a failure
pub hears_more : (last : Option ℕ) (heard : List Heard) (event : Event) → is_frame_heard (read event) ≡ false → heard ++ to_come last (map read (event ∷ [])) ≡ heard ++ read event ∷ []
hears_more None heard event other = refl
hears_more (Some count) heard event other = ap (λ (b : Bool). heard ++ cond b [] (read event ∷ [])) other

-- a message, a ping or a pong is passed over in phase Leaving
pub hears_same : (count : ℕ) (heard : List Heard) (event : Event) → is_frame_heard (read event) ≡ true → heard ++ to_come (Some count) (map read (event ∷ [])) ≡ heard
hears_same count heard event frame = ap (λ (b : Bool). heard ++ cond b [] (read event ∷ [])) frame ∙ append-nil heard
