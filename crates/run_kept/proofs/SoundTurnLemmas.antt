-- The notes of a turn's end are sound, and so are those of an offering.
use Rattle.run_kept.proofs.Below.{◌≡◌, ◌≢◌, ◌<◌, ◌+◌, ◌-◌, ◌^◌, ℕ, List, [], ◌∷◌, ◌++◌, Option, Some, None, is_some, Bool, true, false, cond, nat_eq, ◌&&◌, ◌||◌, length, refl, sym, ap, ◌∙◌, subst, append-nil, add-zero, arith, nat_tests, list_all, Left, Finished, Phase, Head, Open, Leaving, Ending, Gone, ConfigValue, NoteValue, Item, all_spelled, is_event, is_unserved, gather, total, has_number, accepted_by, dropped_by, taken_by, is_accepted, taken, drops, closes, Line, world, phase, plain, kept_of, kept, is_ending, is_last_note, Sound, early, late, place_of, accepted-append, drops-append, taken-append, taken_of, is_dropped, Server, is_present, is_outgoing, unless_gone, Progress, progress_at, progress_after_all, may_come, may_all_come, items_at, Advances, by_cases, clash, and_left, none_stays, phase_of_away, Agrees, is_wordless, ends_of, told_is, gathers_none, dropped_named, kept_spelled, lines_after, wordless_lines, all_progress, line_more, finishes, EndsTurn, all_follow, all_then, none_follow, Shows, AreSound, is_inner, is_at_end, StandsFor, TakesAll, Proceeds, Offers, is_turn}
use Rattle.std.proofs.lemmas.Bool.{or_right}
use Rattle.ws_kinds.specs.NoteValue as note
use Rattle.run_meaning.specs.Server as run
use Rattle.run_kept.proofs.KnownLemmas.{some_is, shows_sound, shows_call}
use Rattle.run_kept.proofs.PlaceLemmas.{all_front, all_back, own_of, comes_there, sound_more, sound_inner, sound_finished, outgoing_inner, inner_unaccepted}
use Rattle.run_kept.proofs.CallLemmas.{here_there, inner_there}

-- ---- tests

last_wordless : (n : NoteValue) → is_last_note n ≡ true → is_wordless n ≡ true
last_wordless (note.took c offered took) e = refl
last_wordless (note.dropped c index held) e = refl
last_wordless (note.gone c left) e = refl
last_wordless _ e = clash false refl e

last_event : (n : NoteValue) → is_last_note n ≡ true → is_event n ≡ false
last_event (note.took c offered took) e = refl
last_event (note.dropped c index held) e = refl
last_event (note.gone c left) e = refl
last_event _ e = clash false refl e

last_served : (n : NoteValue) → is_last_note n ≡ true → is_unserved n ≡ false
last_served (note.took c offered took) e = refl
last_served (note.dropped c index held) e = refl
last_served (note.gone c left) e = refl
last_served _ e = clash false refl e

last_accepts : (n : NoteValue) → is_last_note n ≡ true → accepted_by n ≡ []
last_accepts (note.took c offered took) e = refl
last_accepts (note.dropped c index held) e = refl
last_accepts (note.gone c left) e = refl
last_accepts _ e = clash false refl e

outgoing_last : (n : NoteValue) → is_outgoing n ≡ true → is_last_note n ≡ true
outgoing_last (note.took c offered took) e = refl
outgoing_last (note.dropped c index held) e = refl
outgoing_last (note.gone c left) e = refl
outgoing_last _ e = clash false refl e

-- of notes at the end of a turn none tells what a link took, that an item was dropped or that somebody was accepted
end_none : {A : Type 0} (f : NoteValue → List A) → f note.turn ≡ [] → ((c : ℕ) (left : Left) → f (note.gone c left) ≡ []) → (ns : List NoteValue) → list_all is_at_end ns ≡ true → gather f ns ≡ []
end_none f turn gone ns e = gathers_none is_at_end f one ns e
  where
    one : (n : NoteValue) → is_at_end n ≡ true → f n ≡ []
    one note.turn h = turn
    one (note.gone c left) h = gone c left
    one _ h = clash false refl h

-- ---- the notes that some are finished, and then that of the turn, if it ended

finishes_end : (cs : List ℕ) → list_all is_at_end (finishes cs) ≡ true
finishes_end [] = refl
finishes_end (c ∷ cs) = finishes_end cs

turn_end : (n : NoteValue) → is_turn n ≡ true → is_at_end n ≡ true
turn_end note.turn e = refl
turn_end _ e = clash false refl e

is_the_turn : (n : NoteValue) → is_turn n ≡ true → n ≡ note.turn
is_the_turn note.turn e = refl
is_the_turn _ e = clash false refl e

-- a note that one of these is finished, behind such notes alone
record Finishing (cs : List ℕ) (before : List NoteValue) (n : NoteValue) : Type 0 where
  conn : ℕ
  is : n ≡ note.gone conn Finished
  among : has_number conn cs ≡ true
  front : list_all is_last_note before ≡ true

finishing_at : (cs : List ℕ) (before rest : List NoteValue) (n : NoteValue) → finishes cs ≡ before ++ n ∷ rest → Finishing cs before n
finishing_at [] [] rest n e = absurd (let z : [] ≡ n ∷ rest = e in cc)
finishing_at [] (m ∷ before) rest n e = absurd (let z : [] ≡ m ∷ (before ++ n ∷ rest) = e in cc)
finishing_at (c ∷ cs) [] rest n e =
    let h : note.gone c Finished ≡ n = (let z : note.gone c Finished ∷ finishes cs ≡ n ∷ rest = e in cc) in
    let own : nat_eq c c ≡ true = grind (arith, nat_tests) in
    record { conn = c; is = sym h; among = ap (λ (z : Bool). z || has_number c cs) own; front = refl }
finishing_at (c ∷ cs) (m ∷ before) rest n e =
    let z : note.gone c Finished ∷ finishes cs ≡ m ∷ (before ++ n ∷ rest) = e in
    let h : note.gone c Finished ≡ m = cc in
    let g : finishes cs ≡ before ++ n ∷ rest = cc in
    let x = finishing_at cs before rest n g in
    record {
      conn = x.conn;
      is = x.is;
      among = or_right (nat_eq x.conn c) (has_number x.conn cs) x.among;
      front = ap (λ (k : NoteValue). is_last_note k && list_all is_last_note before) (sym h) ∙ x.front;
    }

-- the link of each of these took all its items
abbrev AreWhole : List ℕ → Server → Server → Type 0
AreWhole cs a b = (c : ℕ) → has_number c cs ≡ true → items_at a.hub c < 2 ^ 64 - 1 → (items : List Item) → StandsFor c a items → TakesAll c items b.net b.told

-- ---- one that is finished

leaves_ending : (p : Option Phase) (c : ℕ) → may_come p (note.gone c Finished) ≡ true → p ≡ Some Ending
leaves_ending None c e = clash false refl e
leaves_ending (Some Head) c e = clash false refl e
leaves_ending (Some Open) c e = clash false refl e
leaves_ending (Some Leaving) c e = clash false refl e
leaves_ending (Some Ending) c e = refl
leaves_ending (Some Gone) c e = clash false refl e

shown_ending : (p : Option Phase) → unless_gone p ≡ Some Ending → is_ending p ≡ true
shown_ending None e = absurd (let z : None ≡ Some Ending = e in cc)
shown_ending (Some Head) e = absurd (let z : Some Head ≡ Some Ending = e in cc)
shown_ending (Some Open) e = absurd (let z : Some Open ≡ Some Ending = e in cc)
shown_ending (Some Leaving) e = absurd (let z : Some Leaving ≡ Some Ending = e in cc)
shown_ending (Some Ending) e = refl
shown_ending (Some Gone) e = absurd (let z : None ≡ Some Ending = e in cc)

counted : (i k last : ℕ) → i ≡ k → k < last → i < last
counted i k last e few = omega arith

all_taken : (new old was some here : ℕ) → new ≡ old + some → old ≡ was → here ≡ was + some → here ≡ new
all_taken new old was some here e h g = omega arith

module _ {S : Type 0} (r : run.Server S) (f : ConfigValue) where
  line_last : (ns xs : List NoteValue) (c : ℕ) → list_all is_last_note xs ≡ true → (world r (ns ++ xs)).line c ≡ lines_after r c xs ((world r ns).line c)
  line_last ns xs c last = line_more r ns xs c (none_follow is_last_note is_event last_event xs last) (none_follow is_last_note is_unserved last_served xs last)

  -- notes of what was to be sent, and of who is gone, send nothing
  plain_still : (ns xs : List NoteValue) (c : ℕ) → list_all is_last_note xs ≡ true → plain r (ns ++ xs) c ≡ plain r ns c
  plain_still ns xs c last =
      ap (λ (l : Line). l.items) (line_last ns xs c last) ∙ wordless_lines r c xs ((world r ns).line c) (all_follow is_last_note is_wordless last_wordless xs last)

  -- the notes of the call before the one that a connection is finished, and those behind
  finished_there : (ns after xs ys : List NoteValue) (c : ℕ) (cs : List ℕ) (a b : Server) → AreWhole cs a b → (made : List NoteValue) → Advances made a b → Agrees (world r ns) ns a → Shows ns a → b.told ≡ Some after
      → ((d : ℕ) → is_accepted d ns ≡ true → length (a.net.taken d) ≡ taken d ns) → length (plain r ns c) < 2 ^ 64 - 1
      → made ≡ xs ++ note.gone c Finished ∷ ys → list_all is_last_note xs ≡ true → list_all is_at_end (note.gone c Finished ∷ ys) ≡ true → has_number c cs ≡ true → Sound r f (ns ++ xs) (note.gone c Finished)
  finished_there ns after xs ys c cs a b whole made adv agrees shows told took few e last ends among =
      let n = note.gone c Finished in
      let q = progress_at a.hub c in
      let new : is_accepted c xs ≡ false = ap (has_number c) (gathers_none is_last_note accepted_by last_accepts xs last) in
      let items = plain r ns c in
      let y = agrees.lines c in
      let may : may_all_come c (xs ++ n ∷ ys) q ≡ true = ap (λ (z : List NoteValue). may_all_come c z q) (sym e) ∙ adv.may_come c in
      let ending : (progress_after_all c xs q).phase ≡ Some Ending = leaves_ending (progress_after_all c xs q).phase c (comes_there c xs ys n q (own_of n c refl) may) in
      let here = here_there made ns xs ys n a b c shows adv e new refl (λ p h. ap is_some (leaves_ending p c h)) in
      let shown : unless_gone (phase r (ns ++ xs) c) ≡ Some Ending =
      ap (λ (z : Line). unless_gone z.phase) (line_last ns xs c last)
      ∙ sym (ap (λ (z : Progress). z.phase) (ap (progress_after_all c xs) y.progress ∙ (all_progress r c xs ((world r ns).line c) (closes c ns) new (ends_of c ((world r ns).line c) ns a y)).0)) ∙ ending in
      let none_not : q.phase ≢ None = λ none. let z : None ≡ Some Ending = sym (none_stays c xs q new none) ∙ ending in cc in
      let there : is_present a.hub c ≡ true = by_cases (is_present a.hub c)
      (λ was. was)
      (λ away. absurd (none_not (phase_of_away a.hub c away))) in
      let was : is_accepted c ns ≡ true = (shows c).accepted (some_is q.phase none_not) in
      let all = whole c among (counted (items_at a.hub c) (length items) (2 ^ 64 - 1) (y.count there few) few) items (y.stands there) in
      let tells : taken_of b.net c ≡ Some (b.net.taken c) = ap (λ (z : Bool). cond z (Some (b.net.taken c)) None) (adv.net.net.tells ∙ agrees.tells) in
      let now = all.where_told (b.net.taken c) tells (ns ++ made) (told_is ns made after a.told b.told adv.told agrees.told told) in
      let dropped : drops c (ns ++ made) ≡ drops c (ns ++ xs) =
      drops-append c ns made ∙ ap (λ (z : List NoteValue). drops c ns ++ drops c z) e ∙ ap (λ (z : List ℕ). drops c ns ++ z) (drops-append c xs (n ∷ ys) ∙ ap (λ (z : List ℕ). drops c xs ++ z) (end_none (dropped_by c) refl (λ d left. refl) (n ∷ ys) ends) ∙ append-nil (drops c xs))
      ∙ sym (drops-append c ns xs) in
      let spelled : all_spelled (kept r (ns ++ xs) c) ≡ b.net.taken c =
      ap (λ (z : List Item). all_spelled (kept_of (drops c (ns ++ xs)) z)) (plain_still ns xs c last) ∙ ap (λ (z : List ℕ). all_spelled (kept_of z items)) (sym dropped)
      ∙ sym (kept_spelled (is_dropped c (ns ++ made)) (drops c (ns ++ made)) 0 items (λ j. dropped_named c j (ns ++ made))) ∙ now in
      let some : taken c made ≡ taken c xs = ap (taken c) e ∙ taken-append c xs (n ∷ ys) ∙ ap (λ (z : ℕ). taken c xs + z) (ap total (end_none (taken_by c) refl (λ d left. refl) (n ∷ ys) ends)) ∙ add-zero (taken c xs) in
      let count : taken c (ns ++ xs) ≡ length (b.net.taken c) =
      all_taken (length (b.net.taken c)) (length (a.net.taken c)) (taken c ns) (taken c xs) (taken c (ns ++ xs)) ((adv.net.told agrees.tells).taken c ∙ ap (λ (z : ℕ). length (a.net.taken c) + z) some) (took c was) (taken-append c ns xs) in
      sound_finished r f (ns ++ xs) c here.0 here.1 (shown_ending (phase r (ns ++ xs) c) shown) (count ∙ ap (λ (z : List ℕ). length z) (sym spelled))

  -- a call that sends what is held, then tells that these are finished, and then that the turn ended, if it did
  sound_ends : (ns after : List NoteValue) (cs : List ℕ) (tail ends : List NoteValue) (a b : Server) (x : Proceeds [] ends a b) → ends ≡ finishes cs ++ tail → list_all is_turn tail ≡ true → AreWhole cs a b
      → Agrees (world r ns) ns a → b.told ≡ Some after → ((c : ℕ) → is_accepted c ns ≡ true → length (a.net.taken c) ≡ taken c ns) → ((c : ℕ) → length (plain r ns c) < 2 ^ 64 - 1) → AreSound r f ns
      → AreSound r f (ns ++ (x.sending ++ ends)) × Shows (ns ++ (x.sending ++ ends)) b
  sound_ends ns after cs tail ends a b x shape turns whole agrees told took few sound =
      let shows = shows_sound r f ns a sound agrees in
      let sending = x.sending in
      let made = sending ++ ends in
      let adv = x.advances in
      let sent = all_follow is_outgoing is_last_note outgoing_last sending x.outgoing in
      let inner = outgoing_inner sending x.outgoing in
      let at_end : list_all is_at_end ends ≡ true =
      ap (list_all is_at_end) shape ∙ all_then is_at_end (finishes cs) tail (finishes_end cs) (all_follow is_turn is_at_end turn_end tail turns) in (
        sound_more r f ns made
            (λ xs ys n e. elim (place_of sending ends xs ys n e) [
              | early more p q ↦
                  let all : list_all is_inner (xs ++ n ∷ more) ≡ true = ap (list_all is_inner) (sym p) ∙ inner in
                  inner_there r f made ns xs ys n a b shows adv e (λ c. inner_unaccepted xs c (all_front is_inner xs (n ∷ more) all)) (and_left (is_inner n) (list_all is_inner more) (all_back is_inner xs (n ∷ more) all))
              | late more p q ↦ elim (place_of (finishes cs) tail more ys n (sym shape ∙ q)) [
                | early between g h ↦
                    let one = finishing_at cs more between n g in
                    subst (λ (k : NoteValue). Sound r f (ns ++ xs) k) (sym one.is)
                    (finished_there ns after xs ys one.conn cs a b whole made adv agrees shows told took (few one.conn) (e ∙ ap (λ (k : NoteValue). xs ++ k ∷ ys) one.is)
                    (ap (list_all is_last_note) p ∙ all_then is_last_note sending more sent one.front)
                    (ap (λ (k : NoteValue). list_all is_at_end (k ∷ ys)) (sym one.is) ∙ all_back is_at_end more (n ∷ ys) (ap (list_all is_at_end) (sym q) ∙ at_end)) one.among)
                | late behind g h ↦
                    let turn = and_left (is_turn n) (list_all is_turn ys) (all_back is_turn behind (n ∷ ys) (ap (list_all is_turn) (sym h) ∙ turns)) in
                    subst (λ (k : NoteValue). Sound r f (ns ++ xs) k) (sym (is_the_turn n turn)) (sound_inner r f (ns ++ xs) note.turn refl (λ c own. absurd (let z : None ≡ Some c = own in cc)))
              ]
            ])
            sound,
        shows_call made ns a b
            (λ c. accepted-append c sending ends ∙ ap (λ (z : Bool). z || is_accepted c ends) (inner_unaccepted sending c inner) ∙ ap (has_number c) (end_none accepted_by refl (λ d left. refl) ends at_end)) adv shows,
      )

  pub sound_turn : (ns after : List NoteValue) (a b : Server) (x : EndsTurn a b) → Agrees (world r ns) ns a → b.told ≡ Some after
      → ((c : ℕ) → is_accepted c ns ≡ true → length (a.net.taken c) ≡ taken c ns) → ((c : ℕ) → length (plain r ns c) < 2 ^ 64 - 1) → AreSound r f ns
      → AreSound r f (ns ++ (x.proceeds.sending ++ (finishes x.finished ++ note.turn ∷ []))) × Shows (ns ++ (x.proceeds.sending ++ (finishes x.finished ++ note.turn ∷ []))) b
  sound_turn ns after a b x = sound_ends ns after x.finished (note.turn ∷ []) (finishes x.finished ++ note.turn ∷ []) a b x.proceeds refl refl x.whole

  pub sound_offer : (ns after : List NoteValue) (conn : ℕ) (a b : Server) (x : Offers conn a b) → Agrees (world r ns) ns a → b.told ≡ Some after
      → ((c : ℕ) → is_accepted c ns ≡ true → length (a.net.taken c) ≡ taken c ns) → ((c : ℕ) → length (plain r ns c) < 2 ^ 64 - 1) → AreSound r f ns
      → AreSound r f (ns ++ (x.proceeds.sending ++ finishes x.finished)) × Shows (ns ++ (x.proceeds.sending ++ finishes x.finished)) b
  sound_offer ns after conn a b x = sound_ends ns after x.finished [] (finishes x.finished) a b x.proceeds (sym (append-nil (finishes x.finished))) refl x.whole
