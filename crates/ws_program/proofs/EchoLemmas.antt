-- What an echo did so far: the octets that came, and what is still ahead of the reader.
use Rattle.ws_program.proofs.Below.{◌||◌, list_any, ◌≡◌, ℕ, ◌+◌, ◌≤◌, Bool, true, false, List, [], ◌∷◌, ◌++◌, length, take, Option, None, refl, sym, ap, subst, ◌∙◌, append_assoc, append-nil, arith, length-take, inr, take-append-le, length-take-le, Appends, Consumes, Appends-nil, Appends-trans, Consumes-nil, Consumes-trans, AppendsFront, Event, is_last, reading, echoed, reads_is, Reader, ahead, room_of, raw_of, AreShort, answers_to, Status, Done, Usage, Refused, ReadFault, WriteFault, NetFault, OutOfMemory, TooLong, has_ended, EchoesFront, EndsDone, EndsTooLong, ReadsNoFurther, EndsPast, reading_short}
use Rattle.std.proofs.Common.{length-append}
use Rattle.wire_meaning.proofs.LastLemmas as last
use Rattle.frame_reader.specs.Reader as readers
use Rattle.ws_program.proofs.EventLemmas.{answers_to-append, short_rest, some_of_both, none_of_both}

-- these octets came, and all that they tell was told
pub record Stands (max : ℕ) (came : List ℕ) (reader : Reader) : Type 0 where
  pub tells : (more : List ℕ) → reading max (came ++ more) ≡ reading max came ++ ahead reader more
  pub goes_on : readers.has_ended reader ≡ false
  pub not_over : has_ended max came ≡ false
  pub room : 8192 ≤ room_of reader

nothing_read : (max : ℕ) → reading max [] ≡ []
nothing_read max = reads_is max None []

pub stands_first : (max : ℕ) (reader : Reader) → ((more : List ℕ) → ahead reader more ≡ reading max more) → room_of reader ≡ max + 8448 → readers.has_ended reader ≡ false
    → Stands max [] reader
stands_first max reader tells room goes = record {
  tells = λ more. sym (tells more) ∙ ap (λ (events : List Event). events ++ ahead reader more) (sym (nothing_read max));
  goes_on = goes;
  not_over = ap (list_any is_last) (nothing_read max);
  room = omega arith;
}

-- what is ahead is short
pub stands_short : (max : ℕ) (came octets : List ℕ) (reader : Reader) → max ≤ 65536 → Stands max came reader → AreShort 65536 (ahead reader octets)
stands_short max came octets reader m stands =
    short_rest 65536 (reading max came) (ahead reader octets) (subst (AreShort 65536) (stands.tells octets) (reading_short 65536 max (came ++ octets) m (omega arith)))

-- ---- more octets

abbrev Told : Reader → List ℕ → List Event → Reader → Type 0
Told old octets events new = (more : List ℕ) → ahead old (octets ++ more) ≡ events ++ ahead new more

reading_told : (max : ℕ) (came octets : List ℕ) (old new : Reader) (events : List Event) → Stands max came old → Told old octets events new
    → (more : List ℕ) → reading max ((came ++ octets) ++ more) ≡ reading max came ++ (events ++ ahead new more)
reading_told max came octets old new events stands told more =
    ap (reading max) (append_assoc came octets more) ∙ stands.tells (octets ++ more) ∙ ap (λ (es : List Event). reading max came ++ es) (told more)

reading_then : (max : ℕ) (came octets : List ℕ) (old new : Reader) (events : List Event) → Stands max came old → Told old octets events new
    → reading max (came ++ octets) ≡ reading max came ++ (events ++ ahead new [])
reading_then max came octets old new events stands told = ap (reading max) (sym (append-nil (came ++ octets))) ∙ reading_told max came octets old new events stands told []

reading_all : (max : ℕ) (came octets : List ℕ) (old new : Reader) (events : List Event) → Stands max came old → Told old octets events new → ahead new [] ≡ []
    → reading max (came ++ octets) ≡ reading max came ++ events
reading_all max came octets old new events stands told all =
    reading_then max came octets old new events stands told
    ∙ ap (λ (es : List Event). reading max came ++ es) (ap (λ (es : List Event). events ++ es) all ∙ append-nil events)

pub stands_then : (max : ℕ) (came octets : List ℕ) (old new : Reader) (events : List Event) → Stands max came old → Told old octets events new → ahead new [] ≡ []
    → list_any is_last events ≡ false → (readers.has_ended old ≡ false → readers.has_ended new ≡ false) → (readers.has_ended old ≡ false → length (raw_of new) ≤ 130)
    → Stands max (came ++ octets) new
stands_then max came octets old new events stands told all none goes few =
    let is : reading max (came ++ octets) ≡ reading max came ++ events = reading_all max came octets old new events stands told all in
    let raw : length (raw_of new) ≤ 130 = few stands.goes_on in
    record {
      tells = λ more. reading_told max came octets old new events stands told more ∙ sym (append_assoc (reading max came) events (ahead new more))
          ∙ ap (λ (es : List Event). es ++ ahead new more) (sym is);
      goes_on = goes stands.goes_on;
      not_over = ap (list_any is_last) is ∙ none_of_both (reading max came) events stands.not_over none;
      room = omega arith;
    }

pub echo_then : (max : ℕ) (came octets : List ℕ) (old new : Reader) (events : List Event) (w v u : Option (List ℕ)) → Stands max came old → Told old octets events new → ahead new [] ≡ []
    → Appends w v (echoed max came) → Appends v u (answers_to events) → Appends w u (echoed max (came ++ octets))
echo_then max came octets old new events w v u stands told all first second =
    subst (Appends w u) (sym (ap answers_to (reading_all max came octets old new events stands told all) ∙ answers_to-append (reading max came) events))
    (Appends-trans w v u (answers_to (reading max came)) (answers_to events) first second)

-- ---- a close or a failure

-- the last event stands among these
abbrev LastOf : List Event → Type 0
LastOf events = (before : List Event) × (event : Event) × (after : List Event) × (events ≡ before ++ event ∷ after) × (is_last event ≡ true)

last_behind : (event : Event) (events : List Event) → LastOf events → LastOf (event ∷ events)
last_behind event events (before, e, after, split, l) = (event ∷ before, e, after, ap (λ (es : List Event). event ∷ es) split, l)

last_by : (event : Event) (events : List Event) (b : Bool) → is_last event ≡ b → (list_any is_last events ≡ true → LastOf events) → (b || list_any is_last events) ≡ true → LastOf (event ∷ events)
last_by event events true t rest h = ([], event, events, refl, t)
last_by event events false t rest h = last_behind event events (rest h)

last_of : (events : List Event) → list_any is_last events ≡ true → LastOf events
last_of [] h = absurd cc
last_of (event ∷ events) h = last_by event events (is_last event) refl (λ t. last_of events t) h

nil_behind : (xs ys : List Event) → xs ++ ys ≡ [] → ys ≡ []
nil_behind [] ys h = h
nil_behind (x ∷ xs) ys h = absurd cc

nothing_ahead : (max : ℕ) (came octets : List ℕ) (old new : Reader) (events : List Event) → Stands max came old → Told old octets events new → list_any is_last events ≡ true → ahead new [] ≡ []
nothing_ahead max came octets old new events stands told h =
    let (before, event, after, split, l) = last_of events h in
    let behind : events ++ ahead new [] ≡ before ++ event ∷ (after ++ ahead new []) =
    ap (λ (es : List Event). es ++ ahead new []) split ∙ append_assoc before (event ∷ after) (ahead new []) in
    let whole : reading max (came ++ octets) ≡ (reading max came ++ before) ++ event ∷ (after ++ ahead new []) =
    reading_then max came octets old new events stands told ∙ ap (λ (es : List Event). reading max came ++ es) behind
    ∙ sym (append_assoc (reading max came) before (event ∷ (after ++ ahead new []))) in
    nil_behind after (ahead new []) (last.nothing_follows max None (came ++ octets) (reading max came ++ before) (after ++ ahead new []) event whole l)

pub done_closed : (max count : ℕ) (came octets : List ℕ) (old new : Reader) (events : List Event) (l m k w v u : Option (List ℕ)) → Stands max came old → Told old octets events new
    → list_any is_last events ≡ true → Consumes l m came → Consumes m k octets → Appends w v (echoed max came) → Appends v u (answers_to events)
    → length came + count ≡ 67108864 → length octets ≤ count → EndsDone max l k w u
done_closed max count came octets old new events l m k w v u stands told h took took' wrote wrote' sum within =
    let all : ahead new [] ≡ [] = nothing_ahead max came octets old new events stands told h in (
      came ++ octets,
      Consumes-trans l m k came octets took took',
      echo_then max came octets old new events w v u stands told all wrote wrote',
      omega (arith, length-append came octets),
      inr (ap (list_any is_last) (reading_all max came octets old new events stands told all) ∙ some_of_both (reading max came) events stands.not_over h),
    )

-- ---- the other ends

pub front_written : (max : ℕ) (came octets : List ℕ) (reader : Reader) (l m k w v u : Option (List ℕ)) → Stands max came reader → Consumes l m came → Consumes m k octets
    → Appends w v (echoed max came) → AppendsFront v u (answers_to (ahead reader octets)) → EchoesFront max l k w u
front_written max came octets reader l m k w v u stands took took' wrote (taken, rest, split, wrote') =
    let both : echoed max (came ++ octets) ≡ echoed max came ++ answers_to (ahead reader octets) =
    ap answers_to (stands.tells octets) ∙ answers_to-append (reading max came) (ahead reader octets) in (
      came ++ octets,
      Consumes-trans l m k came octets took took',
      (
        echoed max came ++ taken,
        rest,
        both ∙ ap (λ octets'. echoed max came ++ octets') split ∙ sym (append_assoc (echoed max came) taken rest),
        Appends-trans w v u (echoed max came) taken wrote wrote',
      ),
    )

pub no_further : (max count : ℕ) (came octets : List ℕ) (reader : Reader) (l m k : Option (List ℕ)) → Stands max came reader → Consumes l m came → Consumes m k octets
    → length came + count ≡ 67108864 → length octets ≤ count → length octets ≤ 8192 → ReadsNoFurther max l k
no_further max count came octets reader l m k stands took took' sum within short =
    (came, octets, Consumes-trans l m k came octets took took', stands.not_over, short, omega arith)

-- nothing was read
pub nothing_further : (max : ℕ) (l : Option (List ℕ)) → ReadsNoFurther max l l
nothing_further max l = ([], [], Consumes-nil l, ap (list_any is_last) (nothing_read max), omega arith, omega arith)

-- What a read gave stands at the front of what was read into, which is a front of `octets`, and then the rest of these.
pub record Piece (piece : List ℕ) (count most : ℕ) (m k : Option (List ℕ)) : Type 0 where
  pub took : Consumes m k piece
  pub length_is : length piece ≡ count
  pub within : count ≤ most

pub piece_read : (count most : ℕ) (octets room rest : List ℕ) (m k : Option (List ℕ)) → count ≤ length (take most octets) → length room ≡ length (take most octets)
    → Consumes m k (take count room) → Piece (take count (room ++ rest)) count most m k
piece_read count most octets room rest m k within same took =
    let fits : count ≤ length room = omega arith in
    let is : take count (room ++ rest) ≡ take count room = take-append-le count room rest fits in
    record {
      took = subst (Consumes m k) (sym is) took;
      length_is = ap length is ∙ length-take-le count room fits;
      within = omega (arith, length-take most octets);
    }

pub echo_start : (max : ℕ) (w : Option (List ℕ)) → Appends w w (echoed max [])
echo_start max w = subst (Appends w w) (sym (ap answers_to (nothing_read max))) (Appends-nil w)

-- ---- past the limit

kept : (l m k : Option (List ℕ)) (came : List ℕ) → Consumes l m came → k ≡ m → Consumes l k came
kept l m k came took same = subst (λ o. Consumes l o came) (sym same) took

pub past_too_long : (result : Status) (max : ℕ) (came : List ℕ) (reader : Reader) (l m k w v : Option (List ℕ)) (f f' : ℕ) → EndsPast result m k f f' → result ≡ Refused 0 TooLong
    → Stands max came reader → Consumes l m came → Appends w v (echoed max came) → length came ≡ 67108864 → EndsTooLong max l k w v
past_too_long result max came reader l m k w v f f' ends is stands took wrote full =
    let (others, took', some, short, line, rule, same) = subst (λ s. EndsPast s m k f f') is ends in
    (came, others, Consumes-trans l m k came others took took', wrote, full, stands.not_over, some)

pub unmoved_no_further : (max count : ℕ) (came : List ℕ) (reader : Reader) (l m k : Option (List ℕ)) → Stands max came reader → Consumes l m came → k ≡ m → length came + count ≡ 67108864
    → ReadsNoFurther max l k
unmoved_no_further max count came reader l m k stands took same sum =
    (came, [], subst (Consumes l k) (sym (append-nil came)) (kept l m k came took same), stands.not_over, omega arith, omega arith)

pub past_no_further : (result : Status) (max : ℕ) (came : List ℕ) (reader : Reader) (l m k : Option (List ℕ)) (f f' : ℕ) → EndsPast result m k f f' → Stands max came reader → Consumes l m came
    → length came ≡ 67108864 → ReadsNoFurther max l k
past_no_further Done max came reader l m k f f' (same, end, unfailing) stands took full = unmoved_no_further max 0 came reader l m k stands took same (omega arith)
past_no_further Usage max came reader l m k f f' ends stands took full = absurd ends
past_no_further (Refused line fault) max came reader l m k f f' (others, took', some, short, zero, rule, same) stands took full =
    (came, others, Consumes-trans l m k came others took took', stands.not_over, omega arith, omega arith)
past_no_further ReadFault max came reader l m k f f' (same, cause) stands took full = unmoved_no_further max 0 came reader l m k stands took same (omega arith)
past_no_further WriteFault max came reader l m k f f' ends stands took full = absurd ends
past_no_further NetFault max came reader l m k f f' ends stands took full = absurd ends
past_no_further OutOfMemory max came reader l m k f f' ends stands took full = absurd ends
