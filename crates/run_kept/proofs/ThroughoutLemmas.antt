-- What was heard at the end of each turn, where one more turn ends.
use Rattle.run_kept.proofs.Below.{◌≡◌, ◌≢◌, ◌≤◌, ◌+◌, ℕ, List, [], ◌∷◌, ◌++◌, Bool, true, false, ◌||◌, length, take, refl, sym, ap, ◌∙◌, subst, arith, append-nil, append_assoc, take_all, append_cancel_left, append_cancel_right, flat_map-append, list_any, flat_map, ConfigValue, NoteValue, NetState, is_rest, NetEvent, RouteTable, is_turn, gather, given, is_accepted, Follows, Mark, marks_by, marks_of, arrival, tick, turn, Lived, LivedThroughout, Right, place_of, gather-append, given-append, list_any-append, accepted_more, throughout_other, throughout_turn, throughout_octets, clash, or_left, or_right}
use Rattle.ws_kinds.specs.NoteValue as note
use Rattle.link_trait.specs.declared.net.NetEvent.TheVariants as event
use Rattle.run_meaning.specs.Server as run
use Rattle.run_meaning.proofs.Parts.Placed.{early, late}

-- ---- marks

is_end : Mark → Bool
is_end (arrival conn) = false
is_end tick = false
is_end turn = true

ends_by : (n : NoteValue) → list_any is_end (marks_by n) ≡ is_turn n
unfolding is_end
ends_by note.turn = refl
ends_by note.tick = refl
ends_by (note.accepted c) = refl
ends_by (note.busy c) = refl
ends_by (note.no_room c) = refl
ends_by _ = refl

ends_of : (ns : List NoteValue) → list_any is_end (gather marks_by ns) ≡ list_any is_turn ns
ends_of [] = refl
ends_of (n ∷ ns) =
    list_any-append is_end (marks_by n) (gather marks_by ns) ∙ ap (λ (z : Bool). z || list_any is_end (gather marks_by ns)) (ends_by n)
    ∙ ap (λ (z : Bool). is_turn n || z) (ends_of ns)

ends_at : (a : NetEvent) → list_any is_end (marks_of a) ≡ is_rest a
unfolding is_end
ends_at (event.Accept c) = refl
ends_at (event.Readable c) = refl
ends_at (event.Writable c) = refl
ends_at event.Tick = refl
ends_at event.Turn = refl
ends_at event.Stop = refl
ends_at event.Failed = refl

ends_among : (xs : List NetEvent) → list_any is_end (flat_map marks_of xs) ≡ list_any is_rest xs
ends_among [] = refl
ends_among (x ∷ xs) =
    list_any-append is_end (marks_of x) (flat_map marks_of xs) ∙ ap (λ (z : Bool). z || list_any is_end (flat_map marks_of xs)) (ends_at x)
    ∙ ap (λ (z : Bool). is_rest x || z) (ends_among xs)

rest_mark : (a : NetEvent) → is_rest a ≡ true → marks_of a ≡ turn ∷ []
rest_mark (event.Accept c) e = clash false refl e
rest_mark (event.Readable c) e = clash false refl e
rest_mark (event.Writable c) e = clash false refl e
rest_mark event.Tick e = clash false refl e
rest_mark event.Turn e = refl
rest_mark event.Stop e = refl
rest_mark event.Failed e = refl

-- the marks of answers that go on, and end a turn at last
marks_turn : (between : List NetEvent) (answer : NetEvent) → is_rest answer ≡ true → flat_map marks_of (between ++ answer ∷ []) ≡ flat_map marks_of between ++ turn ∷ []
marks_turn between answer rest =
    flat_map-append marks_of between (answer ∷ [])
    ∙ ap (λ (z : List Mark). flat_map marks_of between ++ z) (append-nil (marks_of answer) ∙ rest_mark answer rest)

-- the later notes have the marks of the later answers
marks_later : (notes later : List NoteValue) (old new : NetState) (answers : List NetEvent) → Follows notes old → Follows (notes ++ later) new → new.passed ≡ old.passed ++ answers
    → gather marks_by later ≡ flat_map marks_of answers
marks_later notes later old new answers before after passed =
    append_cancel_left (gather marks_by notes) (gather marks_by later) (flat_map marks_of answers)
    (sym (gather-append marks_by notes later) ∙ after.passed ∙ ap (λ (z : List NetEvent). flat_map marks_of z) passed ∙ flat_map-append marks_of old.passed answers
    ∙ ap (λ (z : List Mark). z ++ flat_map marks_of answers) (sym before.passed))

-- ---- the notes that end with a turn

none_behind : {A : Type 0} (xs ys : List A) (y : A) → [] ≡ xs ++ y ∷ ys → ⊥
none_behind [] ys y e = absurd cc
none_behind (x ∷ xs) ys y e = absurd cc

empty_part : {A : Type 0} (xs ys : List A) → [] ≡ xs ++ ys → ys ≡ []
empty_part [] ys e = sym e
empty_part (x ∷ xs) ys e = absurd cc

-- a last note stands in the later part, if that is not empty
last_later : (notes later front : List NoteValue) (n : NoteValue) → notes ++ later ≡ front ++ n ∷ [] → later ≢ [] → (more : List NoteValue) × (front ≡ notes ++ more) × (later ≡ more ++ n ∷ [])
last_later notes later front n e some =
    elim (place_of notes later front [] n e) [
      | early more p q ↦ absurd (some (empty_part more later q))
      | late more p q ↦ (more, p, q)
    ]

module _ {S : Type 0} (s : run.Server S) (table : RouteTable) (max : ℕ) where
  -- what was heard at each turn's end stays so by notes that end no turn
  throughout_others : (ns later : List NoteValue) (octets : ℕ → List ℕ) → list_any is_turn later ≡ false
      → LivedThroughout s table max ns octets → LivedThroughout s table max (ns ++ later) octets
  throughout_others ns [] octets none all = subst (λ (z : List NoteValue). LivedThroughout s table max z octets) (sym (append-nil ns)) all
  throughout_others ns (n ∷ later) octets none all =
      subst (λ (z : List NoteValue). LivedThroughout s table max z octets) (append_assoc ns (n ∷ []) later)
      (throughout_others (ns ++ n ∷ []) later octets (or_right (is_turn n) (list_any is_turn later) none)
      (throughout_other s table max ns n octets (or_left (is_turn n) (list_any is_turn later) none) all))

  -- and as more octets come
  throughout_longer : (ns : List NoteValue) (octets all : ℕ → List ℕ) → ((c : ℕ) → is_accepted c ns ≡ true → given c ns ≤ length (octets c))
      → ((c : ℕ) → (behind : List ℕ) × (all c ≡ octets c ++ behind)) → LivedThroughout s table max ns octets → LivedThroughout s table max ns all
  throughout_longer ns octets all enough more lived before rest c e there =
      subst (λ (z : List ℕ). Lived s table max (before ++ note.turn ∷ []) c (take (given c before) z)) (sym (more c).1)
      (throughout_octets s table max ns octets (λ d. (more d).0) enough lived before rest c e there)

module _ {S : Type 0} (s : run.Server S) (config : ConfigValue) (table : RouteTable) (notes later front : List NoteValue) (old new : NetState) (between : List NetEvent) (answer : NetEvent) (now : S) (held : ℕ → List ℕ)
    (before : Follows notes old) (right : Right s config table (notes ++ later) new now held) (longer : (c : ℕ) → (behind : List ℕ) × (new.given c ≡ old.given c ++ behind))
    (none : list_any is_rest between ≡ false) (rest : is_rest answer ≡ true) (passed : new.passed ≡ old.passed ++ (between ++ answer ∷ [])) (ends : notes ++ later ≡ front ++ note.turn ∷ []) where
  marks : gather marks_by later ≡ flat_map marks_of between ++ turn ∷ []
  marks = marks_later notes later old new (between ++ answer ∷ []) before right.follows passed ∙ marks_turn between answer rest

  some_later : later ≢ []
  some_later e = none_behind (flat_map marks_of between) [] turn (sym (ap (λ (z : List NoteValue). gather marks_by z) e) ∙ marks)

  unturned : (more : List NoteValue) → later ≡ more ++ note.turn ∷ [] → list_any is_turn more ≡ false
  unturned more e =
      let same : gather marks_by more ≡ flat_map marks_of between =
      append_cancel_right (gather marks_by more) (flat_map marks_of between) (turn ∷ [])
      (sym (gather-append marks_by more (note.turn ∷ [])) ∙ sym (ap (λ (z : List NoteValue). gather marks_by z) e) ∙ marks) in
      sym (ends_of more) ∙ ap (λ (z : List Mark). list_any is_end z) same ∙ ends_among between ∙ none

  -- at the end of this turn all octets that were read were heard
  lived_now : (c : ℕ) → is_accepted c front ≡ true → Lived s table config.max_message (front ++ note.turn ∷ []) c (take (given c front) (new.given c))
  lived_now c there =
      let was : is_accepted c (notes ++ later) ≡ true = ap (λ (z : List NoteValue). is_accepted c z) ends ∙ accepted_more c front (note.turn ∷ []) there in
      let count = right.follows.given c was ∙ ap (λ (z : List NoteValue). given c z) ends ∙ given-append c front (note.turn ∷ []) in
      subst (λ (z : List ℕ). Lived s table config.max_message (front ++ note.turn ∷ []) c z) (sym (take_all (given c front) (new.given c) (within (length (new.given c)) (given c front) count)))
      (subst (λ (z : List NoteValue). Lived s table config.max_message z c (new.given c)) ends (right.lived c was))
    where
      within : (a b : ℕ) → a ≡ b + 0 → a ≤ b
      within a b e = omega (arith, e)

  pub lived_through_turn : LivedThroughout s table config.max_message notes old.given → LivedThroughout s table config.max_message (notes ++ later) new.given
  lived_through_turn lived =
      let last = last_later notes later front note.turn ends some_later in
      let longer_lived = throughout_longer s table config.max_message notes old.given new.given (λ c there. le (length (old.given c)) (given c notes) (before.given c there)) longer lived in
      let until_then : LivedThroughout s table config.max_message front new.given =
      subst (λ (z : List NoteValue). LivedThroughout s table config.max_message z new.given) (sym last.1)
      (throughout_others s table config.max_message notes last.0 new.given (unturned last.0 last.2) longer_lived) in
      subst (λ (z : List NoteValue). LivedThroughout s table config.max_message z new.given) (sym ends) (throughout_turn s table config.max_message front new.given lived_now until_then)
    where
      le : (a b : ℕ) → a ≡ b → b ≤ a
      le a b e = omega (arith, e)
