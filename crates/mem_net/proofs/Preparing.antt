-- Lemmas on the links of a net in memory before the first act.
use Rattle.mem_net.proofs.Below.{◌≡◌, ◌≢◌, ℕ, zero, suc, ◌+◌, ◌^◌, ◌<◌, List, [], ◌∷◌, ◌++◌, ◌||◌, length, take, get_or, map, Bool, true, false, Option, Some, nat_eq, nat_lt, slice_get, slice_set, refl, sym, ◌∙◌, ap, arith, append_assoc, option_map, if◌then◌else◌, list_any, list_all, nat_tests, append-nil, map-append, list_any-append, slice_get-map, slice_get_within, get_or_from_slice_get, flat_map-append, is_arrival, is_rising, has_arrived, is_sound_after, are_sound_after, is_sound, LinkState, new_link, is_untold, arrives_by, arrivals, sent, sent_by, link_of, new_links, start_net, Rises, Keeps, Act}
use Rattle.link_trait.specs.declared.act.Act.TheVariants as act
use Rattle.mem_net.proofs.Places.{above}
use Rattle.mem_net.proofs.Schedules.{sound_at, sound_rises, arrived}
use Rattle.mem_net.proofs.Fitting.{sent_push}
use Rattle.mem_net.proofs.Moving.{take_next}
use Rattle.mem_net.proofs.Acting.{new_number}
use Rattle.mem_net.proofs.Resting.{all_told}

-- a front of a sound schedule is sound
sound_front : (n : ℕ) (before acts : List Act) → are_sound_after before acts ≡ true → are_sound_after before (take n acts) ≡ true
sound_front zero before acts h = refl
sound_front (suc n) before [] h = refl
sound_front (suc n) before (a ∷ acts) h =
    let here : is_sound_after before a ≡ true = grind arith in
    let rest : are_sound_after (before ++ a ∷ []) acts ≡ true = grind arith in
    rw here (sound_front n (before ++ a ∷ []) acts rest)

pub sound_take : (n : ℕ) (acts : List Act) → is_sound acts ≡ true → is_sound (take n acts) ≡ true
sound_take n acts h = sound_front n [] acts h

apart : (b : Bool) (octets : List ℕ) → (b ≡ true → ⊥) → (if b then octets else []) ≡ []
apart true octets h = absurd (h refl)
apart false octets h = refl

-- nothing is sent to a connection that does not arrive
unsent_by : (before rest : List Act) (one : Act) (c : ℕ) → is_sound_after before one ≡ true → has_arrived (before ++ rest) c ≡ false → sent_by c one ≡ []
unsent_by before rest (act.Octets other octets) c h a =
    let there : has_arrived before other.0 ≡ true = grind arith in
    let split : (has_arrived before c || has_arrived rest c) ≡ false = sym (list_any-append (is_arrival c) before rest) ∙ a in
    apart (nat_eq other.0 c) octets (λ same. let e : other.0 ≡ c = grind (arith, nat_tests) in let come : has_arrived before c ≡ true = rw (← e) there in grind arith)
unsent_by before rest (act.Arrive other credit) c h a = refl
unsent_by before rest (act.End other) c h a = refl
unsent_by before rest (act.ReadFails other) c h a = refl
unsent_by before rest (act.Room other more) c h a = refl
unsent_by before rest (act.WriteFails other) c h a = refl
unsent_by before rest act.Tick c h a = refl
unsent_by before rest act.Turn c h a = refl

unsent_from : (before acts : List Act) (c : ℕ) → are_sound_after before acts ≡ true → has_arrived (before ++ acts) c ≡ false → sent c acts ≡ []
unsent_from before [] c h a = refl
unsent_from before (one ∷ acts) c h a =
    let here : is_sound_after before one ≡ true = grind arith in
    let rest : are_sound_after (before ++ one ∷ []) acts ≡ true = grind arith in
    let none : sent_by c one ≡ [] = unsent_by before (one ∷ acts) one c here a in
    let more : sent c acts ≡ [] = unsent_from (before ++ one ∷ []) acts c rest (ap (λ l. has_arrived l c) (append_assoc before (one ∷ []) acts) ∙ a) in
    rw (none, more) refl

pub unsent : (acts : List Act) (c : ℕ) → is_sound acts ≡ true → has_arrived acts c ≡ false → sent c acts ≡ []
unsent acts c h a = unsent_from [] acts c h a

map_same : {A : Type 0} (f g : ℕ → A) (xs : List ℕ) → ((x : ℕ) → g x ≡ f x) → map g xs ≡ map f xs
map_same f g [] e = refl
map_same f g (x ∷ xs) e = rw (e x, map_same f g xs e) refl

map_above : {A : Type 0} (f g : ℕ → A) (c : ℕ) (ns : List ℕ) → list_all (nat_lt c) ns ≡ true → ((d : ℕ) → d ≢ c → g d ≡ f d) → map g ns ≡ map f ns
map_above f g c [] h e = refl
map_above f g c (n ∷ ns) h e =
    let here : c < n = grind (arith, nat_tests) in
    let rest : list_all (nat_lt c) ns ≡ true = grind (arith, nat_tests) in
    rw (e n (λ s. absurd (omega arith)), map_above f g c ns rest e) refl

map_set : {A : Type 0} (f g : ℕ → A) (ns : List ℕ) (i c : ℕ) → Rises ns → slice_get ns i ≡ Some c → ((d : ℕ) → d ≢ c → g d ≡ f d) → map g ns ≡ slice_set (map f ns) i (g c)
map_set f g [] i c r h e = cc
map_set f g (n ∷ ns) zero c r h e = let same : n ≡ c = grind arith in rw (map_above f g n ns r.0 (λ d a. e d (λ s. a (s ∙ sym same)))) (ap (λ x. g x ∷ map f ns) same)
map_set f g (n ∷ ns) (suc i) c r h e =
    let less : n < c = above n ns i c r.0 h in
    rw (e n (λ s. absurd (omega arith)), map_set f g ns i c r.1 h e) refl

-- an arrival adds a link to which nothing was sent yet
pub links_arrive : (acts : List Act) (i : ℕ) (conn : ℕ) (credit : Option ℕ) → is_sound acts ≡ true → slice_get acts i ≡ Some (act.Arrive (record { 0 = conn }) credit)
    → new_links (take (i + 1) acts) ≡ new_links (take i acts) ++ new_link [] ∷ []
links_arrive acts i conn credit h e =
    let one = act.Arrive (record { 0 = conn }) credit in
    let before = take i acts in
    let after : take (i + 1) acts ≡ before ++ one ∷ [] = take_next acts i one e in
    let sound : is_sound_after before one ≡ true = sound_at acts i one h e in
    let rising : is_rising before conn ≡ true = grind arith in
    let none : sent conn (before ++ one ∷ []) ≡ [] = sent_push conn before one ∙ append-nil (sent conn before) ∙ unsent before conn (sound_take i acts h) (new_number before conn rising) in
    let numbers : arrivals (before ++ one ∷ []) ≡ arrivals before ++ conn ∷ [] = flat_map-append arrives_by before (one ∷ []) in
    let same = map_same (λ c. new_link (sent c before)) (λ c. new_link (sent c (before ++ one ∷ []))) (arrivals before) (λ c. ap new_link (sent_push c before one ∙ append-nil (sent c before))) in
    ap new_links after ∙ ap (map (λ c. new_link (sent c (before ++ one ∷ [])))) numbers ∙ map-append (λ c. new_link (sent c (before ++ one ∷ []))) (arrivals before) (conn ∷ [])
    ∙ ap (λ l. l ++ new_link (sent conn (before ++ one ∷ [])) ∷ []) same ∙ ap (λ os. new_links before ++ new_link os ∷ []) none

-- octets are sent to one link
pub links_send : (acts : List Act) (i conn place : ℕ) (octets : List ℕ) (link : LinkState) → is_sound acts ≡ true → slice_get acts i ≡ Some (act.Octets (record { 0 = conn }) octets)
    → slice_get (arrivals (take i acts)) place ≡ Some conn → link ≡ get_or (new_links (take i acts)) place link
    → new_links (take (i + 1) acts) ≡ slice_set (new_links (take i acts)) place (record link { coming = link.coming ++ octets })
links_send acts i conn place octets link h e p l =
    let one = act.Octets (record { 0 = conn }) octets in
    let before = take i acts in
    let after : take (i + 1) acts ≡ before ++ one ∷ [] = take_next acts i one e in
    let numbers : arrivals (before ++ one ∷ []) ≡ arrivals before = flat_map-append arrives_by before (one ∷ []) ∙ append-nil (arrivals before) in
    let f : ℕ → LinkState = λ c. new_link (sent c before) in
    let g : ℕ → LinkState = λ c. new_link (sent c (before ++ one ∷ [])) in
    let rises : Rises (arrivals before) = sound_rises before (sound_take i acts h) in
    let there : slice_get (new_links before) place ≡ Some (f conn) = slice_get-map f (arrivals before) place ∙ ap (option_map f) p in
    let is : link ≡ f conn = l ∙ get_or_from_slice_get (new_links before) place (f conn) link there in
    let elsewhere : (d : ℕ) → d ≢ conn → g d ≡ f d = λ d a. let off : nat_eq conn d ≡ false = grind (arith, nat_tests) in ap new_link (sent_push d before one ∙ rw off (append-nil (sent d before))) in
    let same : nat_eq conn conn ≡ true = grind (arith, nat_tests) in
    let here : g conn ≡ record link { coming = link.coming ++ octets } = ap new_link (sent_push conn before one ∙ rw same refl) ∙ ap (λ (x : LinkState). record x { coming = x.coming ++ octets }) (sym is) in
    ap new_links after ∙ ap (map g) numbers ∙ map_set f g (arrivals before) place conn rises p elsewhere ∙ ap (slice_set (new_links before) place) here

-- the links before the first act
made_by : (b : Bool) (f : ℕ → LinkState) (n c : ℕ) (rest : LinkState) → (b ≡ true → n ≡ c) → (b ≡ false → rest ≡ f c) → (if b then f n else rest) ≡ f c
made_by true f n c rest h g = ap f (h refl)
made_by false f n c rest h g = g refl

link_made : (f : ℕ → LinkState) (ns : List ℕ) (c : ℕ) → list_any (λ number. nat_eq number c) ns ≡ true → link_of ns (map f ns) c ≡ f c
link_made f [] c h = cc
link_made f (n ∷ ns) c h = made_by (nat_eq n c) f n c (link_of ns (map f ns) c) (λ s. grind (arith, nat_tests)) (λ s. link_made f ns c (grind (arith, nat_tests)))

length_made : (f : ℕ → LinkState) (ns : List ℕ) → length (map f ns) ≡ length ns
length_made f [] = refl
length_made f (n ∷ ns) = ap suc (length_made f ns)

none_live : (f : ℕ → LinkState) (p : LinkState → Bool) (ns : List ℕ) → ((c : ℕ) → p (f c) ≡ false) → list_any p (map f ns) ≡ false
none_live f p [] h = refl
none_live f p (n ∷ ns) h = rw (h n, none_live f p ns h) refl

pub starts : (acts : List Act) → length acts < 2 ^ 64 → is_sound acts ≡ true → Keeps (arrivals acts) false (start_net acts)
starts acts few sound = record {
  follows = record {
    few = few;
    done = omega arith;
    sound = sound;
    links = length_made (λ c. new_link (sent c acts)) (arrivals acts);
    fits = λ c a.
        let made : link_of (arrivals acts) (new_links acts) c ≡ new_link (sent c acts) = link_made (λ d. new_link (sent d acts)) (arrivals acts) c (arrived acts c ∙ a) in
        rw made (record {
          came = refl;
          coming = refl;
          finish = refl;
          ready = λ h. cc;
          answered = λ h. cc;
          ended = refl;
          broken = λ h. cc;
          unbroken = λ w h. cc;
          quiet = λ h. refl;
          takes = record { credit_is = refl; failing_is = refl; few = omega arith; within = omega arith; full = λ l h. cc; more = λ w s f. cc; all = λ any. refl };
        });
    passed = omega arith;
    stops = λ h. refl;
    told = λ h. cc;
    turned = λ h less. cc;
  };
  numbers_are = refl;
  read = λ h. all_told (start_net acts) (none_live (λ c. new_link (sent c acts)) is_untold (arrivals acts) (λ c. refl));
}

-- the connection of an act that sends octets arrived before it
pub sends_arrived : (acts : List Act) (i : ℕ) (conn : ℕ) (octets : List ℕ) → is_sound acts ≡ true → slice_get acts i ≡ Some (act.Octets (record { 0 = conn }) octets) → list_any (λ number. nat_eq number conn) (arrivals (take i acts)) ≡ true
sends_arrived acts i conn octets h e =
    let sound : is_sound_after (take i acts) (act.Octets (record { 0 = conn }) octets) ≡ true = sound_at acts i (act.Octets (record { 0 = conn }) octets) h e in
    let there : has_arrived (take i acts) conn ≡ true = grind arith in
    arrived (take i acts) conn ∙ there

pub place_made : (acts : List Act) (place conn : ℕ) → slice_get (arrivals acts) place ≡ Some conn → place < length (new_links acts)
place_made acts place conn e = let long = length_made (λ c. new_link (sent c acts)) (arrivals acts) in let within = slice_get_within (arrivals acts) place conn e in omega arith
