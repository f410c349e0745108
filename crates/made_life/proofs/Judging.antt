-- What the octets of a connection of a made schedule say: all of them, and each front of them.
use Rattle.std.proofs.Common.{◌≡◌, ◌≢◌, ◌≤◌, ℕ, zero, suc, ◌-◌, Bool, true, false, cond, List, [], ◌∷◌, ◌++◌, length, take, drop, map, Option, None, refl, sym, ap, ◌∙◌, subst, arith, inl, codes, append-nil, ◌&&◌, MatchOption}
use Rattle.std.specs.List.{flat_map}
use Rattle.std.proofs.Math.Seq.{drop-append_seam}
use Rattle.std.proofs.lemmas.List.{map-append}
use Rattle.httparse.specs.Grammar.{print_request, trim_ows}
use Rattle.bus_handler.specs.Bus.{routes_of_bus}
use Rattle.wire_meaning.specs.Reading.{reading}
use Rattle.made_schedule.specs.Made.{room_head}
use Rattle.upgrade_head.specs.Field.{fields_of}
use Rattle.upgrade_head.specs.Judged.{Verdict, Judged, JudgedHead, admit, refuse, more, unended, by_parts, by_key, by_path, asks_to_upgrade, has_version, is_get, is_offered, path_of, protocol_of, route_of}
use Rattle.upgrade_head.specs.Key.{accept_text, key_of}
use Rattle.ws_kinds.specs.declared.kind.Kind.TheVariants.{Text}
use Rattle.wire_meaning.specs.Event.{message}
use Rattle.mem_net.specs.Acts.{sent}
use Rattle.made_schedule.specs.Made.{made_acts}
use Rattle.made_schedule.specs.Message.{body_of, octets_of}
use Rattle.upgrade_head.proofs.JudgedLemmas.{judged_stays, judged_unique}
use Rattle.wire_meaning.proofs.GrowthLemmas.{reading-append}
use Rattle.run_meaning.specs.Life.{Heard, IsLife, life_by, opened, refused, read}
use Rattle.made_life.specs.Sending.{states_of}
use Rattle.made_life.specs.Life.{made_life}
use Rattle.made_life.proofs.Sending.{made_sent}
use Rattle.made_life.proofs.Reading.{read_all}
use Rattle.made_life.proofs.Heads.{request, printed, head_ends, size, gets, asks, versioned, keyed, routed, is_request}

-- the verdict on the request
abbrev pub admitted : Verdict
admitted = admit 146 1 (codes "m") (accept_text (codes "dGhlIHNhbXBsZSBub25jZQ==")) false

whole : take 146 room_head ≡ room_head
unfolding room_head
whole = refl

not_offered : is_offered (protocol_of routes_of_bus 1) (fields_of request) ≡ false
unfolding trim_ows
not_offered = refl

both : (a b : Bool) (v w : Verdict) → a ≡ true → b ≡ true → cond (a && b) v w ≡ v
both true true v w first second = refl
both true false v w first second = cc
both false b v w first second = cc

one_test : (a : Bool) (v w : Verdict) → a ≡ true → cond a v w ≡ v
one_test true v w is = refl
one_test false v w is = cc

parts : by_parts routes_of_bus 146 request ≡ admitted
parts =
    both (is_get request) (asks_to_upgrade (fields_of request)) (by_key routes_of_bus (fields_of request) request.target 146 (key_of (fields_of request))) (refuse 400) gets asks
    ∙ ap (λ (k : Option (List ℕ)). by_key routes_of_bus (fields_of request) request.target 146 k) keyed
    ∙ one_test (has_version (fields_of request)) (by_path routes_of_bus (fields_of request) (codes "dGhlIHNhbXBsZSBub25jZQ==") 146 (route_of routes_of_bus (path_of request.target))) (refuse 426) versioned
    ∙ ap (λ (r : Option (ℕ × List ℕ)). by_path routes_of_bus (fields_of request) (codes "dGhlIHNhbXBsZSBub25jZQ==") 146 r) routed
    ∙ ap (λ b. admit 146 1 (codes "m") (accept_text (codes "dGhlIHNhbXBsZSBub25jZQ==")) b) not_offered

pub head_judged : Judged routes_of_bus room_head admitted
head_judged = subst (λ (f : Option ℕ). MatchOption f (admitted ≡ unended (length room_head)) (λ end. JudgedHead routes_of_bus (take end room_head) admitted)) (sym head_ends)
    (inl (request, ((is_request, ap (λ (l : List ℕ). l) (whole ∙ printed) ∙ sym (append-nil (print_request request))), fields_few), sym (ap (λ k. by_parts routes_of_bus k request) (ap length whole ∙ size) ∙ parts)))
  where
    fields_few : length request.fields ≤ 64
    fields_few = omega arith

-- ---- the life

-- what follows the request says
after_head : (behind : List ℕ) → drop 146 (room_head ++ behind) ≡ behind
after_head behind = ap (λ k. drop k (room_head ++ behind)) (sym size) ∙ drop-append_seam room_head behind

not_more : admitted ≢ more
not_more is = cc

pub judged_then : (behind : List ℕ) → Judged routes_of_bus (room_head ++ behind) admitted
judged_then behind = judged_stays routes_of_bus room_head behind admitted head_judged not_more

-- all that the octets of a connection say
pub life_of : (behind : List ℕ) (life : List Heard) → IsLife routes_of_bus 16384 (room_head ++ behind) life → life ≡ opened 1 (codes "m") ∷ map read (reading 16384 behind)
life_of behind life is =
    let verdict = judged_unique routes_of_bus (room_head ++ behind) is.verdict admitted is.judged (judged_then behind) in
    is.says ∙ ap (life_by 16384 (room_head ++ behind)) verdict ∙ ap (λ (l : List ℕ). opened 1 (codes "m") ∷ map read (reading 16384 l)) (after_head behind)

read_states : (states : List ℕ) → map read (reading 16384 (flat_map octets_of states)) ≡ map (λ state. read (message Text (body_of state))) states
read_states states = ap (map read) (read_all states) ∙ each states
  where
    each : (states : List ℕ) → map read (map (λ state. message Text (body_of state)) states) ≡ map (λ state. read (message Text (body_of state))) states
    each [] = refl
    each (state ∷ states) = ap (λ (l : List Heard). read (message Text (body_of state)) ∷ l) (each states)

pub life_is : (seed conn : ℕ) (life : List Heard) → 1 ≤ conn → conn ≤ 64 → IsLife routes_of_bus 16384 (sent conn (made_acts seed)) life → life ≡ made_life conn seed
life_is seed conn life one most is =
    let octets = made_sent seed conn one most in
    life_of (flat_map octets_of (states_of conn seed)) life (subst (λ (l : List ℕ). IsLife routes_of_bus 16384 l life) octets is)
    ∙ ap (λ (l : List Heard). opened 1 (codes "m") ∷ l) (read_states (states_of conn seed))

-- ---- fronts

drop_over : (n : ℕ) (xs ys : List ℕ) → drop n (xs ++ ys) ≡ drop n xs ++ drop (n - length xs) ys
drop_over zero xs ys = let none : 0 - length xs ≡ 0 = omega arith in rw none refl
drop_over (suc n) [] ys = let same : suc n - 0 ≡ suc n = omega arith in rw same refl
drop_over (suc n) (x ∷ xs) ys = let same : suc n - suc (length xs) ≡ n - length xs = omega arith in rw same (drop_over n xs ys)

-- what a verdict on a front of the octets says goes on in what all of them say
front_by : (front behind : List ℕ) (verdict : Verdict) (all : List Heard) → Judged routes_of_bus front verdict → ((life : List Heard) → IsLife routes_of_bus 16384 (front ++ behind) life → life ≡ all)
    → (rest : List Heard) × (all ≡ life_by 16384 front verdict ++ rest)
front_by front behind more all judged are = (all, refl)
front_by front behind (refuse status) all judged are =
    let later : Judged routes_of_bus (front ++ behind) (refuse status) = judged_stays routes_of_bus front behind (refuse status) judged (λ e. cc) in
    ([], sym (are (refused status ∷ []) (record { verdict = refuse status; judged = later; says = refl })))
front_by front behind (admit end route param accept protocol) all judged are =
    let verdict = admit end route param accept protocol in
    let later : Judged routes_of_bus (front ++ behind) verdict = judged_stays routes_of_bus front behind verdict judged (λ e. cc) in
    let after = drop (end - length front) behind in
    let (events, longer) = reading-append 16384 None (drop end front) after in
    let says = sym (are (life_by 16384 (front ++ behind) verdict) (record { verdict = verdict; judged = later; says = refl })) in (
      map read events,
      says ∙ ap (λ (l : List Heard). opened route param ∷ l) (ap (λ (l : List ℕ). map read (reading 16384 l)) (drop_over end front behind) ∙ ap (map read) longer ∙ map-append read (reading 16384 (drop end front)) events),
    )

-- what a front of its octets says is a front of what all that a connection sends says
pub life_within : (seed conn : ℕ) (octets behind : List ℕ) (life : List Heard) → 1 ≤ conn → conn ≤ 64 → octets ++ behind ≡ sent conn (made_acts seed) → IsLife routes_of_bus 16384 octets life
    → (rest : List Heard) × (made_life conn seed ≡ life ++ rest)
life_within seed conn octets behind life one most split is =
    let (rest, whole) = front_by octets behind is.verdict (made_life conn seed) is.judged (λ all of. life_is seed conn all one most (subst (λ (l : List ℕ). IsLife routes_of_bus 16384 l all) split of)) in
    (rest, whole ∙ ap (λ (l : List Heard). l ++ rest) (sym is.says))
