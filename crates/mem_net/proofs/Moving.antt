-- Lemmas on a net in memory of which one link changes.
use Rattle.mem_net.proofs.Below.{◌≡◌, ◌≢◌, ℕ, zero, suc, ◌+◌, ◌-◌, ◌^◌, ◌<◌, ◌≤◌, ◌⊎◌, inl, inr, List, [], ◌∷◌, ◌++◌, length, take, drop, get_or, Bool, true, Some, slice_get, slice_set, refl, sym, ◌∙◌, ap, arith, length-append, sum_by, cases_eq, append-nil, take_more, drop_more, sum_by-set, slice_get_within, get_or_from_slice_get, slice_get-get_or, flat_map-append, has_arrived, is_sound, LinkState, Same, SameBut, arrivals, passes_by, passes, MemNetState, passed_by, link_at, readies_left, LinkFollows, FollowsSchedule, Act}
use Rattle.link_trait.specs.declared.act.Act.TheVariants as act
use Rattle.mem_net.proofs.Places.{link_here, link_elsewhere, link_there}
use Rattle.mem_net.proofs.Schedules.{sound_rises}
use Rattle.mem_net.proofs.Fitting.{IsApart, fits_apart}

pub either : {P Q A : Type 0} → P ⊎ Q → (P → A) → (Q → A) → A
either (inl p) f g = f p
either (inr q) f g = g q

-- what is done and what is to come, around an act
pub take_next : {A : Type 0} (xs : List A) (i : ℕ) (x : A) → slice_get xs i ≡ Some x → take (i + 1) xs ≡ take i xs ++ x ∷ []
take_next xs i x e = take_more xs i x (slice_get_within xs i x e) ∙ ap (λ y. take i xs ++ y ∷ []) (get_or_from_slice_get xs i x x e)

pub drop_next : {A : Type 0} (xs : List A) (i : ℕ) (x : A) → slice_get xs i ≡ Some x → drop i xs ≡ x ∷ drop (i + 1) xs
drop_next xs i x e = drop_more xs i x (slice_get_within xs i x e) ∙ ap (λ y. y ∷ drop (i + 1) xs) (get_or_from_slice_get xs i x x e)

-- link i of net is set to link; all else but the counts stays
pub record Moves (c i : ℕ) (old new : MemNetState) (link : LinkState) : Type 0 where
  pub acts : new.acts ≡ old.acts
  pub links : new.links ≡ slice_set old.links i link
  pub place : slice_get (arrivals old.acts) i ≡ Some c
  pub within : i < length old.links
  pub sound : is_sound old.acts ≡ true

pub moved_here : (c i : ℕ) (old new : MemNetState) (link : LinkState) → Moves c i old new link → link_at new c ≡ link
moved_here c i old new link m = rw (m.acts, m.links) (link_here (arrivals old.acts) old.links i c link (sound_rises old.acts m.sound) m.place m.within)

pub moved_elsewhere : (c i : ℕ) (old new : MemNetState) (link : LinkState) → Moves c i old new link → (d : ℕ) → d ≢ c → link_at new d ≡ link_at old d
moved_elsewhere c i old new link m d n = rw (m.acts, m.links) (link_elsewhere (arrivals old.acts) old.links i c d link m.place n)

-- what is the same of the link that changes is the same of all
pub moved_same : {A : Type 0} (f : LinkState → A) (c i : ℕ) (old new : MemNetState) (link : LinkState) → Moves c i old new link → f link ≡ f (link_at old c) → Same (λ d. f (link_at old d)) (λ d. f (link_at new d))
moved_same {A} f c i old new link m e d =
    let at : d ≡ c → f (link_at new d) ≡ f (link_at old d) = λ h. rw h (ap f (moved_here c i old new link m) ∙ e) in
    let off : (d ≡ c → ⊥) → f (link_at new d) ≡ f (link_at old d) = λ h. ap f (moved_elsewhere c i old new link m d h) in
    either (cases_eq d c) at off

pub moved_but : {A : Type 0} (f : LinkState → A) (c i : ℕ) (old new : MemNetState) (link : LinkState) → Moves c i old new link → SameBut c (λ d. f (link_at old d)) (λ d. f (link_at new d))
moved_but f c i old new link m d n = ap f (moved_elsewhere c i old new link m d n)

-- the sum over all links changes as the link that changes
pub moved_sum : (c i : ℕ) (old new : MemNetState) (link : LinkState) → Moves c i old new link → sum_by readies_left new.links + readies_left (link_at old c) ≡ sum_by readies_left old.links + readies_left link
moved_sum c i old new link m =
    let there : slice_get old.links i ≡ Some (get_or old.links i link) = slice_get-get_or old.links i link m.within in
    let found : link_at old c ≡ get_or old.links i link = link_there (arrivals old.acts) old.links i c (get_or old.links i link) (sound_rises old.acts m.sound) m.place there in
    rw (m.links, found) (sum_by-set readies_left old.links i link link m.within)

-- an act is the next one
pub record IsNext (one : Act) (old new : MemNetState) : Type 0 where
  pub at : slice_get old.acts old.done ≡ Some one
  pub follows : FollowsSchedule old
  pub acts : new.acts ≡ old.acts
  pub one_more : new.done ≡ old.done + 1
  pub whole : new.whole ≡ old.whole

pub next_within : (one : Act) (old new : MemNetState) → IsNext one old new → old.done < length old.acts
next_within one old new n = slice_get_within old.acts old.done one n.at

-- the count of acts done can rise
pub next_fits : (one : Act) (old : MemNetState) → FollowsSchedule old → slice_get old.acts old.done ≡ Some one → old.done + 1 < 2 ^ 64
next_fits one old f e = let within : old.done < length old.acts = slice_get_within old.acts old.done one e in let few = f.few in omega arith

pub next_done : (one : Act) (old new : MemNetState) → IsNext one old new → take new.done new.acts ≡ take old.done old.acts ++ one ∷ []
next_done one old new n = rw (n.acts, n.one_more) (take_next old.acts old.done one n.at)

pub next_rest : (one : Act) (old new : MemNetState) → IsNext one old new → drop old.done old.acts ≡ one ∷ drop new.done new.acts
next_rest one old new n = rw (n.acts, n.one_more) (drop_next old.acts old.done one n.at)

-- the links of all other connections fit, once an act on one was done
pub fits_all : (one : Act) (c i : ℕ) (old new : MemNetState) (link : LinkState) → IsNext one old new → Moves c i old new link → ((d : ℕ) → d ≢ c → IsApart d one)
    → (has_arrived old.acts c ≡ true → LinkFollows c (take old.done old.acts ++ one ∷ []) (drop new.done new.acts) old.whole link)
    → (d : ℕ) → has_arrived new.acts d ≡ true → LinkFollows d (take new.done new.acts) (drop new.done new.acts) new.whole (link_at new d)
fits_all one c i old new link n m apart here d a =
    let P : List Act → Bool → LinkState → Type 0 = λ done whole l. LinkFollows d done (drop new.done new.acts) whole l in
    let came : has_arrived old.acts d ≡ true = ap (λ l. has_arrived l d) (sym n.acts) ∙ a in
    let goal_at : (l : LinkState) → link_at new d ≡ l → LinkFollows d (take old.done old.acts ++ one ∷ []) (drop new.done new.acts) old.whole l → LinkFollows d (take new.done new.acts) (drop new.done new.acts) new.whole (link_at new d) =
    λ l e f. rw (next_done one old new n, n.whole, e) f in
    let off : (d ≡ c → ⊥) → LinkFollows d (take new.done new.acts) (drop new.done new.acts) new.whole (link_at new d) = λ h.
    goal_at (link_at old d) (moved_elsewhere c i old new link m d h)
    (fits_apart d (take old.done old.acts) (drop new.done new.acts) one old.whole (link_at old d) (apart d h)
    (rw (← (next_rest one old new n)) (n.follows.fits d came))) in
    let on : d ≡ c → LinkFollows d (take new.done new.acts) (drop new.done new.acts) new.whole (link_at new d) = λ h.
    goal_at link (ap (link_at new) h ∙ moved_here c i old new link m) (rw h (here (ap (has_arrived old.acts) (sym h) ∙ came))) in
    either (cases_eq d c) on off

pub fits_unmoved : (one : Act) (old new : MemNetState) → IsNext one old new → new.links ≡ old.links → ((d : ℕ) → IsApart d one) → (d : ℕ) → has_arrived new.acts d ≡ true → LinkFollows d (take new.done new.acts) (drop new.done new.acts) new.whole (link_at new d)
fits_unmoved one old new n l apart d a =
    let came : has_arrived old.acts d ≡ true = ap (λ l. has_arrived l d) (sym n.acts) ∙ a in
    let same : link_at new d ≡ link_at old d = rw (n.acts, l) refl in
    rw (next_done one old new n, n.whole, same) (fits_apart d (take old.done old.acts) (drop new.done new.acts) one old.whole (link_at old d) (apart d) (rw (← (next_rest one old new n)) (n.follows.fits d came)))

-- answers that pass
passes_few_by : (one : Act) → length (passes_by one) ≤ 1
passes_few_by (act.Arrive conn credit) = omega arith
passes_few_by (act.Octets conn octets) = omega arith
passes_few_by (act.End conn) = omega arith
passes_few_by (act.ReadFails conn) = omega arith
passes_few_by (act.Room conn more) = omega arith
passes_few_by (act.WriteFails conn) = omega arith
passes_few_by act.Tick = omega arith
passes_few_by act.Turn = omega arith

pub passes_few : (n : ℕ) (acts : List Act) → length (passes (take n acts)) ≤ n
passes_few zero acts = omega arith
passes_few (suc n) [] = omega arith
passes_few (suc n) (a ∷ acts) = let one = passes_few_by a in let more = passes_few n acts in rw (length-append (passes_by a) (passes (take n acts))) (omega arith)

pub passes_push : (acts : List Act) (one : Act) → passes (acts ++ one ∷ []) ≡ passes acts ++ passes_by one
passes_push acts one = flat_map-append passes_by acts (one ∷ []) ∙ ap (λ l. passes acts ++ l) (append-nil (passes_by one))

pub no_stops : (acts : List Act) (answers : ℕ) → answers ≡ length (passes acts) → passed_by acts answers ≡ passes acts
no_stops acts answers e =
    let none : answers - length (passes acts) ≡ 0 = omega arith in
    rw none (append-nil (passes acts))

-- before the end no Stop passed
pub passed_before : (one : Act) (old new : MemNetState) → IsNext one old new → passed_by (take old.done old.acts) old.answers ≡ passes (take old.done old.acts)
passed_before one old new n = no_stops (take old.done old.acts) old.answers (n.follows.stops (next_within one old new n))

-- an act that passes nothing
pub record Passes (new : MemNetState) : Type 0 where
  pub passed : length (passes (take new.done new.acts)) ≤ new.answers
  pub stops : new.done < length new.acts → new.answers ≡ length (passes (take new.done new.acts))

pub answers_quiet : (one : Act) (old new : MemNetState) → IsNext one old new → passes_by one ≡ [] → new.answers ≡ old.answers → new.answers ≡ length (passes (take new.done new.acts))
answers_quiet one old new n q a =
    let same : passes (take new.done new.acts) ≡ passes (take old.done old.acts) = ap passes (next_done one old new n) ∙ passes_push (take old.done old.acts) one ∙ rw q (append-nil (passes (take old.done old.acts))) in
    a ∙ n.follows.stops (next_within one old new n) ∙ ap length (sym same)

pub quiet_passed : (one : Act) (old new : MemNetState) → IsNext one old new → passes_by one ≡ [] → new.answers ≡ old.answers → passed_by (take new.done new.acts) new.answers ≡ passed_by (take old.done old.acts) old.answers
quiet_passed one old new n q a =
    let same : passes (take new.done new.acts) ≡ passes (take old.done old.acts) = ap passes (next_done one old new n) ∙ passes_push (take old.done old.acts) one ∙ rw q (append-nil (passes (take old.done old.acts))) in
    no_stops (take new.done new.acts) new.answers (answers_quiet one old new n q a) ∙ same ∙ sym (passed_before one old new n)
