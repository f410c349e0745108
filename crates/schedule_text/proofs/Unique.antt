-- Octets have one reading.
use Rattle.schedule_text.proofs.Below.{◌≡◌, ◌≢◌, ℕ, ◌+◌, ◌<◌, ◌≤◌, ◌&&◌, Bool, true, false, not, cond, leb, List, [], ◌∷◌, ◌++◌, Some, None, Result, Ok, Err, length, refl, sym, ap, subst, ◌∙◌, append_assoc, arith, inl, inr, ◌⊎◌, flat_map, AllByRecursion, append-nil, and_parts, is_number, is_rising, has_arrived, has_ended, can_send, is_sound_after, are_sound_after, Act, Fault, ReadFault, spelled, header, schedule_text, HasLine, act_at, sending_fault, fault_after, Breaks, Begins, IsText, IsRefused, IsReading, IsUnlessMemory}
use Rattle.link_trait.specs.declared.act.Act.TheVariants as act
use Rattle.schedule_text.specs.declared.fault.Fault.TheVariants as fault
use Rattle.schedule_text.specs.declared.fault.ReadFault.TheVariants as read
use Rattle.schedule_text.proofs.Lines.{act_again, act_once}
use Rattle.schedule_text.proofs.Begun.{BreaksAs, none_is, some_fault as some_fault_once}

-- ---- acts that break no rule

can : (arrived ended : Bool) (x y : Fault) → (arrived && not ended) ≡ true → cond (not arrived) (Some x) (cond ended (Some y) None) ≡ None
can true true x y e = absurd cc
can true false x y e = refl
can false ended x y e = absurd cc

can_send_is : (acts : List Act) (conn : ℕ) → can_send acts conn ≡ true → sending_fault acts conn ≡ None
can_send_is acts conn e = can (has_arrived acts conn) (has_ended acts conn) _ _ e

sound_fault : (acts : List Act) (act : Act) → HasLine act → is_sound_after acts act ≡ true → fault_after acts act ≡ None
sound_fault acts (act.Arrive conn credit) h e =
    let parts = and_parts (is_number conn.0) (is_rising acts conn.0) e in
    rw parts.1 refl
sound_fault acts (act.Octets conn octets) h e =
    let parts = and_parts (is_number conn.0 && can_send acts conn.0 && leb 1 (length octets)) (leb (length octets) 8192) e in
    let more = and_parts (is_number conn.0 && can_send acts conn.0) (leb 1 (length octets)) parts.0 in
    can_send_is acts conn.0 (and_parts (is_number conn.0) (can_send acts conn.0) more.0).1
sound_fault acts (act.End conn) h e = can_send_is acts conn.0 (and_parts (is_number conn.0) (can_send acts conn.0) e).1
sound_fault acts (act.ReadFails conn) h e = can_send_is acts conn.0 (and_parts (is_number conn.0) (can_send acts conn.0) e).1
sound_fault acts (act.Room conn more) h e =
    let last = and_parts (is_number conn.0 && has_arrived acts conn.0) (leb 1 more) e in
    rw (and_parts (is_number conn.0) (has_arrived acts conn.0) last.0).1 refl
sound_fault acts (act.WriteFails conn) h e = rw (and_parts (is_number conn.0) (has_arrived acts conn.0) e).1 refl
sound_fault acts act.Tick h e = refl
sound_fault acts act.Turn h e = refl

-- ---- a line breaks one rule

-- it is the line of no act, or of one that breaks a rule
BreaksEither : List Act → List ℕ → Fault → Type 0
BreaksEither acts octets f = ((f ≡ fault.BadLine) × (0 < length octets) × ((act : Act) (rest : List ℕ) → HasLine act → octets ≢ spelled act ++ rest)) ⊎ BreaksAs acts octets f

either : (acts : List Act) (octets : List ℕ) (f : Fault) → Breaks acts octets f → BreaksEither acts octets f
unfolding BreaksEither
either acts octets fault.TooLong b = absurd b
either acts octets fault.BadHeader b = absurd b
either acts octets fault.BadLine b = inl (refl, b.0, b.1)
either acts octets fault.NotRising (act, rest, line, text, is) = inr (record { act = act; rest = rest; line = line; text = text; fault = is })
either acts octets fault.UnknownConn (act, rest, line, text, is) = inr (record { act = act; rest = rest; line = line; text = text; fault = is })
either acts octets fault.AfterEnd (act, rest, line, text, is) = inr (record { act = act; rest = rest; line = line; text = text; fault = is })

breaks_once : (acts : List Act) (octets : List ℕ) (f g : Fault) → Breaks acts octets f → Breaks acts octets g → f ≡ g
unfolding BreaksEither
breaks_once acts octets f g b c = go (either acts octets f b) (either acts octets g c)
  where
    go : BreaksEither acts octets f → BreaksEither acts octets g → f ≡ g
    go (inl x) (inl y) = x.0 ∙ sym y.0
    go (inl x) (inr y) = absurd (x.2 y.act y.rest y.line y.text)
    go (inr x) (inl y) = absurd (y.2 x.act x.rest x.line x.text)
    go (inr x) (inr y) =
        let same = (act_once x.act y.act x.rest y.rest x.line y.line (sym x.text ∙ y.text)).0 in
        some_fault_once f g (sym x.fault ∙ ap (fault_after acts) same ∙ y.fault)

none_fault : (f : Fault) → None ≡ Some f → ⊥
none_fault f e = cc

-- and none where its act breaks none
breaks_not : (acts : List Act) (octets : List ℕ) (f : Fault) (act : Act) (rest : List ℕ) → Breaks acts octets f → HasLine act → octets ≡ spelled act ++ rest → fault_after acts act ≡ None → ⊥
unfolding BreaksEither
breaks_not acts octets f act rest b line text none = go (either acts octets f b)
  where
    go : BreaksEither acts octets f → ⊥
    go (inl x) = x.2 act rest line text
    go (inr x) = none_fault f (sym none ∙ ap (fault_after acts) (act_once act x.act rest x.rest line x.line (sym text ∙ x.text)).0 ∙ x.fault)

no_line : (act : Act) (rest : List ℕ) → HasLine act → [] ≡ spelled act ++ rest → ⊥
unfolding act_at
no_line act rest line e = none_is (act, rest) (sym (act_again act rest line) ∙ ap act_at (sym e))

breaks_some : (acts : List Act) (f : Fault) → Breaks acts [] f → ⊥
unfolding BreaksEither
breaks_some acts f b = go (either acts [] f b)
  where
    go : BreaksEither acts [] f → ⊥
    go (inl x) = absurd (omega (arith, x.1))
    go (inr x) = no_line x.act x.rest x.line x.text

-- ---- octets have one list of acts, up to the end or a line that breaks a rule

Stops : List Act → List ℕ → Type 0
Stops acts rest = (rest ≡ []) ⊎ ((f : Fault) × Breaks acts rest f)

stops_not : (before acts : List Act) (rest after : List ℕ) (act : Act) → before ≡ acts → Stops acts rest → HasLine act → rest ≡ spelled act ++ after → is_sound_after before act ≡ true → ⊥
unfolding Stops
stops_not before acts rest after act e (inl x) line text sound = no_line act after line (sym x ∙ text)
stops_not before acts rest after act e (inr (f, b)) line text sound = breaks_not acts rest f act after b line text (ap (λ (a : List Act). fault_after a act) (sym e) ∙ sound_fault before act line sound)

record Same (a b : List Act) (x y : List ℕ) : Type 0 where
  acts : a ≡ b
  rest : x ≡ y

one_reading : (before a b : List Act) (x y : List ℕ) → AllByRecursion HasLine a → AllByRecursion HasLine b → are_sound_after before a ≡ true → are_sound_after before b ≡ true
    → flat_map spelled a ++ x ≡ flat_map spelled b ++ y → Stops (before ++ a) x → Stops (before ++ b) y → Same a b x y
one_reading before [] [] x y la lb sa sb e p q = record { acts = refl; rest = e }
one_reading before [] (b ∷ bs) x y la lb sa sb e p q =
    absurd (stops_not before (before ++ []) x (flat_map spelled bs ++ y) b (sym (append-nil before)) p lb.0 (e ∙ append_assoc (spelled b) (flat_map spelled bs) y) (and_parts (is_sound_after before b) (are_sound_after (before ++ b ∷ []) bs) sb).0)
one_reading before (a ∷ more) [] x y la lb sa sb e p q =
    absurd (stops_not before (before ++ []) y (flat_map spelled more ++ x) a (sym (append-nil before)) q la.0 (sym e ∙ append_assoc (spelled a) (flat_map spelled more) x) (and_parts (is_sound_after before a) (are_sound_after (before ++ a ∷ []) more) sa).0)
one_reading before (a ∷ more) (b ∷ bs) x y la lb sa sb e p q =
    let same = act_once a b (flat_map spelled more ++ x) (flat_map spelled bs ++ y) la.0 lb.0 (sym (append_assoc (spelled a) (flat_map spelled more) x) ∙ e ∙ append_assoc (spelled b) (flat_map spelled bs) y) in
    let sound_b = (and_parts (is_sound_after before b) (are_sound_after (before ++ b ∷ []) bs) sb).1 in
    let later = one_reading (before ++ a ∷ []) more bs x y la.1 lb.1 (and_parts (is_sound_after before a) (are_sound_after (before ++ a ∷ []) more) sa).1
    (subst (λ (z : Act). are_sound_after (before ++ z ∷ []) bs ≡ true) (sym same.0) sound_b) same.1
    (subst (λ (acts : List Act). Stops acts x) (sym (append_assoc before (a ∷ []) more)) p)
    (subst (λ (acts : List Act). Stops acts y) (ap (λ (z : Act). before ++ z ∷ bs) (sym same.0) ∙ sym (append_assoc before (a ∷ []) bs)) q) in
    record { acts = ap (λ (z : Act). z ∷ more) same.0 ∙ ap (λ (zs : List Act). b ∷ zs) later.acts; rest = later.rest }

after_header : (x y : List ℕ) → header ++ x ≡ header ++ y → x ≡ y
after_header x y e = cc

begins_once : (octets : List ℕ) (a b : List Act) (x y : List ℕ) → Begins octets a x → Begins octets b y → Stops a x → Stops b y → Same a b x y
begins_once octets a b x y p q s t =
    one_reading [] a b x y p.lines q.lines p.sound q.sound (after_header (flat_map spelled a ++ x) (flat_map spelled b ++ y) (sym (append_assoc header (flat_map spelled a) x) ∙ sym p.text ∙ q.text ∙ append_assoc header (flat_map spelled b) y)) s t

-- ---- and one answer

pub text_begins : (octets : List ℕ) (acts : List Act) → IsText octets acts → Begins octets acts []
text_begins octets acts h = record { short = h.short; text = h.text ∙ sym (append-nil (schedule_text acts)); lines = h.lines; sound = h.sound }

-- a refusal by one of its three kinds
Refusal : List ℕ → ℕ → Fault → Type 0
Refusal octets line f =
    ((f ≡ fault.TooLong) × (line ≡ 0) × (1048576 < length octets))
    ⊎ (((f ≡ fault.BadHeader) × (line ≡ 1) × (length octets ≤ 1048576) × ((rest : List ℕ) → octets ≢ header ++ rest))
    ⊎ ((acts : List Act) × (rest : List ℕ) × (line ≡ length acts + 2) × Begins octets acts rest × Breaks acts rest f))

refusal : (octets : List ℕ) (line : ℕ) (f : Fault) → IsRefused octets line f → Refusal octets line f
unfolding Refusal
refusal octets line fault.TooLong h = inl (refl, h.0, h.1)
refusal octets line fault.BadHeader h = inr (inl (refl, h.0, h.1, h.2))
refusal octets line fault.BadLine h = inr (inr h)
refusal octets line fault.NotRising h = inr (inr h)
refusal octets line fault.UnknownConn h = inr (inr h)
refusal octets line fault.AfterEnd h = inr (inr h)

no_header : (octets : List ℕ) (acts : List Act) (rest : List ℕ) → Begins octets acts rest → ((rest : List ℕ) → octets ≢ header ++ rest) → ⊥
no_header octets acts rest h none = none (flat_map spelled acts ++ rest) (h.text ∙ append_assoc header (flat_map spelled acts) rest)

text_not_refused : (octets : List ℕ) (acts : List Act) (line : ℕ) (f : Fault) → IsText octets acts → Refusal octets line f → ⊥
unfolding Refusal Stops
text_not_refused octets acts line f h (inl x) = absurd (omega (arith, h.short, x.2))
text_not_refused octets acts line f h (inr (inl x)) = no_header octets acts [] (text_begins octets acts h) x.3
text_not_refused octets acts line f h (inr (inr (others, rest, is, begins, breaks))) =
    let same = begins_once octets acts others [] rest (text_begins octets acts h) begins (inl refl) (inr (f, breaks)) in
    breaks_some others f (subst (λ (r : List ℕ). Breaks others r f) (sym same.rest) breaks)

record SameRefusal (one other : ℕ) (f g : Fault) : Type 0 where
  line : one ≡ other
  fault : f ≡ g

refused_once : (octets : List ℕ) (line other : ℕ) (f g : Fault) → Refusal octets line f → Refusal octets other g → SameRefusal line other f g
unfolding Refusal Stops
refused_once octets line other f g (inl x) (inl y) = record { line = x.1 ∙ sym y.1; fault = x.0 ∙ sym y.0 }
refused_once octets line other f g (inl x) (inr (inl y)) = absurd (omega (arith, x.2, y.2))
refused_once octets line other f g (inl x) (inr (inr (acts, rest, is, begins, breaks))) = absurd (omega (arith, x.2, begins.short))
refused_once octets line other f g (inr (inl x)) (inl y) = absurd (omega (arith, x.2, y.2))
refused_once octets line other f g (inr (inl x)) (inr (inl y)) = record { line = x.1 ∙ sym y.1; fault = x.0 ∙ sym y.0 }
refused_once octets line other f g (inr (inl x)) (inr (inr (acts, rest, is, begins, breaks))) = absurd (no_header octets acts rest begins x.3)
refused_once octets line other f g (inr (inr (acts, rest, is, begins, breaks))) (inl y) = absurd (omega (arith, y.2, begins.short))
refused_once octets line other f g (inr (inr (acts, rest, is, begins, breaks))) (inr (inl y)) = absurd (no_header octets acts rest begins y.3)
refused_once octets line other f g (inr (inr (acts, rest, is, begins, breaks))) (inr (inr (others, left, is2, begins2, breaks2))) =
    let same = begins_once octets acts others rest left begins begins2 (inr (f, breaks)) (inr (g, breaks2)) in
    record {
      line = is ∙ ap (λ (a : List Act). length a + 2) same.acts ∙ sym is2;
      fault = breaks_once others left f g (subst (λ (a : List Act). Breaks a left f) same.acts (subst (λ (r : List ℕ). Breaks acts r f) same.rest breaks)) breaks2;
    }

pub only_text : (octets : List ℕ) (acts : List Act) (result : Result (List Act) ReadFault) → IsText octets acts → IsReading octets result → IsUnlessMemory (Ok acts) result
unfolding Stops
only_text octets acts (Ok others) h r = inl (ap (λ (a : List Act). Ok a) (begins_once octets others acts [] [] (text_begins octets others r) (text_begins octets acts h) (inl refl) (inl refl)).acts)
only_text octets acts (Err (read.Refused line f)) h r = absurd (text_not_refused octets acts line f h (refusal octets line f r))
only_text octets acts (Err read.Memory) h r = inr refl

pub only_refusal : (octets : List ℕ) (line : ℕ) (f : Fault) (result : Result (List Act) ReadFault) → IsRefused octets line f → IsReading octets result → IsUnlessMemory (Err (read.Refused line f)) result
only_refusal octets line f (Ok acts) h r = absurd (text_not_refused octets acts line f r (refusal octets line f h))
only_refusal octets line f (Err (read.Refused other g)) h r =
    let same = refused_once octets other line g f (refusal octets other g r) (refusal octets line f h) in
    inl (ap (λ (n : ℕ). Err (read.Refused n g)) same.line ∙ ap (λ (k : Fault). Err (read.Refused line k)) same.fault)
only_refusal octets line f (Err read.Memory) h r = inr refl
