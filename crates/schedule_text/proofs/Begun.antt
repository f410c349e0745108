-- Schedules of which some lines were read.
use Rattle.schedule_text.proofs.Below.{◌≡◌, ℕ, ◌+◌, ◌^◌, ◌<◌, ◌&&◌, Bool, true, false, not, cond, ltb, leb, List, [], ◌∷◌, ◌++◌, Option, Some, None, length, refl, sym, ap, subst, ◌∙◌, append_assoc, arith, flat_map, AllByRecursion, append-nil, length-append, lt-ltb, le-leb, both, is_number, is_rising, has_arrived, has_ended, can_send, is_sound_after, are_sound_after, Act, Fault, spelled, header, schedule_text, HasLine, IsNumber, Takes, act_at, sending_fault, fault_after, Breaks, Begins, IsRefused}
use Rattle.link_trait.specs.declared.act.Act.TheVariants as act
use Rattle.schedule_text.specs.declared.fault.Fault.TheVariants as fault
use Rattle.schedule_text.proofs.Lines.{act_takes, act_again}
use Rattle.schedule_text.proofs.Followed.{and_true, and_assoc, has_named, rises}
use Rattle.schedule_text.proofs.Outputs.{flat_map_more}
use Rattle.schedule_text.proofs.Numbers.{some_is as some_same}

pub none_is : (x : Act × List ℕ) → Some x ≡ None → ⊥
none_is x e = cc

pub some_fault : (f g : Fault) → Some f ≡ Some g → f ≡ g
some_fault f g e = cc

-- ---- sound acts and their faults

number_is : (conn : ℕ) → IsNumber conn → is_number conn ≡ true
number_is conn h = both (leb 1 conn) (ltb conn (2 ^ 32)) (le-leb _ _ h.0) (lt-ltb _ _ h.1)

no_end : (arrived ended : Bool) (x y : Fault) → cond (not arrived) (Some x) (cond ended (Some y) None) ≡ None → (arrived && not ended) ≡ true
no_end true true x y e = absurd cc
no_end true false x y e = refl
no_end false ended x y e = absurd cc

sends : (acts : List Act) (conn : ℕ) → sending_fault acts conn ≡ None → can_send acts conn ≡ true
sends acts conn e = no_end (has_arrived acts conn) (has_ended acts conn) _ _ e

pub act_sound : (acts : List Act) (act : Act) → HasLine act → fault_after acts act ≡ None → is_sound_after acts act ≡ true
act_sound acts (act.Arrive conn credit) h e = both (is_number conn.0) (is_rising acts conn.0) (number_is conn.0 h.0) (rises acts conn.0 e)
act_sound acts (act.Octets conn octets) h e = rw (number_is conn.0 h.0, sends acts conn.0 e, le-leb _ _ h.1, le-leb _ _ h.2) refl
act_sound acts (act.End conn) h e = both (is_number conn.0) (can_send acts conn.0) (number_is conn.0 h) (sends acts conn.0 e)
act_sound acts (act.ReadFails conn) h e = both (is_number conn.0) (can_send acts conn.0) (number_is conn.0 h) (sends acts conn.0 e)
act_sound acts (act.Room conn more) h e = rw (number_is conn.0 h.0, has_named acts conn.0 e, le-leb _ _ h.1) refl
act_sound acts (act.WriteFails conn) h e = both (is_number conn.0) (has_arrived acts conn.0) (number_is conn.0 h) (has_named acts conn.0 e)
act_sound acts act.Tick h e = refl
act_sound acts act.Turn h e = refl

sound_more : (before acts : List Act) (act : Act) → are_sound_after before (acts ++ act ∷ []) ≡ (are_sound_after before acts && is_sound_after (before ++ acts) act)
sound_more before [] act = and_true (is_sound_after before act) ∙ ap (λ (b : List Act). is_sound_after b act) (sym (append-nil before))
sound_more before (first ∷ acts) act =
    ap (λ (b : Bool). is_sound_after before first && b) (sound_more (before ++ first ∷ []) acts act ∙ ap (λ (b : List Act). are_sound_after (before ++ first ∷ []) acts && is_sound_after b act) (append_assoc before (first ∷ []) acts))
    ∙ and_assoc (is_sound_after before first) (are_sound_after (before ++ first ∷ []) acts) (is_sound_after (before ++ first ∷ acts) act)

lines_more : (acts : List Act) (act : Act) → AllByRecursion HasLine acts → HasLine act → AllByRecursion HasLine (acts ++ act ∷ [])
lines_more [] act h k = (k, tt)
lines_more (first ∷ acts) act h k = (h.0, lines_more acts act h.1 k)

text_more : (acts : List Act) (act : Act) (rest : List ℕ) → schedule_text acts ++ (spelled act ++ rest) ≡ schedule_text (acts ++ act ∷ []) ++ rest
text_more acts act rest =
    sym (append_assoc (schedule_text acts) (spelled act) rest)
    ∙ ap (λ (v : List ℕ). v ++ rest) (append_assoc header (flat_map spelled acts) (spelled act) ∙ ap (λ (v : List ℕ). header ++ v) (ap (λ (v : List ℕ). flat_map spelled acts ++ v) (sym (append-nil (spelled act))) ∙ sym (flat_map_more spelled acts (act ∷ []))))

-- ---- a line that is read, and one that is refused

pub next_line : (octets : List ℕ) (acts : List Act) (rest : List ℕ) (act : Act) (after : List ℕ) → Begins octets acts rest → act_at rest ≡ Some (act, after) → fault_after acts act ≡ None → Begins octets (acts ++ act ∷ []) after
next_line octets acts rest act after h e k =
    let line = act_takes rest (act, after) e in
    record {
      short = h.short;
      text = h.text ∙ ap (λ (v : List ℕ). schedule_text acts ++ v) line.1 ∙ text_more acts act after;
      lines = lines_more acts act h.lines line.0;
      sound = sound_more [] acts act ∙ both (are_sound_after [] acts) (is_sound_after acts act) h.sound (act_sound acts act line.0 k);
    }

pub bad_line : (octets : List ℕ) (acts : List Act) (rest : List ℕ) → Begins octets acts rest → 0 < length rest → act_at rest ≡ None → IsRefused octets (length acts + 2) fault.BadLine
bad_line octets acts rest h some e = (acts, rest, refl, h, (some, λ act after line is. none_is (act, after) (sym (act_again act after line) ∙ ap act_at (sym is) ∙ e)))

-- a fault after acts is one of three
pub data IsLate : Fault → Type 0 where
  not_rising : IsLate fault.NotRising
  unknown : IsLate fault.UnknownConn
  after_end : IsLate fault.AfterEnd

rising_late : (b : Bool) (f : Fault) → cond b None (Some fault.NotRising) ≡ Some f → IsLate f
rising_late true f e = absurd cc
rising_late false f e = subst IsLate (some_fault _ _ e) not_rising

naming_late : (b : Bool) (f : Fault) → cond b None (Some fault.UnknownConn) ≡ Some f → IsLate f
naming_late true f e = absurd cc
naming_late false f e = subst IsLate (some_fault _ _ e) unknown

sending_late : (b c : Bool) (f : Fault) → cond (not b) (Some fault.UnknownConn) (cond c (Some fault.AfterEnd) None) ≡ Some f → IsLate f
sending_late true true f e = subst IsLate (some_fault _ _ e) after_end
sending_late true false f e = absurd cc
sending_late false c f e = subst IsLate (some_fault _ _ e) unknown

pub is_late : (acts : List Act) (act : Act) (f : Fault) → fault_after acts act ≡ Some f → IsLate f
is_late acts (act.Arrive conn credit) f e = rising_late (is_rising acts conn.0) f e
is_late acts (act.Octets conn octets) f e = sending_late (has_arrived acts conn.0) (has_ended acts conn.0) f e
is_late acts (act.End conn) f e = sending_late (has_arrived acts conn.0) (has_ended acts conn.0) f e
is_late acts (act.ReadFails conn) f e = sending_late (has_arrived acts conn.0) (has_ended acts conn.0) f e
is_late acts (act.Room conn more) f e = naming_late (has_arrived acts conn.0) f e
is_late acts (act.WriteFails conn) f e = naming_late (has_arrived acts conn.0) f e
is_late acts act.Tick f e = absurd cc
is_late acts act.Turn f e = absurd cc

-- an act's line that breaks a rule behind the others
pub record BreaksAs (acts : List Act) (octets : List ℕ) (f : Fault) : Type 0 where
  pub act : Act
  pub rest : List ℕ
  pub line : HasLine act
  pub text : octets ≡ spelled act ++ rest
  pub fault : fault_after acts act ≡ Some f

breaks_as : (acts : List Act) (octets : List ℕ) (f : Fault) → IsLate f → BreaksAs acts octets f → Breaks acts octets f
breaks_as acts octets fault.NotRising not_rising b = (b.act, b.rest, b.line, b.text, b.fault)
breaks_as acts octets fault.UnknownConn unknown b = (b.act, b.rest, b.line, b.text, b.fault)
breaks_as acts octets fault.AfterEnd after_end b = (b.act, b.rest, b.line, b.text, b.fault)
breaks_as acts octets fault.TooLong late b = elim late [ ]
breaks_as acts octets fault.BadHeader late b = elim late [ ]
breaks_as acts octets fault.BadLine late b = elim late [ ]

refused_as : (octets : List ℕ) (acts : List Act) (rest : List ℕ) (f : Fault) → IsLate f → Begins octets acts rest → Breaks acts rest f → IsRefused octets (length acts + 2) f
refused_as octets acts rest fault.NotRising not_rising h b = (acts, rest, refl, h, b)
refused_as octets acts rest fault.UnknownConn unknown h b = (acts, rest, refl, h, b)
refused_as octets acts rest fault.AfterEnd after_end h b = (acts, rest, refl, h, b)
refused_as octets acts rest fault.TooLong late h b = elim late [ ]
refused_as octets acts rest fault.BadHeader late h b = elim late [ ]
refused_as octets acts rest fault.BadLine late h b = elim late [ ]

pub broken_line : (octets : List ℕ) (acts : List Act) (rest : List ℕ) (act : Act) (after : List ℕ) (f : Fault) → Begins octets acts rest → act_at rest ≡ Some (act, after) → fault_after acts act ≡ Some f → IsRefused octets (length acts + 2) f
broken_line octets acts rest act after f h e k =
    let line = act_takes rest (act, after) e in
    let late = is_late acts act f k in
    refused_as octets acts rest f late h (breaks_as acts rest f late (record { act = act; rest = after; line = line.0; text = line.1; fault = k }))

-- ---- what the cursor's call says

pair_with : {A : Type 0} → List ℕ → A → Option (A × List ℕ)
pair_with new x = Some (x, new)

pub taken_some : {A : Type 0} (new : List ℕ) (given : Option A) (front : Option (A × List ℕ)) (x : A) → Takes new given front → given ≡ Some x → front ≡ Some (x, new)
unfolding pair_with
taken_some new (Some y) front x h e = h ∙ ap (pair_with new) (some_same y x e)
taken_some new None front x h e = absurd cc

pub taken_none : {A : Type 0} (new : List ℕ) (given : Option A) (front : Option (A × List ℕ)) → Takes new given front → ((x : A) → given ≡ Some x → ⊥) → front ≡ None
taken_none new (Some y) front h not = absurd (not y refl)
taken_none new None front h not = h

pub none_from : {A : Type 0} (o : Option A) → ((x : A) → o ≡ Some x → ⊥) → o ≡ None
none_from (Some y) not = absurd (not y refl)
none_from None not = refl

-- a line takes at least one octet
pub spelled_some : (act : Act) → 0 < length (spelled act)
spelled_some (act.Arrive conn None) = omega arith
spelled_some (act.Arrive conn (Some credit)) = omega arith
spelled_some (act.Octets conn octets) = omega arith
spelled_some (act.End conn) = omega arith
spelled_some (act.ReadFails conn) = omega arith
spelled_some (act.Room conn more) = omega arith
spelled_some (act.WriteFails conn) = omega arith
spelled_some act.Tick = omega arith
spelled_some act.Turn = omega arith

pub shorter : (rest : List ℕ) (act : Act) (after : List ℕ) → act_at rest ≡ Some (act, after) → length after < length rest
shorter rest act after e = omega (arith, spelled_some act, length-append (spelled act) after, ap length (act_takes rest (act, after) e).1)

pub line_is : (rest : List ℕ) (act : Act) (after : List ℕ) → act_at rest ≡ Some (act, after) → HasLine act
line_is rest act after e = (act_takes rest (act, after) e).0
