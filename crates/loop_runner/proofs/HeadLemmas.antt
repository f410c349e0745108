-- What becomes of a connection whose request is admitted or refused, and of one whose frames are read.
use Rattle.loop_runner.proofs.Below.{◌≡◌, inl, inr, ℕ, List, [], ◌∷◌, ◌++◌, Option, Some, None, Bool, true, false, cond, ◌||◌, refl, sym, ap, ◌∙◌, subst, list_any, Left, Phase, Head, Open, Leaving, Ending, Gone, NoteValue, Item, Reader, has_ended, HasStepped, is_last, IsMore, moved, is_of, is_acceptance, unless_gone, is_reading, Server, phase_at, Progress, progress_at, progress_by, progress_after, has_frames, Advances, by_cases, clash, of_here, of_other, present_is_not_gone, unaccepted, Sends, IsDrained, IsTaken, Every, But, StaysOrLeaves, Steps, HasFrames, reading_at}
use Rattle.ws_kinds.specs.NoteValue as note
use Rattle.frame_reader.specs.declared.step.Step.{Step}
use Rattle.frame_reader.specs.declared.step.Step.TheVariants as step
use Rattle.loop_runner.proofs.ProgressLemmas.{Calm, calm_notes, stays_notes, stays_or_leaves, phase_read, read_present}
use Rattle.loop_runner.proofs.StepLemmas.{accepts_none, begin_none, call_begins, steps_first, steps_then, steps_but}

-- ---- a reader, in the phase of its connection

pub frames_of : (p : Option Phase) (r : Reader) → (is_reading p ≡ true → has_frames p ≡ true) → (is_reading p ≡ true → has_ended r ≡ false) → HasFrames p r
frames_of None r f e = tt {0}
frames_of (Some Head) r f e = clash false refl (f refl)
frames_of (Some Open) r f e = e refl
frames_of (Some Leaving) r f e = e refl
frames_of (Some Ending) r f e = tt {0}
frames_of (Some Gone) r f e = tt {0}

taken_of : (p : Option Phase) (r : Reader) → (is_reading p ≡ true → has_frames p ≡ true) → IsDrained r → IsTaken p r
taken_of None r f d = tt {0}
taken_of (Some Head) r f d = clash false refl (f refl)
taken_of (Some Open) r f d = d
taken_of (Some Leaving) r f d = d
taken_of (Some Ending) r f d = tt {0}
taken_of (Some Gone) r f d = tt {0}

frames_from : (from to : Option Phase) → has_frames from ≡ true → StaysOrLeaves from to → has_frames to ≡ true
frames_from from to f (inl same) = ap has_frames same ∙ f
frames_from from to f (inr left) = ap has_frames left.1

more_not_last : (s : Step) → IsMore s → is_last s ≡ false
more_not_last step.More m = refl
more_not_last (step.Message kind octets) m = absurd m
more_not_last (step.Ping payload) m = absurd m
more_not_last (step.Pong payload) m = absurd m
more_not_last (step.Close code reason) m = absurd m
more_not_last (step.Failed code) m = absurd m

goes_on : (r r' : Reader) (s : Step) → HasStepped r s r' → has_ended r ≡ false → is_last s ≡ false → has_ended r' ≡ false
goes_on r r' s x goes more = x.ended ∙ ap (λ (z : Bool). z || is_last s) goes ∙ more

-- a step was told of a connection in a phase in which frames are read
pub frames_after : (from to : Option Phase) (s : Step) (r r' : Reader) → HasStepped r s r' → has_ended r ≡ false → has_frames from ≡ true → (is_reading to ≡ true → StaysOrLeaves from to) → (is_last s ≡ true → is_reading to ≡ false)
    → HasFrames to r'
frames_after from to s r r' x goes f same last = frames_of to r' (λ reads. frames_from from to f (same reads))
    (λ reads. by_cases (is_last s) (λ l. clash (is_reading to) (last l) reads) (goes_on r r' s x goes))

-- nothing was told, and all that came was taken
pub taken_after : (from to : Option Phase) (s : Step) (r r' : Reader) → HasStepped r s r' → has_ended r ≡ false → has_frames from ≡ true → (is_reading to ≡ true → StaysOrLeaves from to) → IsMore s → IsTaken to r'
taken_after from to s r r' x goes f same m = taken_of to r' (λ reads. frames_from from to f (same reads)) (goes_on r r' s x goes (more_not_last s m), x.all_told m, x.few m goes)

-- ---- a connection is gone

gone_reads : (p : Option Phase) (c : ℕ) (cause : Left) → is_reading (unless_gone (moved p (note.gone c cause))) ≡ false
gone_reads None c cause = refl
gone_reads (Some Head) c cause = refl
gone_reads (Some Open) c cause = refl
gone_reads (Some Leaving) c cause = refl
gone_reads (Some Ending) c cause = refl
gone_reads (Some Gone) c cause = refl

phase_own : (c : ℕ) (n : NoteValue) (p : Progress) → is_of c n ≡ true → (progress_after c n p).phase ≡ unless_gone (moved p.phase n)
phase_own c n p own = ap (λ (z : Bool). phase_of (cond z (progress_by n p) p)) own
  where
    phase_of : Progress → Option Phase
    phase_of q = q.phase

-- its octets are read no more
pub gone_now : (c : ℕ) (cause : Left) (a b : Server) → Advances (note.gone c cause ∷ []) a b → is_reading (phase_at b.hub c) ≡ false
gone_now c cause a b x =
    reading_at b.hub c ∙ ap (λ (z : Progress). is_reading z.phase) (x.progress c) ∙ ap is_reading (phase_own c (note.gone c cause) (progress_at a.hub c) (of_here c)) ∙ gone_reads (progress_at a.hub c).phase c cause

-- ---- a connection is open

module _ (c : ℕ) (n : NoteValue) (f : ℕ → List Item) (a b : Server) (x : Sends c (n ∷ []) f a b) (own : is_of c n ≡ true) (phase : Phase) (at : phase_at a.hub c ≡ Some phase) (reads : is_reading (Some phase) ≡ true) where
  abbrev then : Progress
  then = progress_after c n (progress_at a.hub c)

  moved_now : then.phase ≡ unless_gone (moved (Some phase) n)
  moved_now = phase_own c n (progress_at a.hub c) own ∙ ap (λ (z : Option Phase). unless_gone (moved z n)) (sym (phase_read a.hub c (ap is_reading at ∙ reads)) ∙ at)

  -- a call that ends the reading
  pub ends_reading : is_reading (unless_gone (moved (Some phase) n)) ≡ false → is_reading (phase_at b.hub c) ≡ false
  ends_reading ends = by_cases (is_reading (phase_at b.hub c))
      (λ r. clash (is_reading then.phase) (ap is_reading moved_now ∙ ends)
      ((stays_notes c (x.proceeds.sending ++ []) then (accepts_none (x.proceeds.sending ++ []) (call_begins (n ∷ []) [] a b x.proceeds refl))).reading
      (ap (λ (z : Progress). is_reading z.phase) (sym (x.proceeds.advances.progress c)) ∙ sym (reading_at b.hub c) ∙ r)))
      (λ away. away)

  -- one that leaves the connection in this phase, unless it is gone
  pub goes_to : (to : Option Phase) → unless_gone (moved (Some phase) n) ≡ to → is_reading (phase_at b.hub c) ≡ true → StaysOrLeaves to (phase_at b.hub c)
  goes_to to is r =
      let moves : Calm then (progress_at b.hub c) = subst (Calm then) (sym (x.proceeds.advances.progress c))
      (calm_notes c (x.proceeds.sending ++ []) then (begin_none c (x.proceeds.sending ++ []) (call_begins (n ∷ []) [] a b x.proceeds refl))) in
      subst (λ (z : Option Phase). StaysOrLeaves z (phase_at b.hub c)) (moved_now ∙ is)
      (subst (λ (z : Option Phase). StaysOrLeaves then.phase z) (sym (phase_read b.hub c r)) (moves.phase (sym (reading_at b.hub c) ∙ r)))

module _ (c route : ℕ) (param : List ℕ) (f : ℕ → List Item) (a b d : Server) (x : Sends c (note.opened c route param ∷ []) f a b) (rest : Steps Every b d) where
  pub steps_opened : Steps (But c) a d
  steps_opened = steps_then (But c) a b d (steps_first (But c) c (note.opened c route param) f a b x (λ e ne. of_other c e ne) refl) (steps_but c b d rest)

  pub opened_phase : phase_at a.hub c ≡ Some Head → is_reading (phase_at d.hub c) ≡ true → has_frames (phase_at d.hub c) ≡ true
  opened_phase at r = frames_from (Some Open) (phase_at d.hub c) refl
      (stays_or_leaves (Some Open) (phase_at b.hub c) (phase_at d.hub c) (goes_to c (note.opened c route param) f a b x (of_here c) Head at refl (Some Open) refl) (rest.phase c (tt {0})) r)

  pub opened_due : is_reading (phase_at d.hub c) ≡ true → d.net.due c ≡ a.net.due c
  opened_due r =
      let ns = note.opened c route param ∷ (x.proceeds.sending ++ []) in
      let later : list_any is_acceptance ns ≡ false = accepts_none (x.proceeds.sending ++ []) (call_begins (note.opened c route param ∷ []) [] a b x.proceeds refl) in
      rest.due c (tt {0}) r
      ∙ x.proceeds.advances.net.due c (present_is_not_gone ns c a b x.proceeds.advances (unaccepted ns c later) (read_present b.hub c (rest.reading c r)))
