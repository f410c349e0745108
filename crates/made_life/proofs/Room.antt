-- Nobody is closed by a handler that closes on one route alone, where all connections are opened on others.
use Rattle.std.proofs.Common.{◌≡◌, ℕ, ◌+◌, Bool, true, false, cond, not, nat_eq, List, [], ◌∷◌, None, refl, sym, subst}
use Rattle.std.specs.List.{list_all}
use Rattle.ws_kinds.proofs.Facts.{and_left, and_right, clash}
use Rattle.ws_kinds.specs.EventValue as event
use Rattle.ws_kinds.specs.EventValue.{EventValue}
use Rattle.ws_kinds.specs.NoteValue as note
use Rattle.ws_kinds.specs.NoteValue.{NoteValue}
use Rattle.ws_kinds.specs.OrderValue.{OrderValue, send, subscribe, unsubscribe, publish, close}
use Rattle.run_meaning.specs.Life.{last_frame}
use Rattle.run_meaning.specs.Lines.{Line, World, event_of, first_world, is_refused, line_after, after_own, noted, obey, obeyed, orders_of, perform, route_after, run, step}
use Rattle.run_meaning.specs.Notes.{is_of, window}
use Rattle.run_meaning.specs.Server.{Server}
use Rattle.run_meaning.proofs.StepLemmas as steps
use Rattle.run_laws.proofs.WorldLemmas.{obeys_by}
use Rattle.run_meaning.proofs.Underway.{perform-line}

abbrev pub is_no_close : OrderValue → Bool
is_no_close (send to kind body) = true
is_no_close (subscribe topic) = true
is_no_close (unsubscribe topic) = true
is_no_close (publish topic kind body) = true
is_no_close (close code reason) = false

-- the note opens no connection on this route
abbrev pub opens_elsewhere : ℕ → NoteValue → Bool
opens_elsewhere route (note.opened conn other param) = not (nat_eq other route)
opens_elsewhere route _ = true

module _ {S : Type 0} (r : Server S) (route : ℕ) (gently : (state : S) (e : EventValue) → nat_eq e.route route ≡ false → list_all is_no_close (r.said state e) ≡ true) where
  -- no Close was served for it, and it has another route
  record Fits (l : Line) : Type 0 where
    pub unclosed : l.last_frame ≡ None
    pub elsewhere : nat_eq l.route route ≡ false

  act_fits : (o : OrderValue) (l : Line) → is_no_close o ≡ true → Fits l → Fits (steps.act o l)
  act_fits (send to kind body) l gentle f = record { unclosed = f.unclosed; elsewhere = f.elsewhere }
  act_fits (subscribe topic) l gentle f = record { unclosed = f.unclosed; elsewhere = f.elsewhere }
  act_fits (unsubscribe topic) l gentle f = record { unclosed = f.unclosed; elsewhere = f.elsewhere }
  act_fits (publish topic kind body) l gentle f = record { unclosed = f.unclosed; elsewhere = f.elsewhere }
  act_fits (close code reason) l gentle f = clash false refl gentle

  obeyed_fits : (u : ℕ → Bool) (from c i : ℕ) (os : List OrderValue) (l : Line) → list_all is_no_close os ≡ true → Fits l → Fits (obeyed u from c i os l)
  obeyed_fits u from c i [] l gentle f = f
  obeyed_fits u from c i (o ∷ os) l gentle f =
      obeyed_fits u from c (i + 1) os (cond (u i) l (obey from c o l)) (and_right (is_no_close o) (list_all is_no_close os) gentle) (one (u i))
    where
      one : (b : Bool) → Fits (cond b l (obey from c o l))
      one true = f
      one false = obeys_by Fits from c o l (act_fits o l (and_left (is_no_close o) (list_all is_no_close os) gentle) f) f

  own_route : (n : NoteValue) (old : ℕ) → opens_elsewhere route n ≡ true → nat_eq old route ≡ false → nat_eq (route_after n old) route ≡ false
  own_route (note.opened c other param) old opens away = by_not (nat_eq other route) opens
    where
      by_not : (b : Bool) → not b ≡ true → b ≡ false
      by_not true e = clash false refl e
      by_not false e = refl
  own_route _ old opens away = away

  line_fits : (c : ℕ) (n : NoteValue) (l : Line) → opens_elsewhere route n ≡ true → Fits l → Fits (line_after r c n l)
  line_fits c n l opens f = one (is_of c n)
    where
      one : (b : Bool) → Fits (cond b (after_own r n l) l)
      one true = record { unclosed = f.unclosed; elsewhere = own_route n l.route opens f.elsewhere }
      one false = f

  answered_fits : (u : ℕ → Bool) (c : ℕ) (what : event.WhatValue) (w : World S) → ((d : ℕ) → Fits (w.line d)) → (d : ℕ)
      → Fits ((Rattle.run_meaning.specs.Lines.answered r u (event_of c what w) w).line d)
  answered_fits u c what w all d =
      let e = event_of c what w in
      subst (λ (z : Line). Fits z) (sym (perform-line u c d 0 (orders_of r e w) (record w { state = r.after w.state e })))
      (obeyed_fits u c d 0 (orders_of r e w) (w.line d) (gently (r.after w.state e) e (all c).elsewhere) (all d))

  step_fits : (u : ℕ → ℕ → Bool) (n : NoteValue) (w : World S) → opens_elsewhere route n ≡ true → ((d : ℕ) → Fits (w.line d)) → (d : ℕ) → Fits ((step r u n w).line d)
  step_fits u (note.opened c other param) w opens all d = let n = note.opened c other param in answered_fits (u c) c event.opened (noted r n w) (λ k. line_fits k n (w.line k) opens (all k)) d
  step_fits u (note.message c kind body) w opens all d = let n = note.message c kind body in answered_fits (u c) c (event.message kind body) (noted r n w) (λ k. line_fits k n (w.line k) opens (all k)) d
  step_fits u (note.told c dropped drained) w opens all d = let n = note.told c dropped drained in answered_fits (u c) c (event.told dropped drained) (noted r n w) (λ k. line_fits k n (w.line k) opens (all k)) d
  step_fits u (note.closed c code reason) w opens all d = let n = note.closed c code reason in answered_fits (u c) c (event.closed code reason) (noted r n w) (λ k. line_fits k n (w.line k) opens (all k)) d
  step_fits u n w opens all d = line_fits d n (w.line d) opens (all d)

  run_fits : (ns : List NoteValue) (w : World S) → list_all (opens_elsewhere route) ns ≡ true → ((d : ℕ) → Fits (w.line d)) → (d : ℕ) → Fits ((run r w ns).line d)
  run_fits [] w opens all d = all d
  run_fits (n ∷ ns) w opens all d =
      let u = is_refused (window ns) in
      run_fits ns (step r u n w) (and_right (opens_elsewhere route n) (list_all (opens_elsewhere route) ns) opens) (step_fits u n w (and_left (opens_elsewhere route n) (list_all (opens_elsewhere route) ns) opens) all) d

  -- no Close was served for any connection
  pub never_closed : (ns : List NoteValue) (c : ℕ) → nat_eq 0 route ≡ false → list_all (opens_elsewhere route) ns ≡ true → last_frame r ns c ≡ None
  never_closed ns c other opens = (run_fits ns (first_world r) opens (λ d. record { unclosed = refl; elsewhere = other }) c).unclosed
