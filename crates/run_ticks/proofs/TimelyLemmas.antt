-- Timely notes, with more notes.
use Rattle.run_ticks.proofs.Below.{◌≡◌, ◌≤◌, ℕ, suc, List, [], ◌∷◌, ◌++◌, Bool, true, false, cond, ◌&&◌, ◌||◌, nat_eq, refl, sym, ap, ◌∙◌, subst, append-nil, append_assoc, or-true, list_any, Idle, LinkFailed, ConfigValue, NoteValue, or_left, or_right, is_left, is_gone_by, number_of, phase, place_of, place_of_one, early, late, old, new, quiet, Timely, TicksRight, stretch, in_stretch, is_pinged, is_by_tick, is_ticking, ends_stretch, is_ping_due, one_if}
use Rattle.ws_kinds.specs.NoteValue as note
use Rattle.run_meaning.specs.Server as run

-- a note that ends the stretch
stretch_end : (ns : List NoteValue) (n : NoteValue) → ends_stretch n ≡ true → stretch (ns ++ n ∷ []) ≡ stretch ns
stretch_end [] n h = ap (λ b. cond b [] (n ∷ [])) h
stretch_end (m ∷ ns) n h = ap (λ ms. cond (ends_stretch m) [] (m ∷ ms)) (stretch_end ns n h)

-- a note that is not looked for
any_cond : (p : NoteValue → Bool) (m : NoteValue) (xs ys : List NoteValue) (b : Bool) → list_any p xs ≡ list_any p ys → list_any p (cond b [] (m ∷ xs)) ≡ list_any p (cond b [] (m ∷ ys))
any_cond p m xs ys true e = refl
any_cond p m xs ys false e = ap (λ b. p m || b) e

any_alone : (p : NoteValue → Bool) (n : NoteValue) (b : Bool) → p n ≡ false → list_any p (cond b [] (n ∷ [])) ≡ false
any_alone p n true h = refl
any_alone p n false h = ap (λ b. b || false) h

stretch_any : (p : NoteValue → Bool) (ns : List NoteValue) (n : NoteValue) → p n ≡ false → list_any p (stretch (ns ++ n ∷ [])) ≡ list_any p (stretch ns)
stretch_any p [] n h = any_alone p n (ends_stretch n) h
stretch_any p (m ∷ ns) n h = any_cond p m (stretch (ns ++ n ∷ [])) (stretch ns) (ends_stretch m) (stretch_any p ns n h)

count_cond : (p : NoteValue → Bool) (m : NoteValue) (xs ys : List NoteValue) (b : Bool) → number_of p xs ≡ number_of p ys → number_of p (cond b [] (m ∷ xs)) ≡ number_of p (cond b [] (m ∷ ys))
count_cond p m xs ys true e = refl
count_cond p m xs ys false e = ap (λ k. cond (p m) (suc k) k) e

count_alone : (p : NoteValue → Bool) (n : NoteValue) (b : Bool) → p n ≡ false → number_of p (cond b [] (n ∷ [])) ≡ 0
count_alone p n true h = refl
count_alone p n false h = ap (λ b. cond b 1 0) h

stretch_count : (p : NoteValue → Bool) (ns : List NoteValue) (n : NoteValue) → p n ≡ false → number_of p (stretch (ns ++ n ∷ [])) ≡ number_of p (stretch ns)
stretch_count p [] n h = count_alone p n (ends_stretch n) h
stretch_count p (m ∷ ns) n h = count_cond p m (stretch (ns ++ n ∷ [])) (stretch ns) (ends_stretch m) (stretch_count p ns n h)

-- a link that does not fail in more, did not fail before
less_cond : (p : NoteValue → Bool) (m : NoteValue) (xs ys : List NoteValue) (b c : Bool) → (list_any p xs ≡ false → list_any p ys ≡ false) → p m ≡ c → list_any p (cond b [] (m ∷ xs)) ≡ false → list_any p (cond b [] (m ∷ ys)) ≡ false
less_cond p m xs ys true c f e g = refl
less_cond p m xs ys false true f e g = let clash : true ≡ false = ap (λ b. b || list_any p xs) (sym e) ∙ g in cc
less_cond p m xs ys false false f e g = ap (λ b. b || list_any p ys) e ∙ f (ap (λ b. b || list_any p xs) (sym e) ∙ g)

stretch_less : (p : NoteValue → Bool) (ns : List NoteValue) (n : NoteValue) → list_any p (stretch (ns ++ n ∷ [])) ≡ false → list_any p (stretch ns) ≡ false
stretch_less p [] n h = refl
stretch_less p (m ∷ ns) n h = less_cond p m (stretch (ns ++ n ∷ [])) (stretch ns) (ends_stretch m) (p m) (λ g. stretch_less p ns n g) refl h

-- a Tick ends what was open
stretch_tick : (ns ms : List NoteValue) → stretch (ns ++ note.tick ∷ ms) ≡ stretch ns
stretch_tick [] ms = refl
stretch_tick (n ∷ ns) ms = ap (λ zs. cond (ends_stretch n) [] (n ∷ zs)) (stretch_tick ns ms)

calm_cond : (m : NoteValue) (ns : List NoteValue) (b any : Bool) → (b || any) ≡ false → (any ≡ false → stretch ns ≡ ns) → cond b [] (m ∷ stretch ns) ≡ m ∷ ns
calm_cond m ns true any h f = cc
calm_cond m ns false any h f = ap (λ zs. m ∷ zs) (f h)

calm_stretch : (ns : List NoteValue) → list_any ends_stretch ns ≡ false → stretch ns ≡ ns
calm_stretch [] h = refl
calm_stretch (n ∷ ns) h = calm_cond n ns (ends_stretch n) (list_any ends_stretch ns) h (calm_stretch ns)

loud : (ns ms : List NoteValue) → list_any ends_stretch (ns ++ note.tick ∷ ms) ≡ true
loud [] ms = refl
loud (n ∷ ns) ms = ap (λ b. ends_stretch n || b) (loud ns ms) ∙ or-true (ends_stretch n)

calm_front : (ns ms : List NoteValue) → list_any ends_stretch (ns ++ ms) ≡ false → list_any ends_stretch ns ≡ false
calm_front [] ms h = refl
calm_front (n ∷ ns) ms h = both (ends_stretch n) (list_any ends_stretch (ns ++ ms)) (list_any ends_stretch ns) (calm_front ns ms) h
  where
    both : (a b c : Bool) → (b ≡ false → c ≡ false) → (a || b) ≡ false → (a || c) ≡ false
    both true b c f e = cc
    both false b c f e = f e

in_calm : (ns : List NoteValue) → list_any ends_stretch ns ≡ false → in_stretch true ns ≡ true
in_calm [] h = refl
in_calm (note.tick ∷ ns) h = cc
in_calm (n ∷ ns) h = ap (λ b. in_stretch (cond b false true) ns) (or_left (ends_stretch n) (list_any ends_stretch ns) h) ∙ in_calm ns (or_right (ends_stretch n) (list_any ends_stretch ns) h)

in_tick : (ns ms : List NoteValue) (b : Bool) → list_any ends_stretch ms ≡ false → in_stretch b (ns ++ note.tick ∷ ms) ≡ true
in_tick [] ms b h = in_calm ms h
in_tick (note.tick ∷ ns) ms b h = in_tick ns ms true h
in_tick (n ∷ ns) ms b h = in_tick ns ms (cond (ends_stretch n) false b) h

-- a note that tells of no tick is none that one makes
by_tick_ticks : (c : ℕ) (n : NoteValue) → is_ticking n ≡ false → is_by_tick c n ≡ false
by_tick_ticks c (note.pinged d) e = cc
by_tick_ticks c (note.gone d left) e = one (nat_eq d c)
  where
    one : (b : Bool) → (b && is_left Idle left) ≡ false
    one true = e
    one false = refl
by_tick_ticks c _ e = refl

unlike_tick : (n : NoteValue) → is_ticking n ≡ false → n ≡ note.tick → ⊥
unlike_tick n e h = let z : true ≡ false = ap is_ticking (sym h) ∙ e in cc

module _ {S : Type 0} (s : run.Server S) where
  pub timely_none : (f : ConfigValue) → Timely s f []
  timely_none f = record {
    inside = λ before rest n c e h. absurd (nothing n before rest e);
    right = λ before rest c e. absurd (nothing note.tick before rest e);
  }
    where
      nothing : (n : NoteValue) (before rest : List NoteValue) → [] ≡ before ++ n ∷ rest → ⊥
      nothing n [] rest e = cc
      nothing n (m ∷ before) rest e = cc

  -- one note that tells of no tick
  timely_one : (f : ConfigValue) (ns : List NoteValue) (n : NoteValue) → is_ticking n ≡ false → Timely s f ns → Timely s f (ns ++ n ∷ [])
  timely_one f ns n still t = record {
    inside = λ before rest m c e h.
        elim (place_of_one ns before rest n m e) [
          | old more p q ↦ t.inside before more m c p h
          | new p y q ↦ let clash : true ≡ false = sym h ∙ ap (is_by_tick c) y ∙ by_tick_ticks c n still in cc
        ];
    right = λ before rest c e.
        elim (place_of_one ns before rest n note.tick e) [
          | old more p q ↦
              let g = t.right before more c p in
              let ping : is_pinged c n ≡ false = or_left (is_pinged c n) (is_gone_by c Idle n) (by_tick_ticks c n still) in
              let end : is_gone_by c Idle n ≡ false = or_right (is_pinged c n) (is_gone_by c Idle n) (by_tick_ticks c n still) in
              record {
                pinged = subst (λ k. k ≤ one_if (is_ping_due f (phase s before c) (quiet s before c))) (sym (ap (λ ms. number_of (is_pinged c) (stretch ms)) q ∙ stretch_count (is_pinged c) more n ping)) g.pinged;
                pings = λ away lost. ap (λ ms. number_of (is_pinged c) (stretch ms)) q ∙ stretch_count (is_pinged c) more n ping ∙ g.pings away (stretch_less (is_gone_by c LinkFailed) more n (sym (ap (λ ms. list_any (is_gone_by c LinkFailed) (stretch ms)) q) ∙ lost));
                ends = λ away lost. ap (λ ms. list_any (is_gone_by c Idle) (stretch ms)) q ∙ stretch_any (is_gone_by c Idle) more n end ∙ g.ends away (stretch_less (is_gone_by c LinkFailed) more n (sym (ap (λ ms. list_any (is_gone_by c LinkFailed) (stretch ms)) q) ∙ lost));
              }
          | new p y q ↦ absurd (unlike_tick n still (sym y))
        ];
  }

  pub timely_other : (f : ConfigValue) (ns ms : List NoteValue) → list_any is_ticking ms ≡ false → Timely s f ns → Timely s f (ns ++ ms)
  timely_other f ns [] e t = subst (Timely s f) (sym (append-nil ns)) t
  timely_other f ns (m ∷ ms) e t =
      subst (Timely s f) (append_assoc ns (m ∷ []) ms)
      (timely_other f (ns ++ m ∷ []) ms (or_right (is_ticking m) (list_any is_ticking ms) e) (timely_one f ns m (or_left (is_ticking m) (list_any is_ticking ms) e) t))

  -- a tick with all that follows from it
  pub timely_tick : (f : ConfigValue) (ns ms : List NoteValue) → list_any ends_stretch ms ≡ false
      → ((c : ℕ) → TicksRight f c (phase s ns c) (quiet s ns c) ms) → Timely s f ns → Timely s f (ns ++ note.tick ∷ ms)
  timely_tick f ns ms calm right t = record {
    inside = λ before rest m c e h.
        elim (place_of ns (note.tick ∷ ms) before rest m e) [
          | early more p q ↦ t.inside before more m c p h
          | late [] p q ↦ let y : note.tick ≡ m = cc in let clash : true ≡ false = sym h ∙ ap (is_by_tick c) (sym y) in cc
          | late (x ∷ more) p q ↦
              let y : note.tick ≡ x = cc in
              let z : ms ≡ more ++ m ∷ rest = cc in
              ap (in_stretch false) (p ∙ ap (λ u. ns ++ u ∷ more) (sym y)) ∙ in_tick ns more false (calm_front more (m ∷ rest) (sym (ap (list_any ends_stretch) z) ∙ calm))
        ];
    right = λ before rest c e.
        elim (place_of ns (note.tick ∷ ms) before rest note.tick e) [
          | early more p q ↦ let g = t.right before more c p in subst (λ zs. TicksRight f c (phase s before c) (quiet s before c) zs) (sym (ap stretch q ∙ stretch_tick more ms)) g
          | late [] p q ↦ let z : ms ≡ rest = cc in
              subst (λ zs. TicksRight f c (phase s zs c) (quiet s zs c) (stretch rest)) (sym (p ∙ append-nil ns)) (subst (λ zs. TicksRight f c (phase s ns c) (quiet s ns c) zs) (sym (calm_stretch ms calm) ∙ ap stretch z) (right c))
          | late (x ∷ more) p q ↦ let z : ms ≡ more ++ note.tick ∷ rest = cc in let clash : false ≡ true = sym calm ∙ ap (list_any ends_stretch) z ∙ loud more rest in cc
        ];
  }
