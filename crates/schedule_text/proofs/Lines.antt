-- Lines at the front of octets: what is read is written so, and what is written so is read.
use Rattle.schedule_text.proofs.Below.{◌≡◌, ℕ, ◌<◌, ◌≤◌, ◌&&◌, Bool, true, false, cond, eqb, leb, List, [], ◌∷◌, ◌++◌, Option, Some, None, length, decimal, refl, sym, ap, subst, ◌∙◌, append_assoc, arith, AllByRecursion, leb-true, le-leb, eqb-true, and_parts, nat_tests, IfSome, ◌^◌, Conn, Act, hex, spelled, HasLine, IsNumber, ◌>>=◌, octet_at, number_at, conn_at, credit_at, positive_at, room_at, sent_at, pairs_at, named_at, arrival_at, octets_at, alone_at, with_conn, act_at}
use Rattle.link_trait.specs.declared.act.Act.TheVariants as act
use Rattle.schedule_text.proofs.Numbers.{bind_some, chosen_some, chosen_other, some_is, octet_takes, number_takes, number_again, number_starts, ends_number, starts_number}
use Rattle.schedule_text.proofs.Hex.{pairs_take, pairs_again}

-- ---- the texts of lines, and what follows them

-- the credit of an arrival
credit_text : Option ℕ → List ℕ
credit_text None = 42 ∷ []
credit_text (Some octets) = decimal octets

-- two numbers behind a letter
numbers_text : (letter first second : ℕ) (rest : List ℕ) → (letter ∷ 32 ∷ (decimal first ++ (32 ∷ (decimal second ++ (10 ∷ []))))) ++ rest ≡ letter ∷ 32 ∷ (decimal first ++ (32 ∷ (decimal second ++ (10 ∷ rest))))
numbers_text letter first second rest =
    ap (λ (v : List ℕ). letter ∷ 32 ∷ v) (append_assoc (decimal first) (32 ∷ (decimal second ++ (10 ∷ []))) rest ∙ ap (λ (v : List ℕ). decimal first ++ (32 ∷ v)) (append_assoc (decimal second) (10 ∷ []) rest))

arrival_text : (conn : Conn) (credit : Option ℕ) (rest : List ℕ) → spelled (act.Arrive conn credit) ++ rest ≡ 97 ∷ 32 ∷ (decimal conn.0 ++ (32 ∷ (credit_text credit ++ (10 ∷ rest))))
unfolding credit_text
arrival_text conn None rest = ap (λ (v : List ℕ). 97 ∷ 32 ∷ v) (append_assoc (decimal conn.0) (32 ∷ 42 ∷ 10 ∷ []) rest)
arrival_text conn (Some octets) rest = numbers_text 97 conn.0 octets rest

octets_text : (conn : Conn) (octets rest : List ℕ) → spelled (act.Octets conn octets) ++ rest ≡ 114 ∷ 32 ∷ (decimal conn.0 ++ (32 ∷ (hex octets ++ (10 ∷ rest))))
octets_text conn octets rest = ap (λ (v : List ℕ). 114 ∷ 32 ∷ v) (append_assoc (decimal conn.0) (32 ∷ (hex octets ++ (10 ∷ []))) rest ∙ ap (λ (v : List ℕ). decimal conn.0 ++ (32 ∷ v)) (append_assoc (hex octets) (10 ∷ []) rest))

named_text : (letter : ℕ) (conn : Conn) (rest : List ℕ) → (letter ∷ 32 ∷ (decimal conn.0 ++ 10 ∷ [])) ++ rest ≡ letter ∷ 32 ∷ (decimal conn.0 ++ (10 ∷ rest))
named_text letter conn rest = ap (λ (v : List ℕ). letter ∷ 32 ∷ v) (append_assoc (decimal conn.0) (10 ∷ []) rest)

-- ---- what is read is written so

not_zero : (n : ℕ) → eqb n 0 ≡ false → 1 ≤ n
not_zero n h = grind (arith, nat_tests)

positive_takes : (octets : List ℕ) (x : ℕ × List ℕ) → positive_at octets ≡ Some x → (octets ≡ 32 ∷ (decimal x.0 ++ x.1)) × IsNumber x.0
unfolding positive_at
positive_takes octets x e =
    let a = bind_some (octet_at 32 octets) (λ space. number_at space.1 >>= λ number. cond (eqb number.0 0) None (Some (number.0, number.1))) x e in
    let b = bind_some (number_at a.0.1) (λ number. cond (eqb number.0 0) None (Some (number.0, number.1))) x a.2 in
    let number = number_takes a.0.1 b.0 b.1 in
    let is = chosen_other (eqb b.0.0 0) (b.0.0, b.0.1) x b.2 in
    subst (λ (y : ℕ × List ℕ). (octets ≡ 32 ∷ (decimal y.0 ++ y.1)) × IsNumber y.0) is.1
    (octet_takes 32 octets a.0 a.1 ∙ ap (λ (v : List ℕ). 32 ∷ v) number.0, (not_zero b.0.0 is.0, number.1))

conn_takes : (octets : List ℕ) (x : Conn × List ℕ) → conn_at octets ≡ Some x → (octets ≡ 32 ∷ (decimal x.0.0 ++ x.1)) × IsNumber x.0.0
unfolding conn_at
conn_takes octets x e =
    let a = bind_some (positive_at octets) (λ number. Some (record { 0 = number.0 }, number.1)) x e in
    subst (λ (y : Conn × List ℕ). (octets ≡ 32 ∷ (decimal y.0.0 ++ y.1)) × IsNumber y.0.0) (some_is (record { 0 = a.0.0 }, a.0.1) x a.2) (positive_takes octets a.0 a.1)

credit_takes : (octets : List ℕ) (x : Option ℕ × List ℕ) → credit_at octets ≡ Some x → (octets ≡ credit_text x.0 ++ x.1) × IfSome x.0 (λ credit. credit < 2 ^ 32)
unfolding credit_at credit_text
credit_takes [] x e = absurd cc
credit_takes (first ∷ rest) x e = go (eqb first 42) refl e
  where
    go : (b : Bool) → eqb first 42 ≡ b → cond b (Some (None, rest)) (number_at (first ∷ rest) >>= λ number. Some (Some number.0, number.1)) ≡ Some x → (first ∷ rest ≡ credit_text x.0 ++ x.1) × IfSome x.0 (λ credit. credit < 2 ^ 32)
    go true is e = subst (λ (y : Option ℕ × List ℕ). (first ∷ rest ≡ credit_text y.0 ++ y.1) × IfSome y.0 (λ credit. credit < 2 ^ 32)) (some_is (None, rest) x e) (ap (λ (n : ℕ). n ∷ rest) (eqb-true first 42 is), tt)
    go false is e =
        let a = bind_some (number_at (first ∷ rest)) (λ number. Some (Some number.0, number.1)) x e in
        subst (λ (y : Option ℕ × List ℕ). (first ∷ rest ≡ credit_text y.0 ++ y.1) × IfSome y.0 (λ credit. credit < 2 ^ 32)) (some_is (Some a.0.0, a.0.1) x a.2) (number_takes (first ∷ rest) a.0 a.1)

named_takes : (octets : List ℕ) (x : Conn × List ℕ) → named_at octets ≡ Some x → (octets ≡ 32 ∷ (decimal x.0.0 ++ (10 ∷ x.1))) × IsNumber x.0.0
unfolding named_at
named_takes octets x e =
    let a = bind_some (conn_at octets) (λ conn. octet_at 10 conn.1 >>= λ end. Some (conn.0, end.1)) x e in
    let b = bind_some (octet_at 10 a.0.1) (λ end. Some (a.0.0, end.1)) x a.2 in
    let conn = conn_takes octets a.0 a.1 in
    subst (λ (y : Conn × List ℕ). (octets ≡ 32 ∷ (decimal y.0.0 ++ (10 ∷ y.1))) × IsNumber y.0.0) (some_is (a.0.0, b.0.1) x b.2)
    (conn.0 ∙ ap (λ (v : List ℕ). 32 ∷ (decimal a.0.0.0 ++ v)) (octet_takes 10 a.0.1 b.0 b.1), conn.1)

record IsSent (octets : List ℕ) (x : List ℕ × List ℕ) : Type 0 where
  text : octets ≡ hex x.0 ++ x.1
  some : 1 ≤ length x.0
  most : length x.0 ≤ 8192
  below : AllByRecursion (λ octet. octet < 256) x.0

sent_takes : (octets : List ℕ) (x : List ℕ × List ℕ) → sent_at octets ≡ Some x → IsSent octets x
unfolding sent_at
sent_takes octets x e =
    let a = chosen_some (leb 1 (length (pairs_at octets).0) && leb (length (pairs_at octets).0) 8192) (pairs_at octets) x e in
    let b = and_parts (leb 1 (length (pairs_at octets).0)) (leb (length (pairs_at octets).0) 8192) a.0 in
    let pairs = pairs_take octets in
    subst (λ (y : List ℕ × List ℕ). IsSent octets y) a.1 (record { text = pairs.text; some = leb-true _ _ b.0; most = leb-true _ _ b.1; below = pairs.below })

-- octets begin with the line of an act
abbrev pub BeginsWith : List ℕ → Act × List ℕ → Type 0
BeginsWith octets x = HasLine x.0 × (octets ≡ spelled x.0 ++ x.1)

arrival_takes : (octets : List ℕ) (x : Act × List ℕ) → arrival_at octets ≡ Some x → BeginsWith (97 ∷ octets) x
unfolding arrival_at
arrival_takes octets x e =
    let a = bind_some (conn_at octets) (λ conn. octet_at 32 conn.1 >>= λ space. credit_at space.1 >>= λ credit. octet_at 10 credit.1 >>= λ end. Some (act.Arrive conn.0 credit.0, end.1)) x e in
    let b = bind_some (octet_at 32 a.0.1) (λ space. credit_at space.1 >>= λ credit. octet_at 10 credit.1 >>= λ end. Some (act.Arrive a.0.0 credit.0, end.1)) x a.2 in
    let c = bind_some (credit_at b.0.1) (λ credit. octet_at 10 credit.1 >>= λ end. Some (act.Arrive a.0.0 credit.0, end.1)) x b.2 in
    let d = bind_some (octet_at 10 c.0.1) (λ end. Some (act.Arrive a.0.0 c.0.0, end.1)) x c.2 in
    let conn = conn_takes octets a.0 a.1 in
    let credit = credit_takes b.0.1 c.0 c.1 in
    let tail : a.0.1 ≡ 32 ∷ (credit_text c.0.0 ++ (10 ∷ d.0.1)) = octet_takes 32 a.0.1 b.0 b.1 ∙ ap (λ (v : List ℕ). 32 ∷ v) credit.0 ∙ ap (λ (v : List ℕ). 32 ∷ (credit_text c.0.0 ++ v)) (octet_takes 10 c.0.1 d.0 d.1) in
    subst (λ (y : Act × List ℕ). BeginsWith (97 ∷ octets) y) (some_is (act.Arrive a.0.0 c.0.0, d.0.1) x d.2)
    ((conn.1, credit.1), ap (λ (v : List ℕ). 97 ∷ v) conn.0 ∙ ap (λ (v : List ℕ). 97 ∷ 32 ∷ (decimal a.0.0.0 ++ v)) tail ∙ sym (arrival_text a.0.0 c.0.0 d.0.1))

room_takes : (octets : List ℕ) (x : Act × List ℕ) → room_at octets ≡ Some x → BeginsWith (119 ∷ octets) x
unfolding room_at
room_takes octets x e =
    let a = bind_some (conn_at octets) (λ conn. positive_at conn.1 >>= λ more. octet_at 10 more.1 >>= λ end. Some (act.Room conn.0 more.0, end.1)) x e in
    let b = bind_some (positive_at a.0.1) (λ more. octet_at 10 more.1 >>= λ end. Some (act.Room a.0.0 more.0, end.1)) x a.2 in
    let c = bind_some (octet_at 10 b.0.1) (λ end. Some (act.Room a.0.0 b.0.0, end.1)) x b.2 in
    let conn = conn_takes octets a.0 a.1 in
    let more = positive_takes a.0.1 b.0 b.1 in
    let tail : a.0.1 ≡ 32 ∷ (decimal b.0.0 ++ (10 ∷ c.0.1)) = more.0 ∙ ap (λ (v : List ℕ). 32 ∷ (decimal b.0.0 ++ v)) (octet_takes 10 b.0.1 c.0 c.1) in
    subst (λ (y : Act × List ℕ). BeginsWith (119 ∷ octets) y) (some_is (act.Room a.0.0 b.0.0, c.0.1) x c.2)
    ((conn.1, more.1.0, more.1.1), ap (λ (v : List ℕ). 119 ∷ v) conn.0 ∙ ap (λ (v : List ℕ). 119 ∷ 32 ∷ (decimal a.0.0.0 ++ v)) tail ∙ sym (numbers_text 119 a.0.0.0 b.0.0 c.0.1))

octets_take : (octets : List ℕ) (x : Act × List ℕ) → octets_at octets ≡ Some x → BeginsWith (114 ∷ octets) x
unfolding octets_at
octets_take octets x e =
    let a = bind_some (conn_at octets) (λ conn. octet_at 32 conn.1 >>= λ space. sent_at space.1 >>= λ sent. octet_at 10 sent.1 >>= λ end. Some (act.Octets conn.0 sent.0, end.1)) x e in
    let b = bind_some (octet_at 32 a.0.1) (λ space. sent_at space.1 >>= λ sent. octet_at 10 sent.1 >>= λ end. Some (act.Octets a.0.0 sent.0, end.1)) x a.2 in
    let c = bind_some (sent_at b.0.1) (λ sent. octet_at 10 sent.1 >>= λ end. Some (act.Octets a.0.0 sent.0, end.1)) x b.2 in
    let d = bind_some (octet_at 10 c.0.1) (λ end. Some (act.Octets a.0.0 c.0.0, end.1)) x c.2 in
    let conn = conn_takes octets a.0 a.1 in
    let sent = sent_takes b.0.1 c.0 c.1 in
    let tail : a.0.1 ≡ 32 ∷ (hex c.0.0 ++ (10 ∷ d.0.1)) = octet_takes 32 a.0.1 b.0 b.1 ∙ ap (λ (v : List ℕ). 32 ∷ v) sent.text ∙ ap (λ (v : List ℕ). 32 ∷ (hex c.0.0 ++ v)) (octet_takes 10 c.0.1 d.0 d.1) in
    subst (λ (y : Act × List ℕ). BeginsWith (114 ∷ octets) y) (some_is (act.Octets a.0.0 c.0.0, d.0.1) x d.2)
    ((conn.1, sent.some, sent.most, sent.below), ap (λ (v : List ℕ). 114 ∷ v) conn.0 ∙ ap (λ (v : List ℕ). 114 ∷ 32 ∷ (decimal a.0.0.0 ++ v)) tail ∙ sym (octets_text a.0.0 c.0.0 d.0.1))

end_takes : (octets : List ℕ) (x : Act × List ℕ) → with_conn act.End octets ≡ Some x → BeginsWith (101 ∷ octets) x
end_takes octets x e =
    let a = bind_some (named_at octets) (λ conn. Some (act.End conn.0, conn.1)) x e in
    let conn = named_takes octets a.0 a.1 in
    subst (λ (y : Act × List ℕ). BeginsWith (101 ∷ octets) y) (some_is (act.End a.0.0, a.0.1) x a.2)
    (conn.1, ap (λ (v : List ℕ). 101 ∷ v) conn.0 ∙ sym (named_text 101 a.0.0 a.0.1))

fault_takes : (octets : List ℕ) (x : Act × List ℕ) → with_conn act.ReadFails octets ≡ Some x → BeginsWith (102 ∷ octets) x
fault_takes octets x e =
    let a = bind_some (named_at octets) (λ conn. Some (act.ReadFails conn.0, conn.1)) x e in
    let conn = named_takes octets a.0 a.1 in
    subst (λ (y : Act × List ℕ). BeginsWith (102 ∷ octets) y) (some_is (act.ReadFails a.0.0, a.0.1) x a.2)
    (conn.1, ap (λ (v : List ℕ). 102 ∷ v) conn.0 ∙ sym (named_text 102 a.0.0 a.0.1))

failure_takes : (octets : List ℕ) (x : Act × List ℕ) → with_conn act.WriteFails octets ≡ Some x → BeginsWith (98 ∷ octets) x
failure_takes octets x e =
    let a = bind_some (named_at octets) (λ conn. Some (act.WriteFails conn.0, conn.1)) x e in
    let conn = named_takes octets a.0 a.1 in
    subst (λ (y : Act × List ℕ). BeginsWith (98 ∷ octets) y) (some_is (act.WriteFails a.0.0, a.0.1) x a.2)
    (conn.1, ap (λ (v : List ℕ). 98 ∷ v) conn.0 ∙ sym (named_text 98 a.0.0 a.0.1))

tick_takes : (octets : List ℕ) (x : Act × List ℕ) → alone_at act.Tick octets ≡ Some x → BeginsWith (116 ∷ octets) x
tick_takes octets x e =
    let a = bind_some (octet_at 10 octets) (λ end. Some (act.Tick, end.1)) x e in
    subst (λ (y : Act × List ℕ). BeginsWith (116 ∷ octets) y) (some_is (act.Tick, a.0.1) x a.2)
    (tt, ap (λ (v : List ℕ). 116 ∷ v) (octet_takes 10 octets a.0 a.1))

turn_takes : (octets : List ℕ) (x : Act × List ℕ) → alone_at act.Turn octets ≡ Some x → BeginsWith (46 ∷ octets) x
turn_takes octets x e =
    let a = bind_some (octet_at 10 octets) (λ end. Some (act.Turn, end.1)) x e in
    subst (λ (y : Act × List ℕ). BeginsWith (46 ∷ octets) y) (some_is (act.Turn, a.0.1) x a.2)
    (tt, ap (λ (v : List ℕ). 46 ∷ v) (octet_takes 10 octets a.0 a.1))

-- this letter, or another one
by_letter : (letter code : ℕ) (rest : List ℕ) (here there : Option (Act × List ℕ)) (x : Act × List ℕ)
    → (here ≡ Some x → BeginsWith (code ∷ rest) x) → (there ≡ Some x → BeginsWith (letter ∷ rest) x) → cond (eqb letter code) here there ≡ Some x → BeginsWith (letter ∷ rest) x
by_letter letter code rest here there x h k e = go (eqb letter code) refl e
  where
    go : (b : Bool) → eqb letter code ≡ b → cond b here there ≡ Some x → BeginsWith (letter ∷ rest) x
    go true is e = subst (λ (l : ℕ). BeginsWith (l ∷ rest) x) (sym (eqb-true letter code is)) (h e)
    go false is e = k e

pub act_takes : (octets : List ℕ) (x : Act × List ℕ) → act_at octets ≡ Some x → BeginsWith octets x
unfolding act_at
act_takes [] x e = absurd cc
act_takes (letter ∷ rest) x e =
    by_letter letter 97 rest (arrival_at rest) _ x (arrival_takes rest x) (λ e. by_letter letter 114 rest (octets_at rest) _ x (octets_take rest x) (λ e.
    by_letter letter 101 rest (with_conn act.End rest) _ x (end_takes rest x) (λ e. by_letter letter 102 rest (with_conn act.ReadFails rest) _ x (fault_takes rest x) (λ e.
    by_letter letter 119 rest (room_at rest) _ x (room_takes rest x) (λ e. by_letter letter 98 rest (with_conn act.WriteFails rest) _ x (failure_takes rest x) (λ e.
    by_letter letter 116 rest (alone_at act.Tick rest) _ x (tick_takes rest x) (λ e. by_letter letter 46 rest (alone_at act.Turn rest) None x (turn_takes rest x) (λ e. absurd cc) e) e) e) e) e) e) e) e

-- ---- what is written so is read

positive_again : (number : ℕ) (rest : List ℕ) → IsNumber number → ends_number rest ≡ true → positive_at (32 ∷ (decimal number ++ rest)) ≡ Some (number, rest)
unfolding positive_at
positive_again number rest h ends =
    let some : eqb number 0 ≡ false = grind (arith, nat_tests, h.0) in
    rw (number_again number rest h.1 ends, some) refl

conn_again : (conn : Conn) (rest : List ℕ) → IsNumber conn.0 → ends_number rest ≡ true → conn_at (32 ∷ (decimal conn.0 ++ rest)) ≡ Some (conn, rest)
unfolding conn_at
conn_again conn rest h ends = rw (positive_again conn.0 rest h ends) refl

-- what begins with a digit is no star
is_no_star : (octets : List ℕ) → starts_number octets ≡ true → credit_at octets ≡ (number_at octets >>= λ number. Some (Some number.0, number.1))
unfolding credit_at
is_no_star [] h = absurd cc
is_no_star (first ∷ rest) h = let other : eqb first 42 ≡ false = grind (arith, nat_tests) in rw other refl

star_again : (rest : List ℕ) → credit_at (42 ∷ 10 ∷ rest) ≡ Some (None, 10 ∷ rest)
unfolding credit_at
star_again rest = refl

credit_again : (credit : Option ℕ) (rest : List ℕ) → IfSome credit (λ octets. octets < 2 ^ 32) → credit_at (credit_text credit ++ (10 ∷ rest)) ≡ Some (credit, 10 ∷ rest)
unfolding credit_text
credit_again None rest h = star_again rest
credit_again (Some octets) rest h = is_no_star (decimal octets ++ (10 ∷ rest)) (number_starts octets (10 ∷ rest) h) ∙ rw (number_again octets (10 ∷ rest) h refl) refl

named_again : (conn : Conn) (rest : List ℕ) → IsNumber conn.0 → named_at (32 ∷ (decimal conn.0 ++ (10 ∷ rest))) ≡ Some (conn, rest)
unfolding named_at
named_again conn rest h = rw (conn_again conn (10 ∷ rest) h refl) refl

sent_again : (octets rest : List ℕ) → 1 ≤ length octets → length octets ≤ 8192 → AllByRecursion (λ octet. octet < 256) octets → sent_at (hex octets ++ (10 ∷ rest)) ≡ Some (octets, 10 ∷ rest)
unfolding sent_at
sent_again octets rest some most below = rw (pairs_again octets rest below, le-leb _ _ some, le-leb _ _ most) refl

pub act_again : (act : Act) (rest : List ℕ) → HasLine act → act_at (spelled act ++ rest) ≡ Some (act, rest)
unfolding act_at arrival_at octets_at room_at
act_again (act.Arrive conn credit) rest h = ap act_at (arrival_text conn credit rest) ∙ rw (conn_again conn (32 ∷ (credit_text credit ++ (10 ∷ rest))) h.0 refl, credit_again credit rest h.1) refl
act_again (act.Octets conn octets) rest h = ap act_at (octets_text conn octets rest) ∙ rw (conn_again conn (32 ∷ (hex octets ++ (10 ∷ rest))) h.0 refl, sent_again octets rest h.1 h.2 h.3) refl
act_again (act.End conn) rest h = ap act_at (named_text 101 conn rest) ∙ rw (named_again conn rest h) refl
act_again (act.ReadFails conn) rest h = ap act_at (named_text 102 conn rest) ∙ rw (named_again conn rest h) refl
act_again (act.Room conn more) rest h = ap act_at (numbers_text 119 conn.0 more rest) ∙ rw (conn_again conn (32 ∷ (decimal more ++ (10 ∷ rest))) h.0 refl, positive_again more (10 ∷ rest) (h.1, h.2) refl) refl
act_again (act.WriteFails conn) rest h = ap act_at (named_text 98 conn rest) ∙ rw (named_again conn rest h) refl
act_again act.Tick rest h = refl
act_again act.Turn rest h = refl

-- so no line begins another
pub act_once : (a b : Act) (x y : List ℕ) → HasLine a → HasLine b → spelled a ++ x ≡ spelled b ++ y → (a ≡ b) × (x ≡ y)
act_once a b x y h k e =
    let same : (a, x) ≡ (b, y) = some_is _ _ (sym (act_again a x h) ∙ ap act_at e ∙ act_again b y k) in
    (ap (λ (p : Act × List ℕ). p.0) same, ap (λ (p : Act × List ℕ). p.1) same)
