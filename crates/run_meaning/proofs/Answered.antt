-- What was heard first, where the octets decide of the request.
use Rattle.run_meaning.proofs.Below.{◌≡◌, ◌≢◌, ℕ, zero, suc, List, [], ◌∷◌, ◌++◌, Option, Some, None, Bool, true, false, cond, refl, sym, ap, ◌∙◌, subst, NoteValue, RouteTable, Verdict, admit, refuse, Judged, judged_unique, Server, is_gone_phase, phase, Heard, opened, refused, heard, is_frame_heard, first_frames, to_hear, life_by, last_frame, Reaches, Lived}

-- no Close passes over what is no message, ping or pong
hear_first : (last : Option ℕ) (first : Heard) (rest : List Heard) → is_frame_heard first ≡ false → (behind : List Heard) × (to_hear last (first ∷ rest) ≡ first ∷ behind)
hear_first None first rest e = (rest, refl)
hear_first (Some zero) first rest e = (first_frames zero rest, ap (λ (b : Bool). cond b (first_frames zero rest) (first ∷ first_frames zero rest)) e)
hear_first (Some (suc n)) first rest e = (first_frames (suc n) rest, ap (λ (b : Bool). cond b (first ∷ first_frames n rest) (first ∷ first_frames (suc n) rest)) e)

front_first : (gone : Bool) (hs : List Heard) (first : Heard) (rest : List Heard) → Reaches gone hs (first ∷ rest) → hs ≢ [] → (behind : List Heard) × (hs ≡ first ∷ behind)
front_first true [] first rest x some = absurd (some refl)
front_first true (h ∷ hs) first rest x some =
    let whole : first ∷ rest ≡ h ∷ (hs ++ x.0) = x.1 in
    let same : h ≡ first = cc in
    (hs, ap (λ (z : Heard). z ∷ hs) same)
front_first false hs first rest x some = (rest, x)

module _ {S : Type 0} (s : Server S) (table : RouteTable) (max : ℕ) (ns : List NoteValue) (c : ℕ) (octets : List ℕ) (h : Lived s table max ns c octets) where
  life_is : (v : Verdict) → Judged table octets v → h.life ≡ life_by max octets v
  life_is v judged = h.is.says ∙ ap (life_by max octets) (judged_unique table octets h.is.verdict v h.is.judged judged)

  begins : (first : Heard) (rest : List Heard) → is_frame_heard first ≡ false → h.life ≡ first ∷ rest → (behind : List Heard) × (heard c ns ≡ first ∷ behind)
  begins first rest e is =
      let t = hear_first (last_frame s ns c) first rest e in
      front_first (is_gone_phase (phase s ns c)) (heard c ns) first t.0
      (subst (λ (hs : List Heard). Reaches (is_gone_phase (phase s ns c)) (heard c ns) hs) (ap (to_hear (last_frame s ns c)) is ∙ t.1) h.reaches)
      (λ none. let z : first ∷ rest ≡ [] = sym is ∙ h.begun none in cc)

  pub opened_first : (end route : ℕ) (param accept : List ℕ) (protocol : Bool) → Judged table octets (admit end route param accept protocol) → (behind : List Heard) × (heard c ns ≡ opened route param ∷ behind)
  opened_first end route param accept protocol judged = begins (opened route param) _ refl (life_is (admit end route param accept protocol) judged)

  pub refused_first : (status : ℕ) → Judged table octets (refuse status) → (behind : List Heard) × (heard c ns ≡ refused status ∷ behind)
  refused_first status judged = begins (refused status) _ refl (life_is (refuse status) judged)
