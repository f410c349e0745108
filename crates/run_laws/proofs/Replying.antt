-- The texts of replies, before more notes and octets.
use Rattle.run_laws.proofs.Below.{◌≡◌, ◌≢◌, ℕ, List, ◌∷◌, ◌++◌, Bool, true, false, ◌||◌, refl, sym, ap, ◌∙◌, subst, or-true, itself, NoteValue, RouteTable, Verdict, more, admit, Judged, answer_text, judged_stays, AreReplies, AreAdmitted, is_admitted, is_opened, is_opened_in, list_any-append}
use Rattle.ws_kinds.specs.NoteValue as note

-- an opened connection stays opened
pub opened_more : (conn : ℕ) (notes later : List NoteValue) → is_opened_in conn notes ≡ true → is_opened_in conn (notes ++ later) ≡ true
opened_more conn notes later here = list_any-append (is_opened conn) notes later ∙ ap (λ b. b || is_opened_in conn later) here

-- the note Opened opens its connection
pub opened_now : (conn route : ℕ) (param : List ℕ) (notes later : List NoteValue) → is_opened_in conn (notes ++ note.opened conn route param ∷ later) ≡ true
opened_now conn route param notes later =
    list_any-append (is_opened conn) notes (note.opened conn route param ∷ later)
    ∙ ap (λ b. is_opened_in conn notes || (b || is_opened_in conn later)) (itself conn)
    ∙ or-true (is_opened_in conn notes)

not_more : (verdict : Verdict) → is_admitted verdict ≡ true → verdict ≢ more
not_more verdict h e = let clash : false ≡ true = sym (ap is_admitted e) ∙ h in cc

module _ (table : RouteTable) where
  pub replies_before : (notes later : List NoteValue) (octets all : ℕ → List ℕ) (replies : ℕ → List ℕ) → AreReplies table (notes ++ later) all replies
      → ((conn : ℕ) → (behind : List ℕ) × (all conn ≡ octets conn ++ behind)) → AreReplies table notes octets replies
  replies_before notes later octets all replies agree longer conn verdict here judged admitted =
      let rest = longer conn in
      agree conn verdict (opened_more conn notes later here)
      (subst (λ (os : List ℕ). Judged table os verdict) (sym rest.1) (judged_stays table (octets conn) rest.0 verdict judged (not_more verdict admitted)))
      admitted

  -- who was admitted stays so as octets come
  pub admitted_longer : (notes : List NoteValue) (octets all : ℕ → List ℕ) → ((conn : ℕ) → (behind : List ℕ) × (all conn ≡ octets conn ++ behind)) → AreAdmitted table notes octets → AreAdmitted table notes all
  admitted_longer notes octets all longer admitted conn here =
      let x = admitted conn here in
      let rest = longer conn in
      (x.0, subst (λ (os : List ℕ). Judged table os x.0) (sym rest.1) (judged_stays table (octets conn) rest.0 x.0 x.1 (not_more x.0 x.2)), x.2)

  -- the reply to a connection that one of the notes opened, where these octets of it were judged first
  pub reply_of_opened : (notes later : List NoteValue) (octets : ℕ → List ℕ) (replies : ℕ → List ℕ) (conn other : ℕ) (named first behind : List ℕ) (end route : ℕ) (param accept : List ℕ) (protocol : Bool)
      → AreReplies table (notes ++ note.opened conn other named ∷ later) octets replies → octets conn ≡ first ++ behind → Judged table first (admit end route param accept protocol)
      → replies conn ≡ answer_text table (admit end route param accept protocol)
  reply_of_opened notes later octets replies conn other named first behind end route param accept protocol agree is judged =
      agree conn (admit end route param accept protocol) (opened_now conn other named notes later)
      (subst (λ (os : List ℕ). Judged table os (admit end route param accept protocol)) (sym is) (judged_stays table first behind (admit end route param accept protocol) judged (λ clash. cc))) refl
