-- Notes by which nobody is opened.
use Rattle.loop_runner.proofs.Below.{◌≡◌, ℕ, List, [], ◌∷◌, ◌++◌, Some, Bool, true, false, ◌||◌, refl, sym, ap, ◌∙◌, append-nil, list_all, NoteValue, OrderValue, AreNoted, is_outgoing, is_opened, is_opened_in, notes_of, none_follow, list_any-append, Server, Proceeds, standings_at, EndsTurn, finishes, clash, is_of_orders, told_is, orders_notes, outgoing_of_orders, Grows, ServesOrders, Offers}
use Rattle.ws_kinds.specs.NoteValue as note

-- who is opened by the later notes was opened by the earlier ones
abbrev pub OpensNobody : Server → Server → Type 0
OpensNobody a d = (ns ms : List NoteValue) → a.told ≡ Some ns → d.told ≡ Some ms → (c : ℕ) → is_opened_in c ms ≡ true → is_opened_in c ns ≡ true

from_or : (x y : Bool) → y ≡ false → (x || y) ≡ true → x ≡ true
from_or true y none e = refl
from_or false y none e = clash y none e

opened_before : (c : ℕ) (ns made : List NoteValue) → is_opened_in c made ≡ false → is_opened_in c (ns ++ made) ≡ true → is_opened_in c ns ≡ true
opened_before c ns made none e = from_or (is_opened_in c ns) (is_opened_in c made) none (sym (list_any-append (is_opened c) ns made) ∙ e)

pub outgoing_unopened : (c : ℕ) (ns : List NoteValue) → list_all is_outgoing ns ≡ true → is_opened_in c ns ≡ false
outgoing_unopened c ns e = none_follow is_outgoing (is_opened c) one ns e
  where
    one : (n : NoteValue) → is_outgoing n ≡ true → is_opened c n ≡ false
    one (note.opened d route param) h = clash false refl h
    one _ h = refl

orders_unopened : (c : ℕ) (n : NoteValue) → is_of_orders n ≡ true → is_opened c n ≡ false
orders_unopened c (note.opened d route param) h = clash false refl h
orders_unopened c _ h = refl

finishes_unopened : (c : ℕ) (cs : List ℕ) → is_opened_in c (finishes cs) ≡ false
finishes_unopened c [] = refl
finishes_unopened c (k ∷ cs) = finishes_unopened c cs

pub opens_none : (made : List NoteValue) (a d : Server) → AreNoted a.told made d.told → ((c : ℕ) → is_opened_in c made ≡ false) → OpensNobody a d
opens_none made a d noted none ns ms was told c e =
    let is : ns ++ made ≡ ms = let z : Some (ns ++ made) ≡ Some ms = sym (told_is ns made ms a.told d.told noted was told) ∙ told in cc in
    opened_before c ns made (none c) (ap (is_opened_in c) is ∙ e)

pub opens_same : (a d : Server) → d.told ≡ a.told → OpensNobody a d
opens_same a d same ns ms was told c e =
    let is : ns ≡ ms = let z : Some ns ≡ Some ms = sym was ∙ sym same ∙ told in cc in
    ap (is_opened_in c) is ∙ e

pub opens_then : (a m d : Server) → Grows m d → OpensNobody a m → OpensNobody m d → OpensNobody a d
opens_then a m d grows x y ns ms was told c e = let v = grows.told ms told in x ns v.0 was v.2 c (y v.0 ms v.2 told c e)

-- a note of the hub, and then what was sent
pub opens_sent : (n : NoteValue) (a d : Server) → Proceeds (n ∷ []) [] a d → ((c : ℕ) → is_opened c n ≡ false) → OpensNobody a d
opens_sent n a d x none = opens_none (n ∷ (x.sending ++ [])) a d x.advances.told
    (λ c. ap (λ (z : Bool). z || is_opened_in c (x.sending ++ [])) (none c) ∙ ap (is_opened_in c) (append-nil x.sending) ∙ outgoing_unopened c x.sending x.outgoing)

pub opens_served : (admits : List ℕ → Bool) (conn : ℕ) (orders : List OrderValue) (a d : Server) → ServesOrders admits conn orders a d → OpensNobody a d
opens_served admits conn orders a d x =
    let does = x.does (λ _. []) in
    opens_none (notes_of x.steps) a d does.told
    (λ c. none_follow is_of_orders (is_opened c) (orders_unopened c) (notes_of x.steps)
    (orders_notes is_of_orders a.hub.config admits conn outgoing_of_orders (λ i y. refl) orders 0 x.steps (standings_at a.hub) x.performs))

-- what was sent, and then notes by which nobody is opened
opens_last : (last : List NoteValue) (a d : Server) → Proceeds [] last a d → ((c : ℕ) → is_opened_in c last ≡ false) → OpensNobody a d
opens_last last a d x none = opens_none (x.sending ++ last) a d x.advances.told
    (λ c. list_any-append (is_opened c) x.sending last ∙ ap (λ (z : Bool). z || is_opened_in c last) (outgoing_unopened c x.sending x.outgoing) ∙ none c)

pub opens_offered : (conn : ℕ) (a d : Server) → Offers conn a d → OpensNobody a d
opens_offered conn a d x = opens_last (finishes x.finished) a d x.proceeds (λ c. finishes_unopened c x.finished)

pub opens_ended : (a d : Server) → EndsTurn a d → OpensNobody a d
opens_ended a d x = opens_last (finishes x.finished ++ note.turn ∷ []) a d x.proceeds
    (λ c. list_any-append (is_opened c) (finishes x.finished) (note.turn ∷ []) ∙ ap (λ (z : Bool). z || false) (finishes_unopened c x.finished))
