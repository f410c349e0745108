-- What a header that is whole leads to.
use Rattle.frame_reader.proofs.Below.{◌≡◌, ℕ, ◌+◌, List, [], ◌∷◌, ◌++◌, drop, Option, Some, None, refl, sym, ap, subst, ◌∙◌, drop-drop, append-nil, Kind, Opcode, Continuation, Begins, Close, Ping, Pong, Reserved, failed, Begun, Front, more, ends, begun_octets, events_from, front_at, reads, reads_is, Extends, front_extends, FrameHeader, DataFrame, State, AtFrameStart, kind_in, behind, IsHeader, Middle, middle_front, begun_of, middle_of, coming}

pub coming_at_start : (max : ℕ) (state : State) (kind : Option Kind) (all octets : List ℕ) → state ≡ AtFrameStart kind → coming max state all octets ≡ reads max (begun_of kind all) octets
coming_at_start max state kind all octets e = ap (λ s. coming max s all octets) e

-- what comes behind a header that is whole
pub behind_header : (max : ℕ) (begun : Option Begun) (items : List ℕ) (start : ℕ) (h : FrameHeader) → IsHeader max begun (drop start items) h → (behind_it : List ℕ)
    → reads max begun (drop start items ++ behind_it) ≡ events_from (reads max) (behind begun h (drop (start + h.length) items ++ behind_it))
behind_header max begun items start h is behind_it =
    reads_is max begun (drop start items ++ behind_it) ∙ ap (events_from (reads max)) (is.front behind_it)
    ∙ ap (λ (l : List ℕ). events_from (reads max) (behind begun h (l ++ behind_it))) (drop-drop h.length start items)

abbrev first_middle : FrameHeader → Kind → List ℕ → Middle
first_middle h kind all = record { final = h.is_final; kind = kind; all = all; left = h.size; key = h.key; place = 0 }

data_behind : (open_kind : Option Kind) (all : List ℕ) (h : FrameHeader) (kind : Kind) (op : Opcode) (octets : List ℕ) → h.opcode ≡ op → kind_in open_kind op ≡ Some kind
    → behind (begun_of open_kind all) h octets ≡ middle_front (first_middle h kind (begun_octets (begun_of open_kind all))) octets
data_behind None all h kind (Begins k) octets o e = let same : k ≡ kind = cc in rw o (ap (λ (x : Kind). middle_front (first_middle h x []) octets) same)
data_behind (Some k) all h kind Continuation octets o e = let same : k ≡ kind = cc in rw o (ap (λ (x : Kind). middle_front (first_middle h x all) octets) same)
data_behind None all h kind Continuation octets o e = absurd cc
data_behind None all h kind Close octets o e = absurd cc
data_behind None all h kind Ping octets o e = absurd cc
data_behind None all h kind Pong octets o e = absurd cc
data_behind None all h kind Reserved octets o e = absurd cc
data_behind (Some k) all h kind (Begins k') octets o e = absurd cc
data_behind (Some k) all h kind Close octets o e = absurd cc
data_behind (Some k) all h kind Ping octets o e = absurd cc
data_behind (Some k) all h kind Pong octets o e = absurd cc
data_behind (Some k) all h kind Reserved octets o e = absurd cc

pub enters : (max : ℕ) (open_kind : Option Kind) (old all items : List ℕ) (start : ℕ) (h : FrameHeader) (kind : Kind) (frame : DataFrame) → IsHeader max (begun_of open_kind old) (drop start items) h → kind_in open_kind h.opcode ≡ Some kind
    → all ≡ begun_octets (begun_of open_kind old) → frame.is_final ≡ h.is_final → frame.left ≡ h.size → frame.key ≡ h.key → frame.place ≡ 0 → (behind_it : List ℕ)
    → reads max (begun_of open_kind old) (drop start items ++ behind_it) ≡ events_from (reads max) (middle_front (middle_of kind frame all) (drop (start + h.length) items ++ behind_it))
enters max open_kind old all items start h kind frame is k a f l y p behind_it =
    behind_header max (begun_of open_kind old) items start h is behind_it
    ∙ ap (events_from (reads max)) (data_behind open_kind old h kind h.opcode (drop (start + h.length) items ++ behind_it) refl k ∙ sym same)
  where
    same : middle_front (middle_of kind frame all) (drop (start + h.length) items ++ behind_it) ≡ middle_front (first_middle h kind (begun_octets (begun_of open_kind old))) (drop (start + h.length) items ++ behind_it)
    same = λ i. middle_front (record { final = f i; kind = kind; all = a i; left = l i; key = y i; place = p i }) (drop (start + h.length) items ++ behind_it)

-- a header that is refused, or has not all come
pub refused_at : (max : ℕ) (begun : Option Begun) (raw : List ℕ) (code : ℕ) → front_at max begun raw ≡ ends (failed code) → (ys : List ℕ) → reads max begun (raw ++ ys) ≡ failed code ∷ []
refused_at max begun raw code e ys =
    reads_is max begun (raw ++ ys)
    ∙ ap (events_from (reads max)) (subst (λ (f : Front). Extends f ys (front_at max begun (raw ++ ys))) e (front_extends max begun raw ys))

pub awaited_at : (max : ℕ) (begun : Option Begun) (raw : List ℕ) → front_at max begun raw ≡ more → reads max begun (raw ++ []) ≡ []
awaited_at max begun raw e = ap (reads max begun) (append-nil raw) ∙ reads_is max begun raw ∙ ap (events_from (reads max)) e

pub same_front_at : (max max' : ℕ) (begun : Option Begun) (raw raw' : List ℕ) (front : Front) → max ≡ max' → raw ≡ raw' → front_at max begun raw ≡ front → front_at max' begun raw' ≡ front
same_front_at max max' begun raw raw' front m r e = (λ i. front_at (sym m i) begun (sym r i)) ∙ e
