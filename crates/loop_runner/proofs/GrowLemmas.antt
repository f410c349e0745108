-- What grows with each step.
use Rattle.loop_runner.proofs.Below.{Bool, ◌≡◌, ⊎_elim, ℕ, List, [], ◌∷◌, ◌++◌, take, Option, Some, None, true, refl, sym, ap, ◌∙◌, subst, append-nil, append_assoc, cases_eq, NoteValue, OrderValue, IsNoted, AreNoted, NetState, Nexts, Reads, NetGives, SameNet, Shuts, NetRead, NetEvent, HubState, Server, server, NetAfter, Advances, Proceeds, Makes, EndsTurn, told_one, told_none, Grows, ServesOrders}
use Rattle.link_trait.specs.declared.net.NetRead.TheVariants as read

abbrev Before : Option (List NoteValue) → List NoteValue → Type 0
Before t after = (notes : List NoteValue) × (later : List NoteValue) × (t ≡ Some notes) × (after ≡ notes ++ later)

abbrev Longer : NetState → NetState → Type 0
Longer old new = (conn : ℕ) → (behind : List ℕ) × (new.given conn ≡ old.given conn ++ behind)

told_before : (t t' : Option (List NoteValue)) (ms : List NoteValue) → AreNoted t ms t' → (after : List NoteValue) → t' ≡ Some after → Before t after
told_before (Some old) (Some new) ms is after e = (old, ms, refl, same ∙ is)
  where
    same : after ≡ new
    same = cc
told_before None (Some new) ms is after e = absurd is
told_before (Some old) None ms is after e = absurd cc
told_before None None ms is after e = absurd cc

pub grows_then : (a b d : Server) → Grows a b → Grows b d → Grows a d
grows_then a b d x y = record {
  tells = y.tells ∙ x.tells;
  schedule = y.schedule ∙ x.schedule;
  port = y.port ∙ x.port;
  told = λ after e.
      let v = y.told after e in
      let u = x.told v.0 v.2 in
      (u.0, u.1 ++ v.1, u.2, v.3 ∙ ap (λ (z : List NoteValue). z ++ v.1) u.3 ∙ append_assoc u.0 u.1 v.1);
  given = λ t c.
      let u = x.given t c in
      let v = y.given (x.tells ∙ t) c in
      (u.0 ++ v.0, v.1 ∙ ap (λ (z : List ℕ). z ++ v.0) u.1 ∙ append_assoc (a.net.given c) u.0 v.0);
}

-- notes, beside a net of which more was read
grows_told : (ms : List NoteValue) (a b : Server) → AreNoted a.told ms b.told → SameNet a.net b.net → b.net.port ≡ a.net.port → (a.net.tells ≡ true → Longer a.net b.net) → Grows a b
grows_told ms a b is same port longer = record { tells = same.tells; schedule = same.schedule; port = port; told = told_before a.told b.told ms is; given = longer }

pub grows_net : (ms : List NoteValue) (a b : Server) → AreNoted a.told ms b.told → NetAfter ms a.net b.net → Grows a b
grows_net ms a b is net = grows_told ms a b is net.net net.port (λ t c. ([], (net.told t).given c ∙ sym (append-nil (a.net.given c))))

pub grows_advances : (ms : List NoteValue) (a b : Server) → Advances ms a b → Grows a b
grows_advances ms a b x = grows_net ms a b x.told x.net

pub grows_makes : (ms : List NoteValue) (a b : Server) → Makes ms a b → Grows a b
grows_makes ms a b x = grows_advances ms a b x.advances

pub grows_proceeds : (first last : List NoteValue) (a b : Server) → Proceeds first last a b → Grows a b
grows_proceeds first last a b x = grows_advances (first ++ (x.sending ++ last)) a b x.advances

pub grows_ended : (a b : Server) → EndsTurn a b → Grows a b
grows_ended a b x = grows_proceeds [] _ a b x.proceeds

pub grows_served : (admits : List ℕ → Bool) (conn : ℕ) (orders : List OrderValue) (a b : Server) → ServesOrders admits conn orders a b → Grows a b
grows_served admits conn orders a b x = let does = x.does (λ _. []) in grows_net _ a b does.told does.net

-- one note, and the same net
pub grows_noted : (n : NoteValue) (h g : HubState) (net : NetState) (t t' : Option (List NoteValue)) → IsNoted t n t' → Grows (server h net t) (server g net t')
grows_noted n h g net t t' is = grows_told (n ∷ []) (server h net t) (server g net t') (told_one t t' n is) (record { tells = refl; schedule = refl }) refl (λ _ c. ([], sym (append-nil (net.given c))))

-- no note
grows_still : (h g : HubState) (a b : NetState) (t : Option (List NoteValue)) → SameNet a b → b.port ≡ a.port → (a.tells ≡ true → Longer a b) → Grows (server h a t) (server g b t)
grows_still h g a b t same port longer = grows_told [] (server h a t) (server g b t) (told_none t) same port longer

pub grows_hub : (h g : HubState) (net : NetState) (t : Option (List NoteValue)) → Grows (server h net t) (server g net t)
grows_hub h g net t = grows_still h g net net t (record { tells = refl; schedule = refl }) refl (λ _ c. ([], sym (append-nil (net.given c))))

pub grows_same : (s : Server) → Grows s s
grows_same s = grows_hub s.hub s.hub s.net s.told

pub grows_next : (answer : NetEvent) (h : HubState) (a b : NetState) (t : Option (List NoteValue)) → Nexts answer a b → Grows (server h a t) (server h b t)
grows_next answer h a b t n = grows_still h h a b t n.net n.port (λ told c. ([], (n.told told).traffic.given c ∙ sym (append-nil (a.given c))))

pub grows_shut : (conn : ℕ) (h : HubState) (a b : NetState) (t : Option (List NoteValue)) → Shuts conn a b → Grows (server h a t) (server h b t)
grows_shut conn h a b t n = grows_still h h a b t n.net n.port (λ told c. ([], (n.told told).traffic.given c ∙ sym (append-nil (a.given c))))

same_behind : (xs ys : List ℕ) → ys ≡ xs → (behind : List ℕ) × (ys ≡ xs ++ behind)
same_behind xs ys e = ([], e ∙ sym (append-nil xs))

gives_behind : (result : NetRead) (space xs ys : List ℕ) → NetGives result space xs ys → (behind : List ℕ) × (ys ≡ xs ++ behind)
gives_behind (read.Octets n) space xs ys e = (take n space, e)
gives_behind read.End space xs ys e = same_behind xs ys e
gives_behind read.Failed space xs ys e = same_behind xs ys e
gives_behind read.Later space xs ys e = same_behind xs ys e

pub grows_read : (conn : ℕ) (space : List ℕ) (result : NetRead) (h : HubState) (a b : NetState) (t : Option (List NoteValue)) → Reads conn space result a b → Grows (server h a t) (server h b t)
grows_read conn space result h a b t n = grows_still h h a b t n.net n.port (λ told c. ⊎_elim
    (λ (e : c ≡ conn). subst (λ (z : ℕ). (behind : List ℕ) × (b.given z ≡ a.given z ++ behind)) (sym e) (gives_behind result space (a.given conn) (b.given conn) (n.told told).given))
    (λ (ne : c ≡ conn → ⊥). same_behind (a.given c) (b.given c) ((n.told told).elsewhere.given c ne)) (cases_eq c conn))
