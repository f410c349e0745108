use Rattle.hub_core.proofs.All.{rules, admits, IsTable, table_of, Forbidden, order_refused, subscribe_forbidden, ◌≡◌, ◌∙◌, ℕ, List, Bool, true, false, None, Some, cond, refl, sym, ap, subst, length, Why, HubState, server, standings_at, hub_of, Ties, Ok, Err, Result, TooMany, subscribe, has_topic, topics_of, with_topic, Standing, why_unsubscribe, refused_by, fits, many_not, subscribe_fits, subscribe_unstored, topics_served}
use Rattle.hub_core.proofs.hub.Hub.subscribe.Goals as goal

abbrev Answer : Type 0
Answer = Result Bool Why

abbrev is_ok_of : Answer → Bool
is_ok_of (Ok _) = true
is_ok_of (Err _) = false

abbrev reason_in : Why → Answer → Why
reason_in why (Ok _) = why
reason_in why (Err reason) = reason

never : (answer : Bool) (why : Why) → Path Answer (Ok answer) (Err why) → ⊥
never answer why e = let h : true ≡ false = ap is_ok_of e in cc

the_reason : (why other : Why) → Path Answer (Err why) (Err other) → why ≡ other
the_reason why other e = ap (reason_in other) e

pub returns-in-Ok : goal.returns-in-Ok
returns-in-Ok g c =
    let rule : List ℕ → Bool = admits c.args.guard.now.rule in
    let admitted : admits c.args.guard.now.rule c.args.topic.now ≡ true = search rules in
    let own : HubState → Standing = λ z. standings_at z c.args.conn.0 in
    let none : why_unsubscribe (own (hub_of c.self.inside.table c.self.inside.topics c.self.inside.tellings)).phase c.args.topic.now ≡ None = subst (λ (z : HubState). why_unsubscribe (own z).phase c.args.topic.now ≡ None) (sym c.self.view_is) c.requires.fits in
    let ties : Ties (server (hub_of c.self.inside.table c.self.inside.topics c.self.inside.tellings) (g.N.Net.state c.args.out.now.net) (g.W.Watch.told c.args.out.now.watch)) = subst (λ (z : HubState). Ties (server z (g.N.Net.state c.args.out.now.net) (g.W.Watch.told c.args.out.now.watch))) (sym c.self.view_is) c.requires.ties in
    let few = many_not (has_topic c.args.topic.now (topics_of c.self.inside.topics c.args.conn.0)) (length (topics_of c.self.inside.topics c.args.conn.0)) (λ both. never c.in-Ok.field-0 TooMany (c.in-Ok.ensures.too_many.1 both)) in
    rw (← c.self.view_is) (topics_served rule c.self.inside.table c.self.inside.topics c.subscribe.new.self c.self.inside.tellings (g.N.Net.state c.args.out.now.net) (g.W.Watch.told c.args.out.now.watch) c.args.conn.0 c.args.number (subscribe c.args.topic.now) (with_topic c.args.topic.now)
    c.self.invariant (fits (own (hub_of c.self.inside.table c.self.inside.topics c.self.inside.tellings)) c.args.topic.now none).0 c.in-Ok.ensures.topics (λ d x. refl) refl
    (subscribe_fits rule (own (hub_of c.self.inside.table c.self.inside.topics c.self.inside.tellings)) c.args.topic.now none admitted ∙ ap (λ (z : Bool). cond z (Some TooMany) None) few) ties)

pub returns-in-Err : goal.returns-in-Err
returns-in-Err g c =
    let rule : List ℕ → Bool = admits c.args.guard.now.rule in
    let admitted : admits c.args.guard.now.rule c.args.topic.now ≡ true = search rules in
    let own : HubState → Standing = λ z. standings_at z c.args.conn.0 in
    let none : why_unsubscribe (own (hub_of c.self.inside.table c.self.inside.topics c.self.inside.tellings)).phase c.args.topic.now ≡ None = subst (λ (z : HubState). why_unsubscribe (own z).phase c.args.topic.now ≡ None) (sym c.self.view_is) c.requires.fits in
    let same : server (hub_of c.self.inside.table c.subscribe.new.self c.self.inside.tellings) (g.N.Net.state c.args.out.now.net) (g.W.Watch.told c.args.out.now.watch) ≡ server (hub_of c.self.inside.table c.self.inside.topics c.self.inside.tellings) (g.N.Net.state c.args.out.now.net) (g.W.Watch.told c.args.out.now.watch) = ap (λ (z : List (ℕ × List ℕ)). server (hub_of c.self.inside.table z c.self.inside.tellings) (g.N.Net.state c.args.out.now.net) (g.W.Watch.told c.args.out.now.watch)) c.in-Err.ensures.refused in
    rw (← c.self.view_is) (refused_by rule c.args.conn.0 c.args.number (subscribe c.args.topic.now) c.in-Err.why same c.unserved-in-Err.ensures c.self.invariant.table
    (subscribe_unstored rule (own (hub_of c.self.inside.table c.self.inside.topics c.self.inside.tellings)) c.args.topic.now c.in-Err.why none admitted c.in-Err.ensures.reasons
    (λ many. c.in-Err.ensures.too_many.0 (ap Err many)) (λ both. the_reason c.in-Err.why TooMany (c.in-Err.ensures.too_many.1 both)) (λ memory. c.in-Err.ensures.memory (ap Err memory))))

pub returns-then-not-allows : goal.returns-then-not-allows
returns-then-not-allows g c =
    let table : IsTable (table_of c.args.self.now) = search rules in
    let barred : admits c.args.guard.now.rule c.args.topic.now ≡ false = search rules in
    order_refused (admits c.args.guard.now.rule) c.args.conn.0 c.args.number (subscribe c.args.topic.now) Forbidden refl c.unserved.ensures table
    (subscribe_forbidden (admits c.args.guard.now.rule) (standings_at c.args.self.now c.args.conn.0) c.args.topic.now c.requires.fits barred)
