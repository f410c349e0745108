use Rattle.hub_core.proofs.All.{◌≡◌, ◌++◌, [], ℕ, List, false, not, refl, ap, ◌∙◌, HubState, server, entry_of, is_gone, Leaves, hub_of, plain_change, falsely, goes, topics_end, topics_here, topics_elsewhere, topics_of}
use Rattle.hub_core.proofs.hub.Hub.leave.Goals as goal

pub returns : goal.returns
returns g c =
    let left : Leaves c.args.conn.0 c.args.left (server (hub_of c.self.inside.table c.self.inside.topics c.self.inside.tellings) (g.N.Net.state c.args.out.now.net) (g.W.Watch.told c.args.out.now.watch)) (server (hub_of c.leave.new.self c.drop_conn.new.self c.forget.new.self) (g.N.Net.state c.shut.new.self) (g.W.Watch.told c.note.new.self)) =
    record {
      gone = c.leave.ensures.gone;
      due = c.leave.ensures.due;
      topics = topics_here c.args.conn.0 (λ _. []) c.self.inside.topics c.drop_conn.new.self c.drop_conn.ensures ∙ topics_end (entry_of c.self.inside.table.entries c.args.conn.0).phase (topics_of c.self.inside.topics c.args.conn.0) (c.self.invariant.topics c.args.conn.0);
      tells = c.forget.ensures.row.tell_is;
      change = plain_change c.self.inside.topics c.drop_conn.new.self c.self.inside.tellings c.forget.new.self c.leave.ensures.elsewhere (topics_elsewhere c.args.conn.0 (λ _. []) c.self.inside.topics c.drop_conn.new.self c.drop_conn.ensures) c.forget.ensures.row.others;
      shuts = c.shut.ensures;
      noted = c.note.ensures;
    } in
    let there : is_gone (entry_of c.self.inside.table.entries c.args.conn.0).phase ≡ false =
    falsely (is_gone (entry_of c.self.inside.table.entries c.args.conn.0).phase) (ap (λ (z : HubState). not (is_gone (entry_of z.entries c.args.conn.0).phase)) c.self.view_is ∙ c.requires.present) in
    rw (← c.self.view_is) (goes left there (λ none. ap (λ (z : List ℕ). z ++ []) none) c.self.invariant.table c.leave.ensures.table)
