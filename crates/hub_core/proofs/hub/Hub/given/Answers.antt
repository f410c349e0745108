use Rattle.hub_core.proofs.All.{rules, ◌≡◌, true, refl, sym, ap, ◌∙◌, subst, given, nothing, HubState, Phase, Option, Some, is_reading, is_present, phase_at, entry_at, has_entry, cond, IsTable, table_of, server, notes_alone, notes_given, counts_given, makes_recounted, elsewhere_recounted, appends_after_nothing, appends_stay, ties_stay, stays_recounted, phase_recounted, reading_there}
use Rattle.hub_core.proofs.hub.Hub.given.Goals as goal

pub hear-requires : goal.hear-requires
hear-requires g c = reading_there c.args.self.now c.args.conn.0 c.requires.phase

pub returns : goal.returns
returns g c =
    let heard = c.hear.ensures in
    let was : IsTable (table_of c.args.self.now) = search rules in
    let stays = stays_recounted heard in
    let x = notes_alone c.args.conn.0 (given c.args.conn.0 c.args.count) c.hear.new.self (g.N.Net.state c.args.out.now.net) (g.W.Watch.told c.args.out.now.watch) (g.W.Watch.told c.note.new.self) c.note.ensures refl (λ d. refl)
    (notes_given c.hear.new.self c.args.conn.0 c.args.count (ap is_reading (phase_recounted heard was) ∙ c.requires.phase)) (ties_stay stays (g.N.Net.state c.args.out.now.net) (g.W.Watch.told c.args.out.now.watch) c.requires.ties) heard.table in
    record {
      ties = x.ties;
      makes = makes_recounted heard (given c.args.conn.0 c.args.count) (g.N.Net.state c.args.out.now.net) (g.W.Watch.told c.args.out.now.watch) (server c.hear.new.self (g.N.Net.state c.args.out.now.net) (g.W.Watch.told c.note.new.self)) refl x.makes;
      counts = counts_given c.args.count heard;
      appends = appends_after_nothing nothing (server c.args.self.now (g.N.Net.state c.args.out.now.net) (g.W.Watch.told c.args.out.now.watch)) (server c.hear.new.self (g.N.Net.state c.args.out.now.net) (g.W.Watch.told c.args.out.now.watch)) (server c.hear.new.self (g.N.Net.state c.args.out.now.net) (g.W.Watch.told c.note.new.self))
          (appends_stay stays (g.N.Net.state c.args.out.now.net) (g.W.Watch.told c.args.out.now.watch)) x.appends;
      elsewhere = elsewhere_recounted heard was;
      named = heard.change.table.named;
      table = heard.table;
    }
