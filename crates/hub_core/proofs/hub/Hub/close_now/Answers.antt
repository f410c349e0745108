use Rattle.hub_core.proofs.All.{server, IsUtf8-from_is_utf8, close_fits, obeys_close, ties_leaving}
use Rattle.hub_core.proofs.hub.Hub.close_now.Goals as goal

pub put_close_frame-requires-clause-text : goal.put_close_frame-requires-clause-text
put_close_frame-requires-clause-text g c =
    IsUtf8-from_is_utf8 c.args.reason.now (close_fits c.args.self.now c.args.conn.0 c.args.code c.args.reason.now c.requires.fits).text

pub put_close_frame-requires-clause-ties : goal.put_close_frame-requires-clause-ties
put_close_frame-requires-clause-ties g c =
    ties_leaving c.begin_to_leave.ensures (close_fits c.args.self.now c.args.conn.0 c.args.code c.args.reason.now c.requires.fits).opened
    (g.N.Net.state c.args.out.now.net) (g.W.Watch.told c.args.out.now.watch) c.requires.ties

pub returns : goal.returns
returns g c = record {
  between = server c.begin_to_leave.new.self (g.N.Net.state c.args.out.now.net) (g.W.Watch.told c.args.out.now.watch);
  obeys = obeys_close c.begin_to_leave.ensures (close_fits c.args.self.now c.args.conn.0 c.args.code c.args.reason.now c.requires.fits).opened
      (g.N.Net.state c.args.out.now.net) (g.W.Watch.told c.args.out.now.watch);
  sends = c.put_close_frame.ensures;
  named = c.begin_to_leave.ensures.change.table.named;
}
