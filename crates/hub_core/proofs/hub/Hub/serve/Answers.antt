use Rattle.hub_core.proofs.All.{admits}
use Rattle.hub_core.proofs.hub.Hub.serve.Goals as goal

pub returns-in-Send : goal.returns-in-Send
returns-in-Send g c = rw (c.in-Send.is) (c.serve_send.ensures (admits c.args.guard.now.rule))

pub returns-in-Unsubscribe : goal.returns-in-Unsubscribe
returns-in-Unsubscribe g c = rw (c.in-Unsubscribe.is) (c.serve_unsubscribe.ensures (admits c.args.guard.now.rule))

pub returns-in-Publish : goal.returns-in-Publish
returns-in-Publish g c = rw (c.in-Publish.is) (c.serve_publish.ensures (admits c.args.guard.now.rule))

pub returns-in-Close : goal.returns-in-Close
returns-in-Close g c = rw (c.in-Close.is) (c.serve_close.ensures (admits c.args.guard.now.rule))
