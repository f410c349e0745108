use Rattle.hub_core.proofs.All.{rules, refl, sym, Begins, whole, proceeds_same, message_is_sent}
use Rattle.hub_core.proofs.hub.Hub.send.Goals as goal

pub returns-in-Some : goal.returns-in-Some
returns-in-Some g c = record {
  ties = search rules;
  reason = search rules;
  refused = search rules;
  kept = search rules;
  proceeds = proceeds_same _;
  appends = search rules;
  elsewhere = search rules;
  named = search rules;
  config = search rules;
  table = search rules;
}

pub returns-in-None : goal.returns-in-None
returns-in-None g c = record {
  ties = c.put.ensures.ties;
  reason = search rules;
  refused = search rules;
  kept = c.put.ensures.kept;
  proceeds = c.put.ensures.proceeds;
  appends = c.put.ensures.appends (whole (Begins c.args.kind) c.args.body.now) (message_is_sent c.args.kind c.opcode_number.result c.opcode_number.ensures.value, (Begins c.args.kind, sym c.opcode_number.ensures.value, refl));
  elsewhere = c.put.ensures.elsewhere;
  named = c.put.ensures.named;
  config = c.put.ensures.config;
  table = c.put.ensures.table;
}
