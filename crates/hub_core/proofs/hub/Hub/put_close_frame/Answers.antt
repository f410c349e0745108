use Rattle.hub_core.proofs.All.{refl, sym, ap, ◌∙◌, Close, whole, close_frame, number_is_sent, sends_put}
use Rattle.hub_core.proofs.hub.Hub.put_close_frame.Goals as goal

pub returns : goal.returns
returns g c = sends_put (close_frame c.args.code c.args.reason.now) c.put.ensures
    (number_is_sent Close c.opcode_number.result refl c.opcode_number.ensures.value, (Close, sym c.opcode_number.ensures.value, ap (whole Close) (sym (c.deref.ensures.0 ∙ c.close_payload-payload.ensures.octets))))
