use Rattle.ws_program.proofs.All.{◌≡◌, ◌∙◌, ap, sym, subst, MemNetState, start_net}
use Rattle.ws_program.specs.Begun.{can_begin}
use Rattle.ws_program.proofs.made.run_made.Goals as goal

pub first_turn-requires : goal.first_turn-requires
first_turn-requires g c =
    let acts_are : c.in_ok-net.net.acts ≡ c.args.schedule = ap (λ (n : MemNetState). n.acts) c.in_ok-net.ensures in
    record {
      can = subst can_begin (sym acts_are) c.requires;
      new = c.in_ok-server.ensures.new;
      configured = c.in_ok-server.ensures.config ∙ c.usual.ensures;
      starts = c.in_ok-net.ensures ∙ ap start_net (sym acts_are);
      unnoted = c.new-watch.ensures;
    }
