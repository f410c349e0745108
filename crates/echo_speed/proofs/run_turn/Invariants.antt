use Rattle.echo_speed.proofs.run_turn.Given as goal

abbrev pub decreases-turn : goal.decreases-turn
decreases-turn g l = (g.N.Net.state l.net).room
