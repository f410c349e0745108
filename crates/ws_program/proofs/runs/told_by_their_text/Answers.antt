use Rattle.ws_program.proofs.All.{sym, ◌∙◌, net_state, one_to_one, links_of}
use Rattle.ws_program.proofs.runs.told_by_their_text.Goals as goal

pub returns : goal.returns
returns c = λ admits config table acts others octets one other.
    one_to_one one.notes other.notes (links_of one.held (net_state one.net).taken one.notes) (links_of other.held (net_state other.net).taken other.notes)
    one.tells.notes_in_range other.tells.notes_in_range one.tells.links_in_range other.tells.links_in_range (sym one.text ∙ other.text)
