use Rattle.command_words.specs.Meaning.{echo_of, echo_options, replay_of, replay_options, serve_of, serve_options}
use Rattle.command_words.proofs.Order.{any_order}
use Rattle.command_words.proofs.laws.any_order.Goals as goal

pub returns : goal.returns
returns c = record { echo = any_order echo_options echo_of; replay = any_order replay_options replay_of; serve = any_order serve_options serve_of }
