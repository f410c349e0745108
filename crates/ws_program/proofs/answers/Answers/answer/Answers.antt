use Rattle.ws_program.proofs.StepLemmas.{message_step, ping_step, close_step, failed_step}
use Rattle.ws_program.proofs.answers.Answers.answer.Goals as goal

pub returns-in-Message-clause-step : goal.returns-in-Message-clause-step
returns-in-Message-clause-step g c = message_step _ c.args.step _ _ _ _ c.in-Message.kind c.in-Message.octets c.in-Message.is c.put_event.ensures.puts

pub returns-in-Ping-clause-step : goal.returns-in-Ping-clause-step
returns-in-Ping-clause-step g c = ping_step _ c.args.step _ _ _ _ c.in-Ping.payload c.in-Ping.is c.put_event-in-Ping.ensures.puts

pub returns-in-Close-clause-step : goal.returns-in-Close-clause-step
returns-in-Close-clause-step g c = close_step _ c.args.step _ _ _ _ c.in-Close.code _ c.in-Close.is c.put_close.ensures.puts

pub returns-in-Failed-clause-step : goal.returns-in-Failed-clause-step
returns-in-Failed-clause-step g c = failed_step _ c.args.step _ _ _ _ c.in-Failed.code c.in-Failed.is c.put_close-in-Failed.ensures.puts
