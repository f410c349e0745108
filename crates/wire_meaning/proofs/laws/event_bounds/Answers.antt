use Rattle.wire_meaning.proofs.All.{None, message, ping, pong, closed, failed, reads_told_at}
use Rattle.wire_meaning.proofs.laws.event_bounds.Goals as goal

pub returns : goal.returns
returns c = record {
  messages = λ max octets before after kind body e. reads_told_at max None octets before after (message kind body) e;
  pings = λ max octets before after payload e. reads_told_at max None octets before after (ping payload) e;
  pongs = λ max octets before after payload e. reads_told_at max None octets before after (pong payload) e;
  closes = λ max octets before after code reason e. reads_told_at max None octets before after (closed code reason) e;
  failures = λ max octets before after code e. reads_told_at max None octets before after (failed code) e;
}
