-- A hub with what is outside of it.
use Rattle.ws_kinds.specs.declared.watch.Watch.{Ghosts as WatchMeaning}
use Rattle.link_trait.specs.declared.net.Net.{Ghosts as NetMeaning}
use Rattle.link_trait.specs.declared.net.Outside.{Outside}
use Rattle.hub_lines.specs.State.{HubState, Server, server}

-- by the meanings of the net and of the watch
abbrev pub at : {N W : Type 0} → NetMeaning N → WatchMeaning W → HubState → Outside N W → Server
at net watch hub out = server hub (net.state out.net) (watch.told out.watch)
