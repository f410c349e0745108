-- What is told of a run of a made schedule, in one line.
use Rattle.std.specs.Prelude.{ℕ, List, ◌++◌, decimal, codes}
use Rattle.made_schedule.specs.declared.summary.Summary.{Summary}

-- the line: the seed, and each number behind its name
abbrev pub summary_line : ℕ → Summary → List ℕ
summary_line seed summary =
    codes "made " ++ decimal seed
    ++ codes ": turns " ++ decimal summary.turns
    ++ codes " connections " ++ decimal summary.connections
    ++ codes " messages " ++ decimal summary.messages
    ++ codes " items " ++ decimal summary.items
    ++ codes " octets " ++ decimal summary.octets
    ++ codes " dropped " ++ decimal summary.dropped
    ++ codes " sum " ++ decimal summary.sum
    ++ codes "\n"
