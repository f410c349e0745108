-- What was heard of a connection, beside the octets that were read of it and beside its reader. `last` is the run's
-- `last_frame`: None until a Close was served for the connection, and then messages, pings and pongs are passed over.
use Rattle.std.specs.Prelude.{◌≡◌, ◌≤◌, ℕ, List, [], ◌∷◌, ◌++◌, Option, Some, None, Bool, true, length, drop, map}
use Rattle.wire_meaning.specs.Reading.{reading}
use Rattle.route_table.specs.Table.{RouteTable}
use Rattle.upgrade_head.specs.Judged.{admit, Judged}
use Rattle.run_meaning.specs.Life.{Heard, opened, read, first_frames, to_hear, IsLife}
use Rattle.run_laws.specs.Readers.{ReaderView}

-- in phase Head: nothing was heard, and the reader has all octets, of which none was read
pub record HearsHead (max : ℕ) (heard : List Heard) (octets : List ℕ) (reader : ReaderView) : Type 0 where
  pub none : heard ≡ []
  pub raw : reader.raw ≡ octets
  pub unread : reader.unread ≡ true
  pub max_is : reader.max ≡ max

-- what is still to be heard of what is ahead
abbrev pub to_come : Option ℕ → List Heard → List Heard
to_come None ahead = ahead
to_come (Some count) ahead = first_frames 0 ahead

-- in phase Open or Leaving: the request was admitted, and what was heard and then what is to be heard of what is ahead of the
-- reader is what is to be heard of all, whatever more octets come
pub record HearsFrames (table : RouteTable) (max : ℕ) (last : Option ℕ) (heard : List Heard) (octets : List ℕ) (reader : ReaderView) : Type 0 where
  pub end : ℕ
  pub route : ℕ
  pub param : List ℕ
  pub accept : List ℕ
  pub protocol : Bool
  pub judged : Judged table octets (admit end route param accept protocol)
  pub within : end ≤ length octets
  pub all_is : (further : List ℕ) → to_hear last (opened route param ∷ map read (reading max (drop end (octets ++ further)))) ≡ heard ++ to_come last (map read (reader.ahead further))

-- all was heard that is to be heard of what the octets say
pub record HearsAll (table : RouteTable) (max : ℕ) (last : Option ℕ) (heard : List Heard) (octets : List ℕ) : Type 0 where
  pub life : List Heard
  pub is : IsLife table max octets life
  pub all : heard ≡ to_hear last life

-- of a connection that is gone: what was heard is a front of that, and not empty where the octets say something
pub record HearsFront (table : RouteTable) (max : ℕ) (last : Option ℕ) (heard : List Heard) (octets : List ℕ) : Type 0 where
  pub life : List Heard
  pub is : IsLife table max octets life
  pub behind : List Heard
  pub front : to_hear last life ≡ heard ++ behind
  pub begun : heard ≡ [] → life ≡ []
