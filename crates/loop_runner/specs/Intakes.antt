-- What stands beside the hub for each connection.
use Rattle.std.specs.Prelude.{◌≡◌, ◌≢◌, ℕ, [], Option, None, Some, Bool, true, is_some}
use Rattle.std.specs.Borrow.{LendsSo, MutBor, Fml}
use Rattle.std.specs.Option.{OnSome}
use Rattle.std.specs.Ordering.{nat_cmp}
use Rattle.std.specs.BTreeMap.{get, WritesThrough}
use Rattle.frame_reader.specs.Reader as reader
use Rattle.frame_reader.specs.Reader.{is_unread, raw_of}
use Rattle.loop_runner.specs.declared.intakes.Intake.{Intake}
use Rattle.loop_runner.specs.declared.intakes.Intakes.{Intakes}
use Rattle.loop_runner.specs.contracts.intakes.Intake as intake_rows
use Rattle.loop_runner.specs.contracts.intakes.Intakes as intakes_rows

-- the most octets that a message may have
abbrev pub max_of : Intakes → ℕ
max_of intakes = intakes.max_message

-- the intake of a connection, if it is admitted
abbrev pub intake_at : Intakes → ℕ → Option Intake
intake_at intakes conn = get nat_cmp intakes.all conn

abbrev pub is_admitted : Intakes → ℕ → Bool
is_admitted intakes conn = is_some (intake_at intakes conn)

-- the intake of a connection that was just admitted
abbrev pub IsNew : ℕ → Option Intake → Type 0
IsNew max None = ⊥
IsNew max (Some intake) = (is_unread intake.reader ≡ true) × (raw_of intake.reader ≡ []) × (reader.max_of intake.reader ≡ max) × (intake.route ≡ 0) × (intake.param.items ≡ [])

-- the connection's intake may have changed, and no other
pub record ChangesIntake (conn : ℕ) (old new : Intakes) : Type 0 where
  pub max : max_of new ≡ max_of old
  pub others : (other : ℕ) → other ≢ conn → intake_at new other ≡ intake_at old other

-- nothing changed
pub record SameIntakes (old new : Intakes) : Type 0 where
  pub max : max_of new ≡ max_of old
  pub all : (conn : ℕ) → intake_at new conn ≡ intake_at old conn

-- what the intakes end as once a loan of one is over: it has the last value that was written
abbrev pub LendsIntake : MutBor Intakes → ℕ → Option (MutBor Intake) → Fml
LendsIntake intakes conn result = LendsSo intakes_rows.the_row intake_rows.the_row intakes result
    (λ new written. (new.max_message ≡ intakes.now.max_message) × OnSome result (WritesThrough nat_cmp (nat_cmp conn) intakes.now.all written new.all)) (λ new. new ≡ intakes.now)
