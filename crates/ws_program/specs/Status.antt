-- The exit statuses of the program.
use Rattle.std.specs.Prelude.{ℕ}
use Rattle.ws_program.specs.declared.status.Status.{Status}
use Rattle.ws_program.specs.declared.status.Status.TheVariants.{Done, Usage, Refused, ReadFault, WriteFault, NetFault, OutOfMemory}

abbrev pub exit_code_of : Status → ℕ
exit_code_of Done = 0
exit_code_of Usage = 2
exit_code_of (Refused line fault) = 3
exit_code_of ReadFault = 4
exit_code_of WriteFault = 5
exit_code_of NetFault = 6
exit_code_of OutOfMemory = 7
