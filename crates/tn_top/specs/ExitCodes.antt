-- Exit codes.
use Rattle.std.specs.Prelude.{ℕ}
use Rattle.tn_top.specs.declared.statuses.Status.{Status}
use Rattle.tn_top.specs.declared.statuses.Status.TheVariants.{Done, Fault, Usage, Limit, ReadFault, WriteFault, OutFault, NoMemory}
use Rattle.tn_top.specs.declared.statuses.Status.TheVariants.{NotEnabled}

-- the code that the program ends with
abbrev pub exit_code : Status → ℕ
exit_code Done = 0
exit_code Fault = 1
exit_code Usage = 2
exit_code Limit = 3
exit_code ReadFault = 4
exit_code WriteFault = 5
exit_code OutFault = 6
exit_code NoMemory = 7
exit_code NotEnabled = 8
