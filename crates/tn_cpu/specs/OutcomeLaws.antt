-- What holds of the outcome of every turn.
use Rattle.std.specs.Prelude.{◌≢◌, ◌<◌, ⊤}
use Rattle.tn_cpu.specs.declared.outcomes.Why.TheVariants.{Stray}
use Rattle.tn_cpu.specs.declared.outcomes.Transfer.{Transfer}
use Rattle.tn_cpu.specs.declared.outcomes.Outcome.{Outcome}
use Rattle.tn_cpu.specs.declared.outcomes.Outcome.TheVariants.{OpensIn, OpensOut, Stopped}

-- a transfer is on one of the four links, and of 1 byte or more
pub record IsLinkTransfer (transfer : Transfer) : Type 0 where
  pub link : transfer.link < 4
  pub count : 0 < transfer.count

-- where an engine opens, it is for such a transfer
abbrev pub OpensLink : Outcome → Type 0
OpensLink (OpensIn transfer) = IsLinkTransfer transfer
OpensLink (OpensOut transfer) = IsLinkTransfer transfer
OpensLink _ = ⊤

-- no instruction stops as stray: that is for what looks an instruction up before it executes it
abbrev pub IsNotStray : Outcome → Type 0
IsNotStray outcome = outcome ≢ Stopped Stray
