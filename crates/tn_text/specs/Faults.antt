-- Faults, and what they are called.
use Rattle.std.specs.Prelude.{ℕ, List, codes}
use Rattle.tn_text.specs.declared.faults.FaultCode.{FaultCode}
use Rattle.tn_text.specs.declared.faults.FaultCode.TheVariants as fault
use Rattle.tn_text.specs.declared.faults.Lack.{Lack}
use Rattle.tn_text.specs.declared.faults.Lack.TheVariants as lack
use Rattle.tn_text.specs.declared.faults.Part.{Part}
use Rattle.tn_text.specs.declared.faults.Part.TheVariants as part
use Rattle.tn_text.specs.declared.faults.Detail.TheVariants.{Nothing}
use Rattle.tn_text.specs.declared.faults.Fault.{Fault}
use Rattle.tn_text.specs.declared.faults.Cause.{Cause}

-- a fault's word
abbrev pub fault_word : FaultCode → List ℕ
fault_word fault.NotAscii = codes "NotAscii"
fault_word fault.BadLine = codes "BadLine"
fault_word fault.BadNumber = codes "BadNumber"
fault_word fault.NameTooLong = codes "NameTooLong"
fault_word fault.Missing = codes "Missing"
fault_word fault.DuplicateName = codes "DuplicateName"
fault_word fault.NoSuchName = codes "NoSuchName"
fault_word fault.WrongKind = codes "WrongKind"
fault_word fault.WrongOperand = codes "WrongOperand"
fault_word fault.Misaligned = codes "Misaligned"
fault_word fault.UndefinedSymbol = codes "UndefinedSymbol"
fault_word fault.DuplicateSymbol = codes "DuplicateSymbol"
fault_word fault.NoEntry = codes "NoEntry"
fault_word fault.OutsideMemory = codes "OutsideMemory"
fault_word fault.Overlap = codes "Overlap"
fault_word fault.DuplicateProcessor = codes "DuplicateProcessor"
fault_word fault.UnknownProcessor = codes "UnknownProcessor"
fault_word fault.WireTwice = codes "WireTwice"
fault_word fault.NoHost = codes "NoHost"
fault_word fault.Unreachable = codes "Unreachable"

-- the word for what is lacking
abbrev pub lack_word : Lack → List ℕ
lack_word lack.Module = codes "module"
lack_word lack.Code = codes "code"
lack_word lack.Data = codes "data"
lack_word lack.Workspace = codes "workspace"
lack_word lack.Entry = codes "entry"
lack_word lack.End = codes "end"
lack_word lack.Endlib = codes "endlib"

-- the word for a part of an image
abbrev pub part_word : Part → List ℕ
part_word part.Code = codes "code"
part_word part.Cells = codes "cells"
part_word part.Workspace = codes "workspace"

-- a fault that names nothing
abbrev pub bare : FaultCode → Cause
bare code = record { code = code; detail = Nothing }

-- the fault of a line
abbrev pub fault_at : ℕ → Cause → Fault
fault_at line cause = record { code = cause.code; line = line; detail = cause.detail }
