use Rattle.std.proofs.Common.{map, take}
use Rattle.tn_sym.specs.ProgramStates.{program_of}
use Rattle.tn_sym.specs.Inner.Readings.{AreCodesOf}
use Rattle.tn_sym.proofs.beginnings.codes.Given as goal

abbrev pub invariant-loop-program : goal.invariant-loop-program
invariant-loop-program l = AreCodesOf (map program_of (take l.program-index l.programs)) l.codes.items
