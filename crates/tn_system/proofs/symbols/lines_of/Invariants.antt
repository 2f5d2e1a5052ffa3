use Rattle.std.proofs.Common.{◌≡◌, length, take}
use Rattle.std.specs.List.{flat_map}
use Rattle.tn_modtext.specs.Lines.{lines_of}
use Rattle.tn_system.proofs.symbols.lines_of.Given as goal

abbrev pub invariant-loop-module : goal.invariant-loop-module
invariant-loop-module l = l.lines ≡ length (flat_map lines_of (take l.module-index l.modules))
