use Rattle.std.proofs.Common.{◌≡◌, take}
use Rattle.tn_sym.specs.Inner.Readings.{forms_of}
use Rattle.tn_sym.proofs.reading.forms.Given as goal

abbrev pub invariant-loop-module : goal.invariant-loop-module
invariant-loop-module l = l.forms.items ≡ forms_of (take l.module-index l.modules)
