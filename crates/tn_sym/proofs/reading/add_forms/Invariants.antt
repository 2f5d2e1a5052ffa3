use Rattle.std.proofs.Common.{◌≡◌, ◌++◌, map, take}
use Rattle.tn_sym.specs.Inner.Readings.{form_of}
use Rattle.tn_sym.proofs.reading.add_forms.Given as goal

abbrev pub invariant-loop-item : goal.invariant-loop-item
invariant-loop-item l = l.forms.items ≡ l.initial.forms.items ++ map form_of (take l.item-index l.items)
