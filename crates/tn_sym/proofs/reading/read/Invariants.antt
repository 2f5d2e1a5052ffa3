use Rattle.std.proofs.Common.{◌≡◌, ◌≤◌, ◌+◌, ◌++◌, drop, length}
use Rattle.tn_sym.specs.Inner.Readings.{read_from}
use Rattle.tn_sym.proofs.reading.read.Given as goal

abbrev pub invariant-loop-form : goal.invariant-loop-form
invariant-loop-form l = record {
  made : l.made.items ++ read_from (l.base + length l.code) (drop l.form-index l.forms) l.rest
      ≡ read_from (l.base + length l.code) l.forms l.code;
  left : length l.rest ≤ length l.code;
}
